use Rattle.std.proofs.Common.{◌≡◌, ap, ◌∙◌, arith}
use Rattle.std.proofs.lemmas.Bool.Decides.{nat_tests}
use Rattle.bounded.specs.Held.{held}
use Rattle.ihex.specs.Digits.{octets}
use Rattle.ihex.proofs.Octets.{octets_from}
use Rattle.ihex.proofs.data_record.DataRecord.new.Goals as goal

pub invariant_of-result-clause-narrow : goal.invariant_of-result-clause-narrow
invariant_of-result-clause-narrow c =
    let same : held c.in_ok-data.data ≡ c.args.data.now = grind (arith, nat_tests) in
    ap octets same ∙ octets_from c.args.data.now (λ i. (c.type_inv.data i).fits)
