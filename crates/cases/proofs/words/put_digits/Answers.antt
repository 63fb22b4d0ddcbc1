use Rattle.std.proofs.Common.{◌≡◌, ◌*◌, ◌∙◌, ap, length, take, arith}
use Rattle.std.proofs.lemmas.List.{take_all}
use Rattle.ihex.specs.Digits.{digits}
use Rattle.cases.proofs.Pairs.{pair_more, IsAscii-digits}
use Rattle.cases.proofs.words.put_digits.Goals as goal

pub loop-i-preserved : goal.loop-i-preserved
loop-i-preserved c =
    pair_more c.loop-i.out c.args.bytes.now c.digits_of.result c.loop-i.i c.loop-i-test.true (omega (arith, c.requires, c.loop-i.auto.out, c.loop-i-test.true))
    c.loop-i.invariant c.digits_of.ensures

pub returns-clause-digits : goal.returns-clause-digits
returns-clause-digits c =
    let bs = c.args.bytes.now in
    let end : 2 * length bs ≡ 2 * c.loop-i.i = omega arith in
    ap (λ n. take n c.loop-i.out) end ∙ c.loop-i.invariant ∙ ap digits (take_all c.loop-i.i bs (omega arith))

pub returns-clause-ascii : goal.returns-clause-ascii
returns-clause-ascii c = rw (returns-clause-digits c) (IsAscii-digits c.args.bytes.now (λ i. (c.type_inv.bytes i).fits))
