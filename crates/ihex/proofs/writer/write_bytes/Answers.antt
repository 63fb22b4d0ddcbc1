use Rattle.std.proofs.Common.{◌+◌, ◌*◌, [], ◌∷◌, get_or, take, sym, ap, ◌∙◌, arith}
use Rattle.std.proofs.lemmas.List.{take_more, length-take-le}
use Rattle.ihex.specs.Writing.{spelled}
use Rattle.ihex.proofs.Totals.{total_more}
use Rattle.ihex.proofs.WriteSteps.{spelled_more}
use Rattle.ihex.proofs.writer.write_bytes.Goals as goal

pub loop-i-preserved : goal.loop-i-preserved
loop-i-preserved c =
    let o = c.args.out.now in
    let bs = c.args.bytes.now in
    let i = c.loop-i.i in
    let at = c.args.at in
    record {
      sum = omega (arith, total_more c.args.start i bs (omega arith));
      out = c.write_byte-sum.ensures.out
          ∙ ap (λ z. spelled z (at + 2 * i) (get_or bs i 0 ∷ [])) c.loop-i.invariant.out
          ∙ spelled_more o (take i bs) (get_or bs i 0 ∷ []) at _ (omega arith) (omega (arith, length-take-le i bs (omega arith)))
          ∙ ap (spelled o at) (sym (take_more bs i 0 (omega arith)));
    }
