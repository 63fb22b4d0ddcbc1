use Rattle.std.proofs.Common.{rules, arith}
use Rattle.std.proofs.lemmas.Grind.{common_steps}
use Rattle.ihex.specs.Meaning.{content}
use Rattle.transmission.proofs.Progress.{far_on, far_ends}
use Rattle.transmission.proofs.sending.transmit.Goals as goal

pub loop-entry-preserved : goal.loop-entry-preserved
loop-entry-preserved g c =
    let b = c.in-Ok.ensures.canonical in
    far_on g.L.Lane _ _ _ _ _ _ _ _ _ _ _ (content c.in-Ok.entry.record) _ c.loop-entry.invariant b.0
    b.2 (grind (arith, common_steps, b.1, b.2)) c.count.ensures c.next-number.ensures c.send-came.ensures

pub returns : goal.returns
returns g c = far_ends _ c.loop-entry.invariant (search rules)
