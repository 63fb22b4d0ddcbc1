use Rattle.std.proofs.Common.{length}
use Rattle.transmission.proofs.Progress.{SoFar}
use Rattle.transmission.proofs.sending.transmit.Given as goal

abbrev pub invariant-loop-entry : goal.invariant-loop-entry
invariant-loop-entry g l =
    SoFar g.L.Lane l.initial.lane l.text l.traffic l.number l.rest l.lane

abbrev pub decreases-loop-entry : goal.decreases-loop-entry
decreases-loop-entry g l = length l.rest
