use Rattle.std.proofs.Common.{◌≡◌, ◌*◌, take}
use Rattle.ihex.specs.Digits.{digits}
use Rattle.cases.proofs.words.put_digits.Given as goal

abbrev pub invariant-loop-i : goal.invariant-loop-i
invariant-loop-i l = take (2 * l.i) l.out ≡ digits (take l.i l.bytes)
