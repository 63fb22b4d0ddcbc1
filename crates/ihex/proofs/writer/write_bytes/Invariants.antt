use Rattle.std.proofs.Common.{◌≡◌, ◌+◌, ◌%◌, take}
use Rattle.ihex.specs.Digits.{total}
use Rattle.ihex.specs.Writing.{spelled}
use Rattle.ihex.proofs.writer.write_bytes.Given as goal

abbrev pub invariant-loop-i : goal.invariant-loop-i
invariant-loop-i l = record {
  sum : l.sum ≡ (l.start + total (take l.i l.bytes)) % 256;
  out : l.out ≡ spelled l.initial.out l.at (take l.i l.bytes);
}
