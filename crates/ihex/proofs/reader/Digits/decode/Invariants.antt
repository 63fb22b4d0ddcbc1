use Rattle.std.proofs.Common.{◌≡◌, ◌%◌, ◌++◌, take, drop}
use Rattle.ihex.specs.Digits.{bytes_of, total}
use Rattle.ihex.proofs.reader.Digits.decode.Given as goal

abbrev pub invariant-loop-i : goal.invariant-loop-i
invariant-loop-i l = record {
  sum : l.sum ≡ total (take l.i (bytes_of l.self.text.now)) % 256;
  out : l.out ≡ take l.i (bytes_of l.self.text.now) ++ drop l.i l.initial.out;
}
