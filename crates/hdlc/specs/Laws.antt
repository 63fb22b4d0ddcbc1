-- what decoding and encoding have to do with one another
use Rattle.std.specs.Prelude.{◌≡◌, ℕ, List, Ok, Err, Result}
use Rattle.refusal.specs.declared.UnsoundFrame.{UnsoundFrame}
use Rattle.hdlc.specs.Decoding.{decoding}
use Rattle.hdlc.specs.Messages.{Message, frame, Sound}

-- decoding the octets of a frame gives the frame
abbrev pub DecodesBack : Message → Type 0
DecodesBack m = Sound m → decoding (frame m) ≡ Ok m

-- a string is sound only if it is what is written for the frame read
abbrev pub Canonical : List ℕ → Result Message UnsoundFrame → Type 0
Canonical bs (Ok m) = Sound m × (bs ≡ frame m)
Canonical bs (Err e) = Unit {0}
