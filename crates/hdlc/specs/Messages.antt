-- what a frame says, and its octets
use Rattle.std.specs.Prelude.{ℕ, ◌+◌, ◌*◌, ◌<◌, ◌≤◌, List, [], ◌∷◌, length}

-- an I frame has a number N(S) and information, an RR frame a number N(R)
pub data Message : Type 0 where
  information : ℕ → List ℕ → Message
  receive_ready : ℕ → Message

abbrev pub control_of : Message → ℕ
control_of (information n info) = 2 * n
control_of (receive_ready n) = 1 + 32 * n

abbrev pub information_of : Message → List ℕ
information_of (information n info) = info
information_of (receive_ready n) = []

-- the address FFh, the control octet and the information
abbrev pub frame : Message → List ℕ
frame m = 255 ∷ control_of m ∷ information_of m

-- what a frame can say: numbers from 0 to 7, and at most 267 octets
abbrev pub Sound : Message → Type 0
Sound (information n info) = (n < 8) × (length info ≤ 267)
Sound (receive_ready n) = n < 8
