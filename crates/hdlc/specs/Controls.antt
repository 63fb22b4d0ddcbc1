-- control octets
use Rattle.std.specs.Prelude.{◌≡◌, ℕ, ◌+◌, ◌*◌, false, Ok, Err, Result}
use Rattle.refusal.specs.declared.UnsoundFrame.{UnsoundFrame}
use Rattle.hdlc.specs.Decoding.{is_information, is_receive_ready}
use Rattle.hdlc.specs.Numbers.{number_of}
use Rattle.hdlc.specs.declared.control.Control.{Control}
use Rattle.hdlc.specs.declared.control.Control.TheVariants.{Information, ReceiveReady}

-- 2 × N(S), or 1 + 32 × N(R)
abbrev pub octet_of : Control → ℕ
octet_of (Information n) = 2 * number_of n
octet_of (ReceiveReady n) = 1 + 32 * number_of n

-- the control whose octet it is; refused where it is that of no frame
abbrev pub Reads : ℕ → Result Control UnsoundFrame → Type 0
Reads c (Ok k) = c ≡ octet_of k
Reads c (Err e) = (is_information c 0 ≡ false) × (is_receive_ready c 0 ≡ false)
