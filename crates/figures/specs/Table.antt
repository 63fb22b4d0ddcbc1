-- The worked examples of the documents, as one table of facts about the definitions.
use Rattle.std.specs.Prelude.{◌≡◌, ℕ, true, false, [], ◌∷◌, is_ok, Ok, Err, codes, Result}
use Rattle.refusal.specs.Number.{number_of}
use Rattle.ihex.specs.Content.{Content, data_at, end_of_file, line}
use Rattle.ihex.specs.Meaning.{refusal_of}
use Rattle.ihex.specs.Reading.{reading}
use Rattle.ihex.specs.declared.fault.RecordFault.{RecordFault}
use Rattle.hdlc.specs.Decoding.{decoding}
use Rattle.hdlc.specs.Messages.{information, receive_ready, frame}
use Rattle.hdlc.specs.Numbers.{next_number}
use Rattle.lane.specs.Drops.{counted, dropped}
use Rattle.lane.specs.Worn.{Worn}

-- a text that is refused by this number
abbrev pub RefusedBy : ℕ → Result Content RecordFault → Type 0
RefusedBy n (Ok r) = ⊥
RefusedBy n (Err f) = number_of (refusal_of f) ≡ n

-- the load cell's section: reading -300, tare 20, latch 0
abbrev pub cell_section : Content
cell_section = data_at 0x8100 (0xFE ∷ 0xD4 ∷ 0x00 ∷ 0x14 ∷ 0x00 ∷ [])

pub record Figures : Type 0 where
  -- records
  pub cell_line : reading (codes ":05810000FED400140094") ≡ Ok cell_section
  pub cell_written : line cell_section ≡ codes ":05810000FED400140094"
  pub cell_sum : RefusedBy 5 (reading (codes ":05810000FED400140095"))
  pub end_line : line end_of_file ≡ codes ":00000001FF"
  -- frames
  pub after_seven : next_number 7 ≡ 0
  pub information_written : frame (information 3 (0x3A ∷ [])) ≡ 0xFF ∷ 0x06 ∷ 0x3A ∷ []
  pub ready_written : frame (receive_ready 7) ≡ 0xFF ∷ 0xE1 ∷ []
  pub ready_decoded : decoding (0xFF ∷ 0xE1 ∷ []) ≡ Ok (receive_ready 7)
  pub ready_with_more : is_ok (decoding (0xFF ∷ 0xE1 ∷ 0x00 ∷ [])) ≡ false
  pub final_bit : is_ok (decoding (0xFF ∷ 0x10 ∷ [])) ≡ false
  pub other_address : is_ok (decoding (0xFE ∷ 0x00 ∷ [])) ≡ false
  -- worn copies
  pub lost_and_repeated : Worn {X = ℕ} (1 ∷ 2 ∷ 3 ∷ []) (1 ∷ 3 ∷ 3 ∷ [])
  pub never_reordered : Worn {X = ℕ} (1 ∷ 2 ∷ []) (2 ∷ 1 ∷ []) → ⊥
  pub never_made_up : Worn {X = ℕ} (1 ∷ 2 ∷ []) (3 ∷ []) → ⊥
  -- a losing layer with k = 3: the third put is dropped, and the count begins anew
  pub third_dropped : (counted 3 1 ≡ 2) × (dropped 3 1 ≡ false) × (dropped 3 2 ≡ true) × (counted 3 2 ≡ 0)
  pub k_of_0 : dropped 0 0 ≡ false
  pub k_of_1 : dropped 1 0 ≡ true
