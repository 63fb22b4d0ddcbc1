-- what the slot lane does, exactly
use Rattle.std.specs.Prelude.{ℕ, List, Option}
use Rattle.slots.specs.Tables.{View, view, waits, Stores, HandsOut}
use Rattle.slots.specs.declared.slot_lane.SlotLane.{SlotLane}

abbrev pub table_of : SlotLane → View
table_of l = view l.table

-- the frames that wait
abbrev pub in_slots : SlotLane → List (List ℕ)
in_slots l = waits (table_of l)

abbrev pub SlotPuts : SlotLane → List ℕ → SlotLane → Type 0
SlotPuts l f l' = Stores (table_of l) f (table_of l')

abbrev pub SlotTakes : SlotLane → Option (List ℕ) → SlotLane → Type 0
SlotTakes l o l' = HandsOut (table_of l) o (table_of l')
