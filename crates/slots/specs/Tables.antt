-- a table of eight places, and the frames that wait in it
use Rattle.std.specs.Prelude.{◌≡◌, ℕ, zero, suc, ◌+◌, ◌-◌, ◌%◌, cond, List, [], ◌∷◌, ◌++◌, map, length, replicate, Some, None, Option, nat_lt, slice_index_or, slice_set}
use Rattle.bounded.specs.Held.{held}
use Rattle.slots.specs.declared.table.Table.{Table}

-- the frame in each place, the place of the oldest that waits, and how many wait
pub record View : Type 0 where
  pub places : List (List ℕ)
  pub head : ℕ
  pub count : ℕ

abbrev pub view : {n : ℕ} → Table n → View
view t = record { places = map held t.places; head = t.head; count = t.count }

-- n frames from place h on, around the table's end
abbrev pub from_place : List (List ℕ) → ℕ → ℕ → List (List ℕ)
from_place fs h zero = []
from_place fs h (suc n) = slice_index_or fs (h % 8) [] ∷ from_place fs (suc h) n

-- the frames that wait, the oldest first
abbrev pub waits : View → List (List ℕ)
waits v = from_place v.places v.head v.count

-- a table in which nothing waits
abbrev pub blank : View
blank = record { places = replicate 8 []; head = 0; count = 0 }

-- the place after the youngest
abbrev pub next_place : View → ℕ
next_place v = (v.head + v.count) % 8

-- it is filled, and no other place changes
abbrev pub filled : List ℕ → View → View
filled f v = record { places = slice_set v.places (next_place v) f; head = v.head; count = v.count + 1 }

-- the oldest leaves, and no place changes
abbrev pub advanced : View → View
advanced v = record { places = v.places; head = (v.head + 1) % 8; count = v.count - 1 }

-- a frame is added to those that wait, or lost exactly when eight wait
abbrev pub queued : List ℕ → List (List ℕ) → List (List ℕ)
queued f fs = cond (nat_lt (length fs) 8) (fs ++ f ∷ []) fs

pub record Stores (v : View) (f : List ℕ) (v' : View) : Type 0 where
  pub table : v' ≡ cond (nat_lt v.count 8) (filled f v) v
  pub queue : waits v' ≡ queued f (waits v)

-- the oldest is handed out whenever one waits
abbrev pub HandsOut : View → Option (List ℕ) → View → Type 0
HandsOut v None v' = (waits v ≡ []) × (v' ≡ v)
HandsOut v (Some f) v' = (waits v ≡ f ∷ waits v') × (v' ≡ advanced v)
