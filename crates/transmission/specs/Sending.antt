-- sending the records of a file over a lane, each as an I frame
use Rattle.std.specs.Prelude.{◌≡◌, ℕ, Bool, false, List, [], ◌∷◌, ◌++◌, is_some, is_ok, Option}
use Rattle.std.specs.Option.{option_to_list}
use Rattle.std.specs.List.{flat_map, AllByRecursion}
use Rattle.ihex.specs.Content.{Content, line, Sound}
use Rattle.hdlc.specs.Messages.{information, frame}
use Rattle.hdlc.specs.Numbers.{next_number}
use Rattle.lane.specs.Calls.{Passes}
use Rattle.lane.specs.Worn.{Worn}
use Rattle.lane.specs.declared.interface.Lane.{Ghosts as Lane}
use Rattle.image.specs.Files.{file, first_record}
use Rattle.transmission.specs.Tallies.{tally}
use Rattle.transmission.specs.declared.traffic.Traffic.{Traffic}

-- the I frames of some records, numbered from n on
abbrev pub numbered : ℕ → List Content → List (List ℕ)
numbered n [] = []
numbered n (r ∷ rs) = frame (information n (line r)) ∷ numbered (next_number n) rs

-- the frames that came, of the outcomes of some takes
abbrev pub received : List (Option (List ℕ)) → List (List ℕ)
received os = flat_map option_to_list os

-- over a lane, by its ghost members
module _ {S : Type 0} (lane : Lane S) where
  -- each frame is put, and then one is taken if it comes, as this very lane does it
  pub data Sends : S → List (List ℕ) → List (Option (List ℕ)) → S → Type 0 where
    none : {s : S} → Sends s [] [] s
    one : {s m s' : S} {f : List ℕ} {fs : List (List ℕ)} {o : Option (List ℕ)} {os : List (Option (List ℕ))} → Passes lane.puts lane.takes s f o m → Sends m fs os s' → Sends s (f ∷ fs) (o ∷ os) s'

  -- one frame, and whether one came
  pub record SentOne (s : S) (f : List ℕ) (came : Bool) (s' : S) : Type 0 where
    pub outcome : Option (List ℕ)
    pub tells : came ≡ is_some outcome
    pub passes : Passes lane.puts lane.takes s f outcome s'
    pub worn : Worn (lane.waiting s ++ f ∷ []) (option_to_list outcome ++ lane.waiting s')

  -- what came, followed by what still waits, is a worn copy of what waited, followed by what was put
  pub record Sent (s : S) (fs : List (List ℕ)) (t : Traffic) (s' : S) : Type 0 where
    pub outcomes : List (Option (List ℕ))
    pub sends : Sends s fs outcomes s'
    pub worn : Worn (lane.waiting s ++ fs) (received outcomes ++ lane.waiting s')
    pub tallied : t ≡ tally outcomes

  -- the records at the front of a text, up to the first line that is none
  pub record Transmitted (s : S) (text : List ℕ) (t : Traffic) (s' : S) : Type 0 where
    pub records : List Content
    pub rest : List ℕ
    pub sound : AllByRecursion Sound records
    pub begins : text ≡ file records ++ rest
    pub ends : is_ok (first_record rest) ≡ false
    pub sent : Sent s (numbered 0 records) t s'
