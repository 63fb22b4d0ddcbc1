-- what a cable may do to the frames that wait in it
use Rattle.std.specs.Prelude.{List, [], ◌∷◌}

-- a worn copy of a list has zero or more copies of each element, in the old order
pub data Worn {X : Type 0} : List X → List X → Type 0 where
  done : Worn [] []
  skip : {x : X} {xs ys : List X} → Worn xs ys → Worn (x ∷ xs) ys
  copy : {x : X} {xs ys : List X} → Worn (x ∷ xs) ys → Worn (x ∷ xs) (x ∷ ys)
