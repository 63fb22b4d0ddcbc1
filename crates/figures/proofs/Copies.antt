-- examples of worn copies
use Rattle.std.proofs.Common.{ℕ, [], ◌∷◌}
use Rattle.lane.specs.Worn.{Worn, done, skip, copy}

pub lost_and_repeated : Worn {X = ℕ} (1 ∷ 2 ∷ 3 ∷ []) (1 ∷ 3 ∷ 3 ∷ [])
lost_and_repeated = copy (skip (skip (copy (copy (skip done)))))

pub never_reordered : Worn {X = ℕ} (1 ∷ 2 ∷ []) (2 ∷ 1 ∷ []) → ⊥
never_reordered (skip (skip w)) = elim w [ ]
never_reordered (skip (copy (skip w))) = elim w [ ]

pub never_made_up : Worn {X = ℕ} (1 ∷ 2 ∷ []) (3 ∷ []) → ⊥
never_made_up (skip (skip w)) = elim w [ ]

pub ruleset copies = (lost_and_repeated, never_reordered, never_made_up)
