-- runs wear what is put
use Rattle.std.proofs.Common.{List, [], ◌∷◌, ◌++◌}
use Rattle.std.proofs.lemmas.List.{append_assoc, append-nil}
use Rattle.lane.specs.Runs.{begun, put, nothing_yet, take, RunsWear}
use Rattle.lane.specs.Worn.{Worn}
use Rattle.lane.proofs.Worns.{Worn_same, Worn_trans, Worn-append}

-- one run, and then another: the lists that wait, what is put and what is taken
pub Worn_then : {X : Type 0} (xs ys zs ps qs ts us : List X) → Worn (xs ++ ps) (ts ++ ys) → Worn (ys ++ qs) (us ++ zs)
    → Worn (xs ++ (ps ++ qs)) ((ts ++ us) ++ zs)
Worn_then xs ys zs ps qs ts us w v =
    simp append_assoc (Worn_trans (simp append_assoc at (Worn-append w (Worn_same qs))) (Worn-append (Worn_same ts) v))

-- a take alone
unput : {X : Type 0} (old : List X) {new : List X} → Worn old new → Worn (old ++ []) new
unput old w = simp append-nil w

pub runs_wear : RunsWear
runs_wear old puts taken new begun = unput old (Worn_same old)
runs_wear old (f ∷ puts) taken new (put {mid} w r) = Worn_then old mid new (f ∷ []) puts [] taken w (runs_wear mid puts taken new r)
runs_wear old puts taken new (nothing_yet {mid} w r) = Worn_then old mid new [] puts [] taken (unput old w) (runs_wear mid puts taken new r)
runs_wear old puts (f ∷ taken) new (take {mid} w r) = Worn_then old mid new [] puts (f ∷ []) taken (unput old w) (runs_wear mid puts taken new r)
