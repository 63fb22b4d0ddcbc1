-- a trial of each lane
use Rattle.std.specs.Prelude.{ℕ, List, [], ◌∷◌}
use Rattle.transmission.specs.Layers.{Trial, fresh}
use Rattle.transmission.specs.declared.trials.Trials.{Trials}

pub record Tried (text : List ℕ) (t : Trials) : Type 0 where
  pub slots : Trial [] text t.slots
  pub losing : Trial (fresh 10 ∷ []) text t.losing
  pub layered : Trial (fresh 7 ∷ fresh 10 ∷ []) text t.layered
