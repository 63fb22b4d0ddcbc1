-- what comes of each put on a lane that hands out at once what it does not drop
use Rattle.std.proofs.Common.{◌≡◌, ℕ, List, [], ◌∷◌, Option, refl, ap, ◌∙◌, ap₂}
use Rattle.lane.specs.declared.interface.Lane.{Ghosts as Lane}
use Rattle.transmission.specs.Layers.{Layer, outcomes, Trial}
use Rattle.transmission.specs.Sending.{Sends, none, one, Transmitted}
use Rattle.transmission.specs.Stacks.{Prompt}
use Rattle.transmission.specs.Tallies.{tally}
use Rattle.transmission.specs.declared.traffic.Traffic.{Traffic}

module _ {S : Type 0} {lane : Lane S} {layers : S → List Layer} (law : Prompt lane layers) where
  sends_outcomes : {s s' : S} {fs : List (List ℕ)} {os : List (Option (List ℕ))} → lane.waiting s ≡ [] → Sends lane s fs os s' → os ≡ outcomes (layers s) fs
  sends_outcomes h none = refl
  sends_outcomes {fs = f ∷ fs} h (one p r) =
      let i = law.busy _ _ f _ h p in
      ap₂ (λ o os. o ∷ os) i.outcome (sends_outcomes i.empty r ∙ ap (λ ls. outcomes ls fs) i.counts)

  pub trial : {s s' : S} {text : List ℕ} {t : Traffic} → lane.waiting s ≡ [] → Transmitted lane s text t s' → Trial (layers s) text t
  trial h a = record {
    records = a.records;
    rest = a.rest;
    sound = a.sound;
    begins = a.begins;
    ends = a.ends;
    tallied = a.sent.tallied ∙ ap tally (sends_outcomes h a.sent.sends);
  }
