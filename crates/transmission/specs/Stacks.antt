-- losing layers over a slot lane hand out at once what they do not drop
use Rattle.std.specs.Prelude.{◌≡◌, ℕ, Bool, true, false, cond, ◌||◌, List, [], ◌∷◌, Some, None, MatchBool, Option, refl}
use Rattle.std.proofs.Common.{ap, ◌∙◌, subst}
use Rattle.std.specs.Option.{option_to_list}
use Rattle.lane.specs.Calls.{Passes}
use Rattle.lane.specs.Drops.{dropped, LayerPuts, LayerTakes}
use Rattle.lane.specs.declared.interface.Lane.{Ghosts as Lane}
use Rattle.lane.specs.declared.losing.Losing.{Losing}
use Rattle.slots.specs.Slots.{in_slots, SlotPuts, SlotTakes}
use Rattle.slots.specs.Tables.{waits, queued}
use Rattle.slots.specs.declared.slot_lane.SlotLane.{SlotLane}
use Rattle.transmission.specs.Layers.{Layer, passed_on, drops, after}

module _ {S : Type 0} (lane : Lane S) (layers : S → List Layer) where
  -- this is handed out, nothing waits any more, and the layers are these
  pub record Leaves (o o' : Option (List ℕ)) (s : S) (ls : List Layer) : Type 0 where
    pub outcome : o ≡ o'
    pub empty : lane.waiting s ≡ []
    pub counts : layers s ≡ ls

  -- where nothing waits, a take hands out nothing, and after a put what the layers let through
  pub record Prompt : Type 0 where
    pub idle : (s s' : S) (o : Option (List ℕ)) → lane.waiting s ≡ [] → lane.takes s o s' → Leaves o None s' (layers s)
    pub busy : (s s' : S) (f : List ℕ) (o : Option (List ℕ)) → lane.waiting s ≡ [] → Passes lane.puts lane.takes s f o s'
        → Leaves o (passed_on (layers s) f) s' (after (layers s))

-- a slot lane has none
abbrev pub no_layers : SlotLane → List Layer
no_layers s = []

abbrev slot_lane : Lane SlotLane
slot_lane = record { waiting = in_slots; puts = SlotPuts; takes = SlotTakes }

slots_take : (m s' : SlotLane) (x o : Option (List ℕ)) → in_slots m ≡ option_to_list x → SlotTakes m o s' → Leaves slot_lane no_layers o x s' []
slots_take m s' None None h (e, v) = record { outcome = refl; empty = ap waits v ∙ e; counts = refl }
slots_take m s' None (Some g) h (e, v) = cc
slots_take m s' (Some f) None h (e, v) = cc
slots_take m s' (Some f) (Some g) h (e, v) = record { outcome = cc; empty = cc; counts = refl }

pub slots_prompt : Prompt slot_lane no_layers
slots_prompt = record {
  idle = λ s s' o h t. slots_take s s' None o h t;
  busy = λ s s' f o h (m, p, t). slots_take m s' (Some f) o (p.queue ∙ ap (queued f) h) t;
}

-- a layer over others
abbrev pub layer_over : {S : Type 0} → (S → List Layer) → Losing S → List Layer
layer_over layers s = record { every = s.every; passed = s.passed } ∷ layers s.below

abbrev losing : {S : Type 0} → Lane S → Lane (Losing S)
losing lane = record { waiting = λ s. lane.waiting s.below; puts = LayerPuts lane.puts; takes = LayerTakes lane.takes }

module _ {S : Type 0} {lane : Lane S} {layers : S → List Layer} (below : Prompt lane layers) where
  by_drop : (b : Bool) (s m s' : S) (f : List ℕ) (o : Option (List ℕ)) → lane.waiting s ≡ [] → MatchBool b (m ≡ s) (lane.puts s f m) → lane.takes m o s'
      → Leaves lane layers o (cond (b || drops (layers s)) None (Some f)) s' (cond b (layers s) (after (layers s)))
  by_drop true s m s' f o h e t = below.idle s s' o h (subst (λ x. lane.takes x o s') e t)
  by_drop false s m s' f o h p t = below.busy s s' f o h (m, p, t)

  pub losing_prompt : Prompt (losing lane) (layer_over layers)
  losing_prompt = record {
    idle = λ s s' o h t. let i = below.idle s.below s'.below o h t.2 in record { outcome = i.outcome; empty = i.empty; counts = cc };
    busy = λ s s' f o h (m, p, t).
        let i = by_drop (dropped s.every s.passed) s.below m.below s'.below f o h p.2 t.2 in
        record { outcome = i.outcome; empty = i.empty; counts = cc };
  }
