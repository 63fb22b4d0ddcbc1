-- one frame sent
use Rattle.std.proofs.Common.{◌≡◌, ℕ, Bool, List, [], ◌∷◌, ◌++◌, take, is_some, Some, None, Option, arith}
use Rattle.std.proofs.lemmas.Grind.{common_steps}
use Rattle.lane.specs.Calls.{Handed, Taken, Passes}
use Rattle.lane.specs.declared.interface.Lane.{Ghosts as Lane}
use Rattle.transmission.specs.Sending.{SentOne}

-- whether a frame came of a put and a take tells what the lane did
pub sent_one : {S : Type 0} {lane : Lane S} (s s' : S) (f buf buf' : List ℕ) (o : Option ℕ) (came : Bool) → came ≡ is_some o
    → Taken (lane.waiting s ++ f ∷ []) buf o (lane.waiting s') buf' → Handed (λ h. Passes lane.puts lane.takes s f h s') o buf' → SentOne lane s f came s'
sent_one s s' f buf buf' None came e (w, same) h = record { outcome = None; tells = e; passes = h; worn = w }
sent_one s s' f buf buf' (Some n) came e (x, long, w, front) h =
    let taken : take n buf' ≡ x = grind (arith, common_steps) in
    record { outcome = Some (take n buf'); tells = e; passes = h; worn = rw taken w }
