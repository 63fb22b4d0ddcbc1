-- what was put, taken and lost
use Rattle.std.specs.Prelude.{ℕ, ◌+◌, Bool, cond, List, [], ◌∷◌, is_some, Option}
use Rattle.transmission.specs.declared.traffic.Traffic.{Traffic}

abbrev pub no_traffic : Traffic
no_traffic = record { put = 0; taken = 0; lost = 0 }

-- one put more, after which a frame came or did not
abbrev pub counted : Traffic → Bool → Traffic
counted t came = record { put = t.put + 1; taken = t.taken + cond came 1 0; lost = t.lost + cond came 0 1 }

-- the traffic of these outcomes, each of one put and one take
abbrev pub tally_from : Traffic → List (Option (List ℕ)) → Traffic
tally_from t [] = t
tally_from t (o ∷ os) = tally_from (counted t (is_some o)) os

abbrev pub tally : List (Option (List ℕ)) → Traffic
tally os = tally_from no_traffic os
