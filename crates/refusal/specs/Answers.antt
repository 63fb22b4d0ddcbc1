-- answers that may be refusals
use Rattle.std.specs.Prelude.{Bool, cond, Ok, Err, Result}
use Rattle.std.specs.Result.{result_map_both}

-- go on unless refused
abbrev pub then : {X Y E : Type 0} → Result X E → (X → Result Y E) → Result Y E
then (Ok x) f = f x
then (Err e) f = Err e

-- refuse by e where b holds
abbrev pub refuse : {X E : Type 0} → Bool → E → Result X E → Result X E
refuse b e r = cond b (Err e) r

-- an answer by what it means
abbrev pub answer : {X Y E : Type 0} → (X → Y) → Result X E → Result Y E
answer f r = result_map_both f (λ e. e) r
