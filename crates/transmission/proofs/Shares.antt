-- how many of the puts the layers lose
use Rattle.std.proofs.Common.{◌≡◌, ℕ, zero, suc, ◌+◌, ◌-◌, ◌/◌, ◌%◌, ◌<◌, ◌≤◌, Bool, true, false, cond, ◌||◌, eqb, List, [], ◌∷◌, length, is_some, Some, None, refl, ap, ◌∙◌, arith, ⊎_elim, mod-eq_of_lt}
use native.Mathlib.Nat.{add-div_left, div-eq_of_lt, mod_self}
use Rattle.std.proofs.lemmas.Bool.{cases_eq, ne_eqb}
use Rattle.std.specs.List.{AllByRecursion}
use Rattle.lane.specs.Drops.{counted, dropped}
use Rattle.transmission.specs.Layers.{Layer, drops, after, passed_on, IsFresh, outcomes, Trial, kth_of, lost_of}
use Rattle.transmission.specs.Sending.{numbered}
use Rattle.transmission.specs.Tallies.{tally_from, no_traffic}
use Rattle.transmission.specs.Tallies
use Rattle.transmission.proofs.Progress.{one_of}
use Rattle.transmission.specs.declared.traffic.Traffic.{Traffic}

-- of n puts on a layer
abbrev losses : ℕ → ℕ → ℕ → ℕ
losses k p zero = 0
losses k p (suc n) = cond (dropped k p) 1 0 + losses k (counted k p) n

-- of n puts on layers
abbrev lost_by : List Layer → ℕ → ℕ
lost_by [] n = 0
lost_by (l ∷ ls) n = losses l.every l.passed n + lost_by ls (n - losses l.every l.passed n)

losses_below : (k p n : ℕ) → losses k p n ≤ n
losses_below k p zero = omega arith
losses_below k p (suc n) = omega (arith, one_of (dropped k p), losses_below k (counted k p) n)

none_by : (ls : List Layer) → lost_by ls 0 ≡ 0
none_by [] = refl
none_by (l ∷ ls) = omega (arith, none_by ls)

next_by : (ls : List Layer) (n : ℕ) → lost_by ls (suc n) ≡ cond (drops ls) 1 0 + lost_by (after ls) n
next_by [] n = omega arith
next_by (l ∷ ls) n =
    let d = losses l.every (counted l.every l.passed) n in
    let few : d ≤ n = losses_below l.every (counted l.every l.passed) n in
    let one : suc n - (1 + d) ≡ n - d = omega arith in
    let none : suc n - (0 + d) ≡ suc (n - d) = omega arith in
    elim (dropped l.every l.passed) as (λ b. (cond b 1 0 + d) + lost_by ls (suc n - (cond b 1 0 + d)) ≡ cond (b || drops ls) 1 0 + (d + lost_by (cond b ls (after ls)) (n - d))) [
      | true ↦ omega (arith, ap (lost_by ls) one)
      | false ↦ omega (arith, ap (lost_by ls) none, next_by ls (n - d))
    ]

lost_one : (b : Bool) (f : List ℕ) → cond {A = ℕ} (is_some (cond b None (Some f))) 0 1 ≡ cond b 1 0
lost_one true f = refl
lost_one false f = refl

tallied : (ls : List Layer) (t : Traffic) (fs : List (List ℕ)) → let u = tally_from t (outcomes ls fs) in
    (u.put ≡ t.put + length fs) × (u.lost ≡ t.lost + lost_by ls (length fs))
tallied ls t [] = (omega arith, omega (arith, none_by ls))
tallied ls t (f ∷ fs) =
    let rest = tallied (after ls) (Tallies.counted t (is_some (passed_on ls f))) fs in
    (omega (arith, rest.0), omega (arith, rest.1, next_by ls (length fs), lost_one (drops ls) f))

-- of n puts on a layer whose k is not 0
divisor : (j : ℕ) → eqb (suc j) 0 ≡ false
divisor j = ne_eqb (suc j) 0 (λ e. omega (arith, e))

losses_are : (j p n : ℕ) → p < suc j → losses (suc j) p n ≡ (p + n) / suc j
losses_are j p zero low =
    let small : p + 0 < suc j = omega arith in
    omega (arith, div-eq_of_lt small)
losses_are j p (suc n) low =
    ⊎_elim
    (λ (full : p + 1 ≡ suc j).
    let e : (p + 1) % suc j ≡ 0 = ap (λ x. x % suc j) full ∙ mod_self (suc j) in
    let sum : p + suc n ≡ suc j + (0 + n) = omega arith in
    let one : (p + suc n) / suc j ≡ (0 + n) / suc j + 1 = ap (λ x. x / suc j) sum ∙ add-div_left (0 + n) (omega arith) in
    rw (divisor j, e) (omega (arith, losses_are j 0 n (omega arith), one)))
    (λ room.
    let below : p + 1 < suc j = omega (arith, room) in
    let sum : p + suc n ≡ p + 1 + n = omega arith in
    rw (divisor j, mod-eq_of_lt below, ne_eqb (p + 1) 0 (λ z. omega (arith, z))) (omega (arith, losses_are j (p + 1) n below, ap (λ x. x / suc j) sum)))
    (cases_eq (p + 1) (suc j))

never : (p n : ℕ) → losses 0 p n ≡ 0
never p zero = refl
never p (suc n) = omega (arith, never 0 n)

kth : (k n : ℕ) → losses k 0 n ≡ kth_of k n
kth zero n = never 0 n
kth (suc j) n = rw (divisor j) (losses_are j 0 n (omega arith) ∙ ap (λ x. x / suc j) (omega arith))

fresh_by : (ls : List Layer) (n : ℕ) → AllByRecursion IsFresh ls → lost_by ls n ≡ lost_of ls n
fresh_by [] n all = refl
fresh_by (l ∷ ls) n (new, all) =
    let own : losses l.every l.passed n ≡ kth_of l.every n = rw new (kth l.every n) in
    rw own (ap (λ m. kth_of l.every n + m) (fresh_by ls (n - kth_of l.every n) all))

pub lost : {ls : List Layer} {text : List ℕ} {t : Traffic} → AllByRecursion IsFresh ls → Trial ls text t → t.lost ≡ lost_of ls t.put
lost {ls} {t} new a =
    let fs = numbered 0 a.records in
    let h = rw (← a.tallied) at (tallied ls no_traffic fs) in
    let put : length fs ≡ t.put = omega (arith, h.0) in
    omega (arith, h.1, fresh_by ls (length fs) new, ap (lost_of ls) put)
