-- the search for a line's CR LF
use Rattle.std.proofs.Common.{◌≡◌, ℕ, zero, suc, ◌+◌, ◌-◌, ◌<◌, ◌≤◌, ltb, min, List, [], ◌∷◌, ◌++◌, length, take, drop, Some, None, Ok, Err, Option, slice_index, MatchOption, refl, ap, ◌∙◌, arith}
use Rattle.std.proofs.lemmas.Bool.{cond-true, cond-false, lt-ltb, le-ltb}
use Rattle.std.proofs.lemmas.Grind.{common_steps}
use Rattle.std.proofs.lemmas.Bool.Decides.{nat_tests}
use Rattle.std.specs.Option.{option_map}
use Rattle.image.specs.Lines.{close, cut_at, first_line}
use Rattle.image.specs.declared.fault.ImageFault.TheVariants.{Line}

-- no CR LF stands at a place before n
abbrev pub NoneBefore : List ℕ → ℕ → Type 0
NoneBefore t n = (k : ℕ) → k < n → slice_index t k ≡ 13 → slice_index t (k + 1) ≡ 10 → ⊥

later : (c : ℕ) (t : List ℕ) (n : ℕ) → NoneBefore (c ∷ t) (suc n) → NoneBefore t n
later c t n h k l = let e : suc k + 1 ≡ suc (k + 1) = omega arith in rw e at (h (suc k) (omega arith))

passed : (c : ℕ) (t : List ℕ) (n : ℕ) → NoneBefore (c ∷ t) (suc n) → close (c ∷ t) ≡ option_map suc (close t)
passed c t n h = let z = h 0 (omega arith) in grind (arith, nat_tests, common_steps)

close_found : (t : List ℕ) (i : ℕ) → slice_index t i ≡ 13 → slice_index t (i + 1) ≡ 10 → NoneBefore t i → close t ≡ Some i
close_found [] i cr lf h = absurd (omega arith)
close_found (c ∷ t) zero cr lf h = grind (arith, nat_tests, common_steps)
close_found (c ∷ t) (suc i) cr lf h =
    let e : suc i + 1 ≡ suc (i + 1) = omega arith in
    passed c t i h ∙ ap (option_map suc) (close_found t i cr (rw e at lf) (later c t i h))

shift : (o : Option ℕ) (n : ℕ) → MatchOption o (Unit {0}) (λ i. n ≤ i) → MatchOption (option_map suc o) (Unit {0}) (λ i. suc n ≤ i)
shift None n h = tt
shift (Some i) n h = omega arith

close_far : (t : List ℕ) (n : ℕ) → NoneBefore t n → MatchOption (close t) (Unit {0}) (λ i. n ≤ i)
close_far t zero h = elim (close t) as (λ o. MatchOption o (Unit {0}) (λ i. 0 ≤ i)) [ None ↦ tt | Some i ↦ omega arith ]
close_far [] (suc n) h = tt
close_far (c ∷ t) (suc n) h = rw (passed c t n h) (shift (close t) n (close_far t n (later c t n h)))

cut_far : (t : List ℕ) (o : Option ℕ) → MatchOption o (Unit {0}) (λ i. 268 ≤ i) → cut_at t o ≡ Err Line
cut_far t None h = refl
cut_far t (Some i) h = cond-true (ltb 267 i) _ _ (lt-ltb 267 i (omega arith))

-- a text with a CR LF is what stands before it, the CR LF, and what follows
pub line_splits : (t : List ℕ) (i : ℕ) → slice_index t i ≡ 13 → slice_index t (i + 1) ≡ 10 → t ≡ take i t ++ 13 ∷ 10 ∷ drop (i + 2) t
line_splits t i cr lf = grind (arith, common_steps)

-- the answers
pub line_found : (t : List ℕ) (i : ℕ) → slice_index t i ≡ 13 → slice_index t (i + 1) ≡ 10 → NoneBefore t i → i ≤ 267
    → first_line t ≡ Ok (record { line = take i t; rest = drop (i + 2) t })
line_found t i cr lf h few = ap (cut_at t) (close_found t i cr lf h) ∙ cond-false (ltb 267 i) _ _ (le-ltb 267 i few)

pub line_missing : (t : List ℕ) → NoneBefore t 268 → first_line t ≡ Err Line
line_missing t h = cut_far t (close t) (close_far t 268 h)

-- a search over the places of a line
abbrev pub CrLf : List ℕ → ℕ → Type 0
CrLf t i = (slice_index t i ≡ 13) × (slice_index t (i + 1) ≡ 10)

pub record EndsLine (t : List ℕ) (i : ℕ) : Type 0 where
  pub within : i + 2 ≤ length t
  pub whole : t ≡ take i t ++ 13 ∷ 10 ∷ drop (i + 2) t
  pub line : first_line t ≡ Ok (record { line = take i t; rest = drop (i + 2) t })

inside : (t : List ℕ) (i : ℕ) → slice_index t i ≡ 10 → i < length t
inside [] i h = absurd (omega arith)
inside (c ∷ t) zero h = omega arith
inside (c ∷ t) (suc i) h = let l = inside t i h in omega arith

pub searched : (t : List ℕ) (n : ℕ) (o : Option ℕ) → n ≡ min (length t - 1) 268
    → MatchOption o ((k : ℕ) → 0 ≤ k → k < n → CrLf t k → ⊥) (λ i. (0 ≤ i) × (i < n) × CrLf t i × ((k : ℕ) → 0 ≤ k → k < i → CrLf t k → ⊥))
    → MatchOption o (first_line t ≡ Err Line) (EndsLine t)
searched t n None e h = line_missing t (λ k l cr lf. h k (omega arith) (omega (arith, e, inside t (k + 1) lf)) (cr, lf))
searched t n (Some i) e (_, l, (cr, lf), first) = record {
  within = omega (arith, e, l);
  whole = line_splits t i cr lf;
  line = line_found t i cr lf (λ k m cr' lf'. first k (omega arith) m (cr', lf')) (omega (arith, e, l));
}
