-- what std's upper-case hexadecimal format writes of a number, at any width
use Rattle.std.proofs.Common.{◌≡◌, ℕ, zero, suc, ◌+◌, ◌-◌, ◌/◌, ◌%◌, ◌^◌, ◌<◌, ◌≤◌, ◌==◌, true, false, List, [], ◌∷◌, ◌++◌, length, replicate, refl, ap, ◌∙◌, sym, arith, ⊎_elim}
use Rattle.std.proofs.Math.Nat.{pow-suc}
use Rattle.std.proofs.lemmas.Bool.{cases_lt}
use Rattle.std.proofs.lemmas.Bool.Decides.{nat_tests}
use Rattle.std.proofs.lemmas.List.{append_assoc, append-nil, length-append, replicate-append-replicate}
use Rattle.std.specs.Fmt.{digits, digits_onto, padded_integral, char_count, format_spec}
use Rattle.ihex.specs.Digits.{digit}

-- the last w digits
abbrev pub places : ℕ → ℕ → List ℕ
places zero n = []
places (suc w) n = places w (n / 16) ++ digit (n % 16) ∷ []

zeros : (w : ℕ) → places w 0 ≡ replicate w 48
zeros zero = refl
zeros (suc w) =
    let one : w + 1 ≡ suc w = omega arith in
    ap (λ ds. ds ++ 48 ∷ []) (zeros w) ∙ replicate-append-replicate w 1 48 ∙ ap (λ k. replicate k 48) one

-- the digits of n stand before ds, and with zeros before them they are the last w
record Writes (fuel w n : ℕ) (ds : List ℕ) : Type 0 where
  text : List ℕ
  is : digits_onto fuel 16 true n ds ≡ text ++ ds
  few : length text ≤ w
  all : replicate (w - length text) 48 ++ text ≡ places w n

small : (f w n : ℕ) (ds : List ℕ) → n < 16 → Writes (suc f) (suc w) n ds
small f w n ds l =
    let q : n / 16 ≡ 0 = omega arith in
    let r : n % 16 ≡ n = omega arith in
    let gap : suc w - 1 ≡ w = omega arith in
    record { text = digit n ∷ []; is = rw (q, r) refl; few = omega arith; all = ap (λ k. replicate k 48 ++ digit n ∷ []) gap ∙ rw (q, r, zeros w) refl }

large : (f w n : ℕ) (ds : List ℕ) → 16 ≤ n → Writes f w (n / 16) (digit (n % 16) ∷ ds) → Writes (suc f) (suc w) n ds
large f w n ds g a =
    let d : ℕ = digit (n % 16) in
    let q : (n / 16 == 0) ≡ false = grind (arith, nat_tests) in
    let long : length (a.text ++ d ∷ []) ≡ length a.text + 1 = length-append a.text (d ∷ []) in
    let gap : suc w - length (a.text ++ d ∷ []) ≡ w - length a.text = omega (arith, long) in
    record {
      text = a.text ++ d ∷ [];
      is = rw q (a.is ∙ sym (append_assoc a.text (d ∷ []) ds));
      few = omega (arith, long, a.few);
      all = ap (λ k. replicate k 48 ++ (a.text ++ d ∷ [])) gap ∙ sym (append_assoc (replicate (w - length a.text) 48) a.text (d ∷ [])) ∙ ap (λ xs. xs ++ d ∷ []) a.all;
    }

writes : (f w n : ℕ) (ds : List ℕ) → w ≤ f → n < 16 ^ suc w → Writes (suc f) (suc w) n ds
writes f zero n ds e l = small f zero n ds (omega arith)
writes zero (suc w) n ds e l = absurd (omega arith)
writes (suc f) (suc w) n ds e l =
    ⊎_elim (λ s. small (suc f) (suc w) n ds s)
    (λ g. large (suc f) (suc w) n ds g (writes f w (n / 16) (digit (n % 16) ∷ ds) (omega arith) (omega (arith, pow-suc 16 (suc w)))))
    (cases_lt n 16)

padded : (w : ℕ) (ds : List ℕ) → padded_integral (format_spec 32 0 4 w (2 ^ 64 - 1)) false [] ds ≡ replicate (w - length ds) 48 ++ ds
unfolding padded_integral char_count
padded w ds =
    let gap : w - length ds - 0 - 0 ≡ w - length ds = omega arith in
    ap (λ k. replicate k 48 ++ (ds ++ [])) gap ∙ ap (λ xs. replicate (w - length ds) 48 ++ xs) (append-nil ds)

numeral : (w n : ℕ) → (a : Writes 64 w n []) → digits 16 true n ≡ a.text
unfolding digits
numeral w n a = a.is ∙ append-nil a.text

pub printed : (w n : ℕ) → w ≤ 63 → n < 16 ^ suc w → padded_integral (format_spec 32 0 4 (suc w) (2 ^ 64 - 1)) false [] (digits 16 true n) ≡ places (suc w) n
printed w n e l = let a = writes 63 w n [] e l in rw (numeral (suc w) n a, padded (suc w) a.text) a.all
