-- bytes and their digits
use Rattle.std.proofs.Common.{◌≡◌, ℕ, zero, suc, ◌+◌, ◌*◌, ◌/◌, ◌%◌, ◌<◌, ◌≤◌, true, List, [], ◌∷◌, ◌++◌, length, get_or, refl, ap, arith}
use Rattle.std.specs.Simd.{first_chunks}
use Rattle.std.proofs.lemmas.Bool.Decides.{nat_tests}
use Rattle.ihex.specs.Digits.{digit, is_digit, value, all_digits, digits, bytes_of, octets}

-- one digit
value-digit : (n : ℕ) → n < 16 → value (digit n) ≡ n
value-digit n h = grind (arith, nat_tests)

digit_is_digit : (n : ℕ) → n < 16 → is_digit (digit n) ≡ true
digit_is_digit n h = grind (arith, nat_tests)

digit-value : (c : ℕ) → is_digit c ≡ true → digit (value c) ≡ c
digit-value c h = grind (arith, nat_tests)

value_below : (c : ℕ) → is_digit c ≡ true → value c < 16
value_below c h = grind (arith, nat_tests)

-- digits from bytes
pub digits-append : (xs ys : List ℕ) → digits (xs ++ ys) ≡ digits xs ++ digits ys
digits-append [] ys = refl
digits-append (x ∷ xs) ys = ap (λ z. digit (x / 16) ∷ digit (x % 16) ∷ z) (digits-append xs ys)

pub length-digits : (xs : List ℕ) → length (digits xs) ≡ 2 * length xs
length-digits [] = refl
length-digits (x ∷ xs) = let h = length-digits xs in omega arith

pub digits_are_digits : (bs : List ℕ) → octets bs ≡ true → all_digits (digits bs) ≡ true
digits_are_digits [] h = refl
digits_are_digits (b ∷ bs) h = grind (arith, nat_tests, digit_is_digit, digits_are_digits bs)

-- bytes from digits
pub length-bytes : (cs : List ℕ) → length (bytes_of cs) ≡ length cs / 2
length-bytes [] = refl
length-bytes (a ∷ []) = refl
length-bytes (a ∷ b ∷ cs) = let h = length-bytes cs in omega arith

pub bytes_are_octets : (cs : List ℕ) → all_digits cs ≡ true → octets (bytes_of cs) ≡ true
bytes_are_octets [] h = refl
bytes_are_octets (a ∷ []) h = refl
bytes_are_octets (a ∷ b ∷ cs) h = grind (arith, nat_tests, value_below, bytes_are_octets cs)

-- a pair of digits, and its byte
pub record IsPair (p : List ℕ) (b : ℕ) : Type 0 where
  pub high : is_digit (get_or p 0 0) ≡ true
  pub low : is_digit (get_or p 1 0) ≡ true
  pub byte : b ≡ value (get_or p 0 0) * 16 + value (get_or p 1 0)

pair_in : (cs : List ℕ) (n i : ℕ) → 2 * n ≤ length cs → i < n → all_digits cs ≡ true
    → IsPair (get_or (first_chunks 2 n cs) i []) (get_or (bytes_of cs) i 0)
pair_in cs zero i e l h = absurd (omega arith)
pair_in [] (suc n) i e l h = absurd (omega arith)
pair_in (a ∷ []) (suc n) i e l h = absurd (omega arith)
pair_in (a ∷ b ∷ cs) (suc n) zero e l h = record { high = grind (arith, nat_tests); low = grind (arith, nat_tests); byte = refl }
pair_in (a ∷ b ∷ cs) (suc n) (suc i) e l h = pair_in cs n i (omega arith) (omega arith) (grind (arith, nat_tests))

pub pair_at : (cs : List ℕ) (ps : List (List ℕ)) (i : ℕ) → ps ≡ first_chunks 2 (length cs / 2) cs → i < length cs / 2 → all_digits cs ≡ true
    → IsPair (get_or ps i []) (get_or (bytes_of cs) i 0)
pair_at cs ps i e l h = rw e (pair_in cs (length cs / 2) i (omega arith) l h)

-- each is the other's inverse
pub bytes-digits : (bs : List ℕ) → octets bs ≡ true → bytes_of (digits bs) ≡ bs
bytes-digits [] h = refl
bytes-digits (b ∷ bs) h = grind (arith, nat_tests, value-digit, bytes-digits bs)

pub digits-bytes : (cs : List ℕ) → all_digits cs ≡ true → length cs % 2 ≡ 0 → digits (bytes_of cs) ≡ cs
digits-bytes [] h e = refl
digits-bytes (a ∷ []) h e = absurd (omega arith)
digits-bytes (a ∷ b ∷ cs) h e = grind (arith, nat_tests, value_below, digit-value, digits-bytes cs)
