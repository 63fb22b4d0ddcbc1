-- the digits of bytes, two to a byte
use Rattle.std.proofs.Common.{◌≡◌, ℕ, suc, ◌+◌, ◌*◌, ◌/◌, ◌%◌, ◌<◌, List, [], ◌∷◌, ◌++◌, length, get_or, set, take, ap, ap₂, ◌∙◌, sym, arith}
use Rattle.std.specs.Str.{IsAscii}
use Rattle.std.proofs.lemmas.Bool.Decides.{nat_tests}
use Rattle.std.proofs.lemmas.List.{append_assoc, length-set, take_more, take_more_set}
use Rattle.std.proofs.lemmas.Str.Ascii.{IsAscii-nil, IsAscii-cons}
use Rattle.ihex.specs.Digits.{digit, digits}
use Rattle.ihex.proofs.Spelling.{digits-append}

-- the digits of one byte more, written after those before it
pub pair_more : (o bs ds : List ℕ) (i : ℕ) → i < length bs → 2 * i + 1 < length o → take (2 * i) o ≡ digits (take i bs) → ds ≡ digits (get_or bs i 0 ∷ [])
    → take (2 * (i + 1)) (set (set o (2 * i) (get_or ds 0 0)) (2 * i + 1) (get_or ds 1 0)) ≡ digits (take (i + 1) bs)
pair_more o bs ds i here room before e =
    let high = get_or ds 0 0 in
    let low = get_or ds 1 0 in
    let next : 2 * (i + 1) ≡ 2 * i + 1 + 1 = omega arith in
    ap (λ n. take n (set (set o (2 * i) high) (2 * i + 1) low)) next
    ∙ take_more_set (set o (2 * i) high) (2 * i + 1) low (omega (arith, length-set o (2 * i) high))
    ∙ ap (λ t. t ++ low ∷ []) (take_more_set o (2 * i) high (omega arith))
    ∙ append_assoc (take (2 * i) o) (high ∷ []) (low ∷ [])
    ∙ ap₂ (λ x y. x ++ y) before (ap (λ xs. get_or xs 0 0 ∷ get_or xs 1 0 ∷ []) e)
    ∙ sym (ap digits (take_more bs i 0 here) ∙ digits-append (take i bs) (get_or bs i 0 ∷ []))

digit_ascii : (n : ℕ) → n < 16 → digit n < 128
digit_ascii n h = grind (arith, nat_tests)

pub IsAscii-digits : (bs : List ℕ) → ((i : ℕ) → get_or bs i 0 < 256) → IsAscii (digits bs)
IsAscii-digits [] h = IsAscii-nil
IsAscii-digits (b ∷ bs) h =
    let fits : b < 256 = h 0 in
    IsAscii-cons (digit (b / 16)) (digit (b % 16) ∷ digits bs) (digit_ascii (b / 16) (omega arith))
    (IsAscii-cons (digit (b % 16)) (digits bs) (digit_ascii (b % 16) (omega arith)) (IsAscii-digits bs (λ i. h (suc i))))
