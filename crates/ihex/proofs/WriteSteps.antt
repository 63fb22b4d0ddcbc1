-- what a buffer holds while a line is written to its front
use Rattle.std.proofs.Common.{◌≡◌, ℕ, ◌+◌, ◌*◌, ◌≤◌, List, [], ◌∷◌, ◌++◌, length, drop, set, sym, refl, ap, ◌∙◌, ap₂, arith}
use lib.Seq.{paste}
use Rattle.std.proofs.lemmas.List.Edits.{paste-paste, paste_all}
use Rattle.std.proofs.lemmas.List.{length-append, length-set}
use Rattle.std.proofs.lemmas.Grind.{common_steps}
use Rattle.ihex.specs.Content.{Content, data_at, end_of_file, fields, line, sum_byte}
use Rattle.ihex.specs.Digits.{digits}
use Rattle.ihex.specs.Writing.{spelled}
use Rattle.ihex.proofs.Spelling.{digits-append, length-digits}

-- one write after another
pub spelled_more : (o xs ys : List ℕ) (at n : ℕ) → at ≤ length o → n ≡ at + 2 * length xs
    → spelled (spelled o at xs) n ys ≡ spelled o at (xs ++ ys)
spelled_more o xs ys at n fits e =
    ap (λ k. paste (spelled o at xs) k (digits ys) (2 * length ys)) e
    ∙ paste-paste o at (digits xs) (digits ys) _ _ (sym (length-digits xs)) (sym (length-digits ys)) fits
    ∙ ap₂ (paste o at) (sym (digits-append xs ys)) (omega (arith, length-append xs ys))

-- the colon, and then the digits of some bytes
begun : (o bs : List ℕ) → 1 ≤ length o → spelled (set o 0 58) 1 bs ≡ (58 ∷ digits bs) ++ drop (1 + 2 * length bs) o
begun [] bs l = absurd (omega arith)
begun (x ∷ o) bs l = paste_all (58 ∷ o) 1 (digits bs) _ (sym (length-digits bs)) ∙ grind (arith, common_steps)

pub line_length : (r : Content) → length (line r) ≡ 11 + 2 * length (drop 4 (fields r))
line_length (data_at offset ds) =
    let s : ℕ = sum_byte (fields (data_at offset ds)) in
    omega (arith, length-digits (ds ++ s ∷ []), length-append ds (s ∷ []))
line_length end_of_file = refl

-- a line in three parts: header, data and sum byte
pub line_written : (r : Content) (o o2 o3 o4 H D : List ℕ) (s : ℕ) → 1 ≤ length o → length H ≡ 4 → H ++ D ≡ fields r → s ≡ sum_byte (fields r)
    → o2 ≡ spelled (set o 0 58) 1 H → o3 ≡ spelled o2 9 D → o4 ≡ spelled o3 (9 + 2 * length D) (s ∷ [])
    → o4 ≡ line r ++ drop (length (line r)) o
line_written r o o2 o3 o4 H D s long four all es e2 e3 e4 =
    let o1 : List ℕ = set o 0 58 in
    let n = 9 + 2 * length D in
    let X : List ℕ = fields r ++ sum_byte (fields r) ∷ [] in
    let room : 1 ≤ length o1 = omega (arith, length-set o 0 58) in
    let both : o3 ≡ spelled o1 1 (H ++ D) = e3 ∙ ap (λ z. spelled z 9 D) e2 ∙ spelled_more o1 H D 1 9 room (omega arith) in
    let whole : o4 ≡ spelled o1 1 (H ++ D ++ s ∷ []) =
    e4 ∙ ap (λ z. spelled z n (s ∷ [])) both ∙ spelled_more o1 (H ++ D) (s ∷ []) 1 n room (omega (arith, length-append H D)) in
    let size : 1 + 2 * length X ≡ length (line r) = omega (arith, length-digits X) in
    whole ∙ ap (spelled o1 1) (ap₂ (λ xs x. xs ++ x ∷ []) all es) ∙ begun o X long ∙ ap (λ k. line r ++ drop k o) size
