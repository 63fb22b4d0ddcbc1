-- files of records are accepted
use Rattle.std.proofs.Common.{◌≡◌, ℕ, suc, ◌+◌, ◌≤◌, true, ◌&&◌, eqb, ltb, List, [], ◌∷◌, ◌++◌, length, get_or, drop, Some, Ok, Err, Result, sym, refl, ap, ◌∙◌, ap₂, arith}
use Rattle.std.proofs.lemmas.List.{append_assoc, append-nil, length-append, take_at, drop_at}
use Rattle.std.proofs.lemmas.Bool.{and_left, and_parts, cond-false, le-ltb, ne_eqb}
use Rattle.std.proofs.lemmas.Bool.Decides.{nat_tests}
use Rattle.std.specs.Option.{option_map}
use Rattle.std.specs.List.{AllByRecursion}
use Rattle.refusal.specs.Answers.{then}
use Rattle.ihex.specs.Content.{Content, data_at, end_of_file, line, Sound}
use Rattle.ihex.specs.Digits.{is_digit, all_digits}
use Rattle.ihex.specs.Reading.{reading}
use Rattle.ihex.proofs.Inverse.{line_digits, reads_back}
use Rattle.ihex.proofs.WriteSteps.{line_length}
use Rattle.image.specs.Files.{Head, closed, file, record_of_line, first_record}
use Rattle.image.specs.Lines.{close, cut_at, first_line}
use Rattle.image.specs.Surveys.{tally, Accepts, Surveyed}
use Rattle.image.specs.declared.fault.ImageFault.{ImageFault}
use Rattle.image.specs.declared.refused.Refused.{Refused}
use Rattle.image.specs.declared.survey.Survey.{Survey}
use Rattle.image.proofs.Tallies.{closed_long}

-- digits are no CR, so the CR LF after them is the first
close_after : (cs rest : List ℕ) → all_digits cs ≡ true → close (cs ++ 13 ∷ 10 ∷ rest) ≡ Some (length cs)
close_after [] rest h = refl
close_after (c ∷ cs) rest h =
    let p = and_parts (is_digit c) (all_digits cs) h in
    let other : c ≡ 13 → ⊥ = grind (arith, nat_tests) in
    cond-false (eqb c 13 && eqb (get_or (cs ++ 13 ∷ 10 ∷ rest) 0 0) 10) _ _ (and_left _ _ (ne_eqb c 13 other))
    ∙ ap (option_map suc) (close_after cs rest p.1)

line_short : (r : Content) → Sound r → length (line r) ≤ 267
line_short (data_at offset ds) h = omega (arith, line_length (data_at offset ds), h.2)
line_short end_of_file h = omega (arith, line_length end_of_file)

-- the first record of a text that begins with its closed line
accepted : (r : Content) (rest : List ℕ) → Sound r → first_record (closed r ++ rest) ≡ Ok (record { content = r; line = line r; rest = rest })
accepted r rest h =
    let n : ℕ = length (line r) in
    let split = append_assoc (line r) (13 ∷ 10 ∷ []) rest in
    let place = ap (option_map suc) (close_after (drop 1 (line r)) rest (line_digits r h)) in
    let after : drop (n + 2) (closed r ++ rest) ≡ rest = drop_at (closed r) rest (n + 2) (length-append (line r) (13 ∷ 10 ∷ [])) in
    let cut : first_line (line r ++ 13 ∷ 10 ∷ rest) ≡ Ok (record { line = line r; rest = rest }) =
    ap (cut_at (line r ++ 13 ∷ 10 ∷ rest)) place ∙ cond-false (ltb 267 n) _ _ (le-ltb 267 n (line_short r h))
    ∙ ap₂ (λ xs ys. Ok (record { line = xs; rest = ys })) (take_at (line r) (13 ∷ 10 ∷ rest) n refl) (rw split at after) in
    ap first_record split
    ∙ ap (λ a. then a (λ c. record_of_line c (reading c.line))) cut
    ∙ ap (record_of_line (record { line = line r; rest = rest })) (reads_back r h)

-- one file has one list of records
apart : (rs qs : List Content) (rest : List ℕ) → AllByRecursion Sound rs → AllByRecursion Sound qs → file rs ≡ file qs ++ rest
    → (ps : List Content) × (rs ≡ qs ++ ps) × (rest ≡ file ps) × AllByRecursion Sound ps
apart rs [] rest hr hq e = (rs, refl, sym e, hr)
apart [] (q ∷ qs) rest hr hq e =
    absurd (omega (arith, closed_long q, ap length e, length-append (closed q ++ file qs) rest, length-append (closed q) (file qs)))
apart (r ∷ rs) (q ∷ qs) rest hr hq e =
    let both = sym (accepted r (file rs) hr.0) ∙ ap first_record (e ∙ append_assoc (closed q) (file qs) rest) ∙ accepted q (file qs ++ rest) hq.0 in
    let same : ◌≡◌ {A = Head} (record { content = r; line = line r; rest = file rs }) (record { content = q; line = line q; rest = file qs ++ rest }) = cc in
    let rq : r ≡ q = ap (λ h. h.content) same in
    let p = apart rs qs rest hr.1 hq.1 (ap (λ h. h.rest) same) in
    (p.0, ap₂ (λ x xs. x ∷ xs) {v = qs ++ p.0} rq p.1, p.2, p.3)

no_records : (ps : List Content) → file ps ≡ [] → ps ≡ []
no_records [] e = refl
no_records (p ∷ ps) e = absurd (omega (arith, ap length e, length-append (closed p) (file ps), closed_long p))

no_refusal : (ps : List Content) (f : ImageFault) → AllByRecursion Sound ps → 1 ≤ length (file ps) → first_record (file ps) ≡ Err f → ⊥
no_refusal [] f h some r = omega arith
no_refusal (p ∷ ps) f h some r = let g = sym r ∙ accepted p (file ps) h.0 in cc

pub survey_accepts : (t : List ℕ) (a : Result Survey Refused) → Surveyed t a → Accepts t a
survey_accepts t (Ok s) (qs, hq, eq, es) rs hr er =
    let p = apart rs qs [] hr hq (sym er ∙ eq ∙ sym (append-nil (file qs))) in
    let none : p.0 ≡ [] = no_records p.0 (sym p.2) in
    ap Ok (es ∙ ap tally (sym (p.1 ∙ ap (λ xs. qs ++ xs) none ∙ append-nil qs)))
survey_accepts t (Err f) (qs, rest, hq, eq, some, el, ef) rs hr er =
    let p = apart rs qs rest hr hq (sym er ∙ eq) in
    absurd (no_refusal p.0 f.fault p.3 (rw p.2 at some) (rw p.2 at ef))
