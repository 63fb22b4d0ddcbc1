-- reading and writing are each other's inverse
use Rattle.std.proofs.Common.{◌≡◌, ℕ, suc, ◌+◌, ◌*◌, ◌%◌, ◌<◌, ◌≤◌, true, List, [], ◌∷◌, ◌++◌, length, get_or, take, drop, Ok, Err, Result, sym, refl, ap, ◌∙◌, ap₂, arith}
use Rattle.std.proofs.lemmas.List.{length-append, length-take, take_at, take_more, take_all, nil_from_length}
use Rattle.std.proofs.lemmas.Bool.Decides.{nat_tests}
use Rattle.std.proofs.lemmas.List.Folds.{list_all-append}
use Rattle.refusal.specs.Answers.{then, answer}
use Rattle.ihex.specs.Content.{Content, data_at, end_of_file, fields, line, sum_byte, Sound}
use Rattle.ihex.specs.Digits.{all_digits, digits, bytes_of, octets, total}
use Rattle.ihex.specs.Laws.{ReadsBack, Canonical}
use Rattle.ihex.specs.Meaning.{content}
use Rattle.ihex.specs.Reading.{digits_in, counted, summed, record_of, record_in, reading}
use Rattle.ihex.specs.declared.fault.RecordFault.{RecordFault}
use Rattle.ihex.specs.declared.record.Record.{Record}
use Rattle.ihex.specs.declared.record.Record.TheVariants.{Data, End}
use Rattle.ihex.proofs.Octets.{octets_at}
use Rattle.ihex.proofs.ReadSteps.{digits_found, count_good, reading_summed}
use Rattle.ihex.proofs.Spelling.{length-digits, digits_are_digits, length-bytes, bytes_are_octets, bytes-digits, digits-bytes}
use Rattle.ihex.proofs.Totals.{total-append, sum_byte_closes, sum_byte_alone}

-- what a record of the program says can be said
pub sound : (x : Record) → Sound (content x)
sound (Data d) = (d.fits, d.some, omega (arith, length-take d.data.len d.data.array, d.data.few), d.narrow)
sound End = tt

data_found : (n offset : ℕ) (ds : List ℕ) → 1 ≤ length ds → length ds ≤ 128 → record_of n offset 0 ds ≡ Ok (data_at offset ds)
data_found n offset ds some few = grind (arith, nat_tests)

line_octets : (r : Content) → Sound r → octets (fields r ++ sum_byte (fields r) ∷ []) ≡ true
line_octets end_of_file h = refl
line_octets (data_at offset ds) h = grind (arith, nat_tests, list_all-append)

-- after its colon a line has only digits
pub line_digits : (r : Content) → Sound r → all_digits (drop 1 (line r)) ≡ true
line_digits r h = digits_are_digits (fields r ++ sum_byte (fields r) ∷ []) (line_octets r h)

pub reads_back : (r : Content) → Sound r → ReadsBack r
reads_back end_of_file h = refl
reads_back (data_at offset ds) h =
    let r : Content = data_at offset ds in
    let s : ℕ = sum_byte (fields r) in
    let X : List ℕ = fields r ++ s ∷ [] in
    let b : bytes_of (digits X) ≡ X = bytes-digits X (line_octets r h) in
    let lX : length X ≡ 5 + length ds = omega (arith, length-append ds (s ∷ [])) in
    let ld : length (digits X) ≡ 10 + 2 * length ds = omega (arith, length-digits X) in
    let b0 : get_or (bytes_of (digits X)) 0 0 ≡ length ds = ap (λ xs. get_or xs 0 0) b in
    let o : get_or X 1 0 * 256 + get_or X 2 0 ≡ offset = omega (arith, h.0) in
    let t : take (length ds) (drop 4 X) ≡ ds = take_at ds (s ∷ []) (length ds) refl in
    reading_summed (line r) (digits X) (length ds)
    (digits_found (line r) (omega arith) refl (line_digits r h))
    (count_good (digits X) (length ds) b0 h.2 ld)
    (ap (λ xs. total xs % 256) b ∙ sum_byte_closes (fields r))
    ∙ ap (record_in (length ds)) b
    ∙ ap₂ (λ k xs. record_of (length ds) k 0 xs) o t
    ∙ data_found (length ds) offset ds h.1 h.2

-- what an accepted line tells
then_ok : {X Y : Type 0} (r : Result X RecordFault) (f : X → Result Y RecordFault) (y : Y) → then r f ≡ Ok y
    → (x : X) × (r ≡ Ok x) × (f x ≡ Ok y)
then_ok (Ok x) f y h = (x, refl, h)
then_ok {X} {Y} (Err e) f y h = let z : ⊥ = cc in absurd z

digits_told : (t ds : List ℕ) → digits_in t ≡ Ok ds → (11 ≤ length t) × (get_or t 0 0 ≡ 58) × (all_digits ds ≡ true) × (ds ≡ drop 1 t)
digits_told t ds h = (grind (arith, nat_tests), grind (arith, nat_tests), grind (arith, nat_tests), grind (arith, nat_tests))

count_told : (ds : List ℕ) (n : ℕ) → counted ds ≡ Ok n → (get_or (bytes_of ds) 0 0 ≡ n) × (length ds ≡ 10 + 2 * n)
count_told ds n h = (grind (arith, nat_tests), grind (arith, nat_tests))

sum_told : (bs xs : List ℕ) → summed bs ≡ Ok xs → (total bs % 256 ≡ 0) × (bs ≡ xs)
sum_told bs xs h = (grind (arith, nat_tests), grind (arith, nat_tests))

-- the fields of the record that some bytes are
fields_told : (n b c d : ℕ) (D : List ℕ) (r : Content) → b < 256 → c < 256 → length D ≡ n
    → record_of n (b * 256 + c) d D ≡ Ok r → n ∷ b ∷ c ∷ d ∷ D ≡ fields r
fields_told n b c d D (data_at offset ds) lb lc lD h = grind (arith, nat_tests)
fields_told n b c d D end_of_file lb lc lD h = grind (arith, nat_tests, nil_from_length)

-- bytes of the right count and total are a record's fields and their sum byte
shaped : (Y : List ℕ) (n : ℕ) (r : Content) → octets Y ≡ true → length Y ≡ 5 + n → get_or Y 0 0 ≡ n → total Y % 256 ≡ 0
    → record_in n Y ≡ Ok r → Y ≡ fields r ++ sum_byte (fields r) ∷ []
shaped [] n r hY l e z h = absurd (omega arith)
shaped (a ∷ []) n r hY l e z h = absurd (omega arith)
shaped (a ∷ b ∷ []) n r hY l e z h = absurd (omega arith)
shaped (a ∷ b ∷ c ∷ []) n r hY l e z h = absurd (omega arith)
shaped (a ∷ b ∷ c ∷ d ∷ R) n r hY l e z h =
    let Y : List ℕ = a ∷ b ∷ c ∷ d ∷ R in
    let D : List ℕ = take n R in
    let s : ℕ = get_or R n 0 in
    let full : R ≡ D ++ s ∷ [] = sym (take_all (n + 1) R (omega arith)) ∙ take_more R n 0 (omega arith) in
    let lD : length D ≡ n = omega (arith, ap length full, length-append D (s ∷ [])) in
    let F : a ∷ b ∷ c ∷ d ∷ D ≡ fields r =
    ap (λ x. x ∷ b ∷ c ∷ d ∷ D) e ∙ fields_told n b c d D r (octets_at Y 1 hY) (octets_at Y 2 hY) lD h in
    let Ye : Y ≡ (a ∷ b ∷ c ∷ d ∷ D) ++ s ∷ [] = ap (λ xs. a ∷ b ∷ c ∷ d ∷ xs) full in
    let fs : s < 256 = octets_at Y (suc (suc (suc (suc n)))) hY in
    let zero : (total (fields r) + s) % 256 ≡ 0 =
    omega (arith, z, ap total Ye, total-append (a ∷ b ∷ c ∷ d ∷ D) (s ∷ []), ap total F) in
    Ye ∙ ap₂ (λ xs x. xs ++ x ∷ []) F (sum_byte_alone (fields r) s fs zero)

first_then : (t : List ℕ) → 11 ≤ length t → get_or t 0 0 ≡ 58 → t ≡ 58 ∷ drop 1 t
first_then [] l h = absurd (omega arith)
first_then (c ∷ t) l h = ap (λ x. x ∷ t) h

line_told : (t : List ℕ) (r : Content) → reading t ≡ Ok r → t ≡ line r
line_told t r h =
    let (ds, hd, hr) = then_ok (digits_in t) _ r h in
    let (n, hn, hs) = then_ok (counted ds) _ r hr in
    let (bs, hb, hf) = then_ok (summed (bytes_of ds)) _ r hs in
    let (long, colon, all, rest) = digits_told t ds hd in
    let (count, size) = count_told ds n hn in
    let (sum, same) = sum_told (bytes_of ds) bs hb in
    let s = shaped (bytes_of ds) n r (bytes_are_octets ds all) (omega (arith, length-bytes ds)) count sum (ap (record_in n) same ∙ hf) in
    first_then t long colon ∙ ap (λ xs. 58 ∷ xs) (sym rest ∙ sym (digits-bytes ds all (omega arith)) ∙ ap digits s)

pub canonical : (t : List ℕ) (a : Result Record RecordFault) → answer content a ≡ reading t → Canonical t (answer content a)
canonical t (Ok x) e = (sound x, line_told t (content x) (sym e))
canonical t (Err f) e = tt
