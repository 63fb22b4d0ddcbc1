-- tallies of the records of a file, and how far a survey has come
use Rattle.std.proofs.Common.{◌≡◌, ℕ, ◌+◌, ◌*◌, ◌≤◌, List, [], ◌∷◌, ◌++◌, length, Ok, sym, refl, ap, ◌∙◌, arith}
use Rattle.std.proofs.ByRecursion.{All-push}
use Rattle.std.proofs.lemmas.List.{append_assoc, flat_map_more, length-append, length_push}
use Rattle.std.specs.List.{AllByRecursion}
use Rattle.ihex.specs.Content.{Content, data_at, end_of_file, line, Sound}
use Rattle.ihex.proofs.WriteSteps.{line_length}
use Rattle.image.specs.Files.{Head, closed, file, Begins}
use Rattle.image.specs.Surveys.{bytes_in, added, tally, tally_from, nothing_yet}
use Rattle.image.specs.declared.survey.Survey.{Survey}

tally_push : (s : Survey) (rs : List Content) (r : Content) → tally_from s (rs ++ r ∷ []) ≡ added (tally_from s rs) r
tally_push s [] r = refl
tally_push s (q ∷ rs) r = tally_push (added s q) rs r

pub file_push : (t rest rest' : List ℕ) (rs : List Content) (r : Content) → t ≡ file rs ++ rest → rest ≡ closed r ++ rest'
    → t ≡ file (rs ++ r ∷ []) ++ rest'
file_push t rest rest' rs r e f =
    e ∙ ap (λ xs. file rs ++ xs) f ∙ sym (append_assoc (file rs) (closed r) rest') ∙ ap (λ xs. xs ++ rest') (flat_map_more closed [] rs r)

-- a line is longer than anything that is counted in it
pub closed_long : (r : Content) → 13 + bytes_in r ≤ length (closed r)
closed_long (data_at offset ds) =
    let r : Content = data_at offset ds in
    omega (arith, length-append (line r) (13 ∷ 10 ∷ []), line_length r)
closed_long end_of_file = omega (arith, length-append (line end_of_file) (13 ∷ 10 ∷ []), line_length end_of_file)

pub file_lines : (rs : List Content) → 13 * length rs ≤ length (file rs)
file_lines [] = omega arith
file_lines (r ∷ rs) = omega (arith, length-append (closed r) (file rs), closed_long r, file_lines rs)

tally_below : (s : Survey) (rs : List Content) → let u = tally_from s rs in (u.records ≤ s.records + length rs) × (u.bytes ≤ s.bytes + length (file rs))
tally_below s [] = (omega arith, omega arith)
tally_below s (data_at offset ds ∷ rs) =
    let r : Content = data_at offset ds in
    let h = tally_below (added s r) rs in
    (omega (arith, h.0), omega (arith, h.1, length-append (closed r) (file rs), closed_long r))
tally_below s (end_of_file ∷ rs) =
    let h = tally_below (added s end_of_file) rs in
    (omega (arith, h.0), omega (arith, h.1, length-append (closed end_of_file) (file rs)))

pub record SoFar (text : List ℕ) (s : Survey) (rest : List ℕ) (line : ℕ) : Type 0 where
  pub records : List Content
  pub sound : AllByRecursion Sound records
  pub begins : text ≡ file records ++ rest
  pub tallied : s ≡ tally records
  pub counted : line ≡ length records + 1

module _ (text : List ℕ) (s : Survey) (rest : List ℕ) (line : ℕ) (a : SoFar text s rest line) where
  pub so_far_on : (h : Head) (s' : Survey) → Begins rest (Ok h) → s' ≡ added s h.content → SoFar text s' h.rest (line + 1)
  so_far_on h s' (sound, _, begins) e = record {
    records = a.records ++ h.content ∷ [];
    sound = All-push Sound a.records h.content a.sound sound;
    begins = file_push text rest h.rest a.records h.content a.begins begins;
    tallied = e ∙ ap (λ u. added u h.content) a.tallied ∙ sym (tally_push nothing_yet a.records h.content);
    counted = omega (arith, a.counted, length_push a.records h.content);
  }

  pub so_far_lines : 13 * line + length rest ≤ length text + 13
  so_far_lines = omega (arith, a.counted, file_lines a.records, ap length a.begins, length-append (file a.records) rest)

  -- no count passes the text's length
  pub so_far_fits : (h : Head) → Begins rest (Ok h)
      → (s.records + length rest ≤ length text) × (s.bytes + bytes_in h.content ≤ length text)
  so_far_fits h b =
      let rs = a.records in
      let low = tally_below nothing_yet rs in
      let all = ap length a.begins ∙ length-append (file rs) rest in
      let one = ap length b.2 ∙ length-append (closed h.content) h.rest in (
        omega (arith, ap (λ u. u.records) a.tallied, low.0, file_lines rs, all),
        omega (arith, ap (λ u. u.bytes) a.tallied, low.1, all, one, closed_long h.content),
      )
