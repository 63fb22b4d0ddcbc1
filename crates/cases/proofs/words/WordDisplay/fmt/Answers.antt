use Rattle.std.proofs.Common.{◌≡◌, refl, Result, Ok, Err, IsOk, MatchResult, ℕ, List, ◌++◌, sym, ap, ◌∙◌, append_assoc, rules}
use Rattle.std.proofs.Output.{has_written_append, has_written_of_eq}
use Rattle.std.proofs.lemmas.Str.{IsUtf8-from_ascii}
use Rattle.std.specs.Slice.Iter.{chunks_rest}
use Rattle.ihex.specs.Digits.{digits}
use Rattle.ihex.proofs.Spelling.{digits-append}
use Rattle.cases.proofs.words.WordDisplay.fmt.Goals as goal

-- a result whose error denies U is Ok where U holds
IsOk-from_match : {T E : Type 0} (r : Result T E) (U : Type 0) (P : T → Type 0) (Q : E → Type 0) → U → MatchResult r P (λ e. (U → ⊥) × Q e) → IsOk r
IsOk-from_match (Ok x) U P Q u m = refl
IsOk-from_match (Err e) U P Q u m = absurd (m.0 u)

pub unwrap-text-requires : goal.unwrap-text-requires
unwrap-text-requires g c = IsOk-from_match c.from_utf8.result _ _ _ (IsUtf8-from_ascii _ c.put_digits.ensures.ascii) c.from_utf8.ensures.cases

pub loop-piece-preserved : goal.loop-piece-preserved
loop-piece-preserved g c =
    let piece = c.in-Some.piece.now in
    let steps = c.in-Some.ensures.steps in
    let rest = chunks_rest c.next.new.self in
    let written : c.unwrap-text.result.now ≡ digits piece = (rw c.unwrap-text.ensures at c.from_utf8.ensures.cases).0 ∙ c.put_digits.ensures.digits in (
      search rules,
      tt,
      steps.0 ∙ c.loop-piece.invariant.2,
      λ plain.
          let so_far = c.loop-piece.invariant.3 plain in (
            so_far.0 ++ digits piece,
            has_written_append _ _ _ _ _ _ so_far.1 (has_written_of_eq _ _ _ _ _ written (search rules)),
            append_assoc so_far.0 _ _ ∙ ap (λ (t : List ℕ). so_far.0 ++ t) (sym (digits-append piece rest) ∙ ap digits (sym steps.1.0)) ∙ so_far.2,
          ),
    )
