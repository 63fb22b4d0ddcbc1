use Rattle.std.proofs.Common.{◌≡◌, ◌+◌, take, Ok, Err, MatchOption, sym, ap, ◌∙◌, arith, rules, tests}
use Rattle.std.proofs.lemmas.Iterator.{first_from_Range}
use Rattle.std.proofs.lemmas.List.{get_or_read, length-take-le, take_rest}
use Rattle.image.specs.Lines.{first_line}
use Rattle.image.specs.declared.fault.ImageFault.TheVariants.{Line}
use Rattle.image.proofs.Closing.{CrLf, EndsLine, searched}
use Rattle.image.proofs.line.next_line.Goals as goal
use Rattle.image.proofs.line.next_line.Goals.{After-find}

found : (c : After-find) → MatchOption c.find.result (first_line c.args.text.now ≡ Err Line) (EndsLine c.args.text.now)
found c =
    let t = c.args.text.now in
    searched t c.min-places.result c.find.result (omega (arith, c.min-places.ensures, c.saturating_sub.ensures))
    (first_from_Range _ _ _ _ (CrLf t) (λ i. CrLf t i → ⊥) c.find.ensures.ran
    (λ x q k. (grind (arith, tests, get_or_read), grind (arith, tests, get_or_read)))
    (λ x q k. (search rules, grind (arith, tests, get_or_read))))

pub returns-in_default-clause-answer : goal.returns-in_default-clause-answer
returns-in_default-clause-answer c = sym (rw c.in_default.is at (found (goal.at.returns-in_default-clause-answer c).After-find))

pub slice_bounds-result-end : goal.slice_bounds-result-end
slice_bounds-result-end c =
    let e = rw c.in-Some.is at (found (goal.at.slice_bounds-result-end c).After-find) in
    sym (length-take-le c.in-Some.end c.args.text.now (omega (arith, e.within)))

pub slice_bounds-result-count : goal.slice_bounds-result-count
slice_bounds-result-count c = omega (arith, (rw c.in-Some.is at (found (goal.at.slice_bounds-result-count c).After-find)).within)

pub slice_bounds-result-start : goal.slice_bounds-result-start
slice_bounds-result-start c = let e = (rw c.in-Some.is at (found (goal.at.slice_bounds-result-start c).After-find)).within in search rules

pub returns-clause-answer : goal.returns-clause-answer
returns-clause-answer c =
    let t = c.args.text.now in
    let i = c.in-Some.end in
    let e = rw c.in-Some.is at (found (goal.at.returns-clause-answer c).After-find) in
    ap (λ r. Ok (record { line = take i t; rest = r })) (take_rest t (i + 2)) ∙ sym e.line

pub returns-clause-whole : goal.returns-clause-whole
returns-clause-whole c =
    let e = rw c.in-Some.is at (found (goal.at.returns-clause-whole c).After-find) in
    rw (take_rest c.args.text.now (c.in-Some.end + 2)) e.whole
