use Rattle.std.proofs.Common.{◌≡◌, ◌+◌, Ok, rules, arith}
use Rattle.std.specs.Iterator.Adapters.{zip_first, zip_second}
use Rattle.image.specs.Files.{Begins}
use Rattle.image.specs.Views.{entry_of}
use Rattle.image.specs.Surveys.{Surveyed}
use Rattle.image.proofs.Accepted.{survey_accepts}
use Rattle.image.proofs.Tallies.{so_far_on, so_far_fits, so_far_lines}
use Rattle.image.proofs.survey.Survey.of.Goals as goal

pub add-requires : goal.add-requires
add-requires c =
    let b : Begins (zip_second c.loop-line.line-iterator).0.now (Ok (entry_of c.in_ok-entry.entry)) = search rules in
    let h = so_far_fits _ _ _ _ c.loop-line.invariant (entry_of c.in_ok-entry.entry) b in
    record { records = omega arith; bytes = omega arith }

pub loop-line-preserved : goal.loop-line-preserved
loop-line-preserved c =
    let b : Begins (zip_second c.loop-line.line-iterator).0.now (Ok (entry_of c.in_ok-entry.entry)) = search rules in
    let n : (zip_first c.next.new.self).start ≡ (zip_first c.loop-line.line-iterator).start + 1 = search rules in
    let r : (zip_second c.next.new.self).0.now ≡ c.in_ok-entry.entry.rest.now = search rules in
    let s = so_far_on _ _ _ _ c.loop-line.invariant (entry_of c.in_ok-entry.entry) _ b c.add.ensures in
    rw (n, r) s

pub returns-in_err-entry : goal.returns-in_err-entry
returns-in_err-entry c =
    let s : Surveyed c.args.text.now c.from_residual.result = search rules in
    record { surveyed = s; accepts = survey_accepts _ c.from_residual.result s }

pub returns : goal.returns
returns c =
    let few = so_far_lines _ _ _ _ c.loop-line.invariant in
    let s : Surveyed c.args.text.now (Ok c.loop-line.survey) = search rules in
    record { surveyed = s; accepts = survey_accepts _ (Ok c.loop-line.survey) s }
