use Rattle.std.specs.Iterator.Adapters.{zip_first, zip_second}
use Rattle.image.proofs.Tallies.{SoFar}
use Rattle.image.proofs.survey.Survey.of.Given as goal

abbrev pub invariant-loop-line : goal.invariant-loop-line
invariant-loop-line l = SoFar l.text l.survey (zip_second l.line-iterator).0.now (zip_first l.line-iterator).start
