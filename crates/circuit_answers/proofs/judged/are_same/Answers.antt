use Rattle.std.proofs.lemmas.Slice.Eq.{slice_eq-Decides}
use Rattle.circuit_answers.proofs.AnswerLemmas.{values_decides}
use Rattle.circuit_answers.proofs.judged.are_same.Goals as goal

pub returns : goal.returns
returns c = slice_eq-Decides values_decides _ _ _ c.eq.ensures
