use Rattle.std.specs.Prelude.{All}
use Rattle.std.proofs.lemmas.List.Elements.{All-cons, All-same}
use Rattle.written_numbers.specs.Words.{IsCode}
use Rattle.join_check.proofs.part_texts.codes_are_small.Goals as goal

pub loop-clause-preserved : goal.loop-clause-preserved
loop-clause-preserved c = λ rest. c.loop-clause.invariant
    (All-same (All IsCode) _ _ c.in-Some.ensures.steps (All-cons (All IsCode) _ _ c.clause_is_small.ensures rest))
