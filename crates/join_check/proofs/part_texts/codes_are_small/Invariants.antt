use Rattle.std.specs.Prelude.{All}
use Rattle.written_numbers.specs.Words.{IsCode}
use Rattle.join_check.proofs.part_texts.codes_are_small.Given as goal

-- all are, if those of the clauses to come are
abbrev pub invariant-loop-clause : goal.invariant-loop-clause
invariant-loop-clause l = All (All IsCode) l.clause-iterator → All (All IsCode) l.formula
