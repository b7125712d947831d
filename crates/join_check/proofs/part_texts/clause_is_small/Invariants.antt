use Rattle.std.proofs.Common.{take}
use Rattle.std.specs.Prelude.{All}
use Rattle.written_numbers.specs.Words.{IsCode}
use Rattle.join_check.proofs.part_texts.clause_is_small.Given as goal

abbrev pub invariant-lits : goal.invariant-lits
invariant-lits l = All IsCode (take l.lit-index l.clause)
