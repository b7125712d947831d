use Rattle.std.proofs.Common.{◌∙◌, subst}
use Rattle.std.proofs.lemmas.List.Elements.{All-more}
use Rattle.written_numbers.specs.Words.{IsCode}
use Rattle.join_check.proofs.part_texts.clause_is_small.Goals as goal

pub lits-preserved : goal.lits-preserved
lits-preserved c = All-more IsCode c.args.clause.now c.lits.lit-index c.lit-item.result c.lits-test.true c.lits.invariant
    (subst IsCode (c.code.ensures.value ∙ c.lit-item.is) c.code.ensures.bound)
