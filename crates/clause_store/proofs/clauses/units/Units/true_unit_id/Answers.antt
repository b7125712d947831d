use Rattle.std.proofs.Common.{ap, sym, ◌∙◌}
use Rattle.clause_store.specs.StateOf.{stored_units}
use Rattle.clause_store.specs.Trace.{true_unit_id}
use Rattle.clause_store.specs.Units.{stored_id, unit_at}
use Rattle.clause_store.proofs.StatusLemmas.{drop-at}
use Rattle.clause_store.proofs.TraceLemmas.{true_unit_id-false, true_unit_id-true}
use Rattle.clause_store.proofs.clauses.units.Units.true_unit_id.Goals as goal

pub returns-then-is_true : goal.returns-then-is_true
returns-then-is_true c =
    let us = c.args.self.now in let m = c.lit-item.result in
    let cut = drop-at c.args.lits.now c.loop-lit.lit-index m c.loop-lit-test.true c.lit-item.is in
    c.stored_id.ensures ∙ ap (λ v. stored_id (unit_at us v)) c.index.ensures.value
    ∙ sym (true_unit_id-true us m _ c.requires (sym c.is_true.ensures ∙ c.if-is_true.true)) ∙ sym (ap (true_unit_id (stored_units us)) cut) ∙ c.loop-lit.invariant

pub loop-lit-preserved : goal.loop-lit-preserved
loop-lit-preserved c =
    let us = c.args.self.now in let m = c.lit-item.result in
    let cut = drop-at c.args.lits.now c.loop-lit.lit-index m c.loop-lit-test.true c.lit-item.is in
    sym (true_unit_id-false us m _ (sym c.is_true.ensures ∙ c.if-is_true.false)) ∙ sym (ap (true_unit_id (stored_units us)) cut) ∙ c.loop-lit.invariant
