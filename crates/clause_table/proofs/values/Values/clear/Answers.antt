use Rattle.std.proofs.Common.{sym, ap, ◌∙◌}
use Rattle.sat_rules.specs.Clauses.{has}
use Rattle.clause_table.specs.Marks.{has_mark}
use Rattle.clause_table.specs.Values.{true_by}
use Rattle.clause_table.proofs.TrailLemmas.{cleared_of, earlier_in_trail, marked-none}
use Rattle.clause_table.proofs.values.Values.clear.Goals as goal

pub loop-lit-init : goal.loop-lit-init
loop-lit-init c = λ k t. ap (has k) c.as_slice-rest.ensures.value ∙ sym (c.self.invariant.marked k) ∙ t

pub loop-lit-preserved : goal.loop-lit-preserved
loop-lit-preserved c = λ k t.
    earlier_in_trail c.loop-lit.rest.now c.in-Some.others.now k c.in-Some.lit.now _ c.in-Some.ensures.cases.0 (c.loop-lit.invariant k)
    (sym (cleared_of (has_mark c.loop-lit.self-inside.1.0) (has_mark c.clear.new.self) c.not.result c.in-Some.lit.now c.not.ensures c.clear.ensures.marks k) ∙ t)

pub invariant_of-self : goal.invariant_of-self
invariant_of-self c =
    rw c.clear-2.ensures.items (marked-none (true_by c.loop-lit.self-inside.1.0) c.loop-lit.rest.now c.in_default.ensures.cases c.loop-lit.invariant)
