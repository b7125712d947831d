use Rattle.std.proofs.Common.{subst, sym, ap, ◌∙◌}
use Rattle.std.proofs.lemmas.Bool.{not-true}
use Rattle.clause_table.specs.Marks.{has_mark}
use Rattle.clause_table.specs.Values.{IsMarked, true_by}
use Rattle.clause_table.proofs.TrailLemmas.{marked-push, set_of}
use Rattle.clause_table.proofs.values.Values.set.Goals as goal

pub invariant_of-self-in-Ok : goal.invariant_of-self-in-Ok
invariant_of-self-in-Ok c =
    let lit = c.args.lit in
    let marks = c.self.inside.marks in
    subst (IsMarked (true_by c.insert.new.self)) (sym c.in-Ok.ensures.items)
    (marked-push (true_by marks) c.self.inside.trail.items lit c.self.invariant
    (sym (c.self.invariant.marked lit) ∙ ap (has_mark marks) (sym c.not.ensures) ∙ not-true (has_mark marks c.not.result) (sym c.in_ok-insert.ensures.is_new ∙ c.if-not-branch.false))
    (true_by c.insert.new.self) (set_of (has_mark marks) (has_mark c.insert.new.self) c.not.result lit c.not.ensures c.in_ok-insert.ensures.ok))
