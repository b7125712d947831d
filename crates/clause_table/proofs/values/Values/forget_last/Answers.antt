use Rattle.std.proofs.Common.{subst}
use Rattle.clause_table.specs.Marks.{has_mark}
use Rattle.clause_table.specs.Values.{IsMarked, true_by}
use Rattle.clause_table.proofs.TrailLemmas.{cleared_of, marked-pop}
use Rattle.clause_table.proofs.values.Values.forget_last.Goals as goal

pub invariant_of-self : goal.invariant_of-self
invariant_of-self c =
    let marks = true_by c.self.inside.marks in
    marked-pop marks c.pop.new.self.items c.in-Some.lit (subst (IsMarked marks) c.in-Some.ensures.items c.self.invariant) (true_by c.clear.new.self)
    (cleared_of (has_mark c.self.inside.marks) (has_mark c.clear.new.self) c.not.result c.in-Some.lit c.not.ensures c.clear.ensures.marks)
