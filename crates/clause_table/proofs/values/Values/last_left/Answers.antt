use Rattle.std.proofs.Common.{sym, ap, ◌∙◌}
use Rattle.sat_rules.specs.Clauses.{has, negate, unfalsified}
use Rattle.sat_rules.proofs.Chains.{negate-negate}
use Rattle.clause_table.specs.Marks.{has_mark}
use Rattle.clause_table.specs.Values.{among}
use Rattle.clause_table.proofs.SearchLemmas.{unfalsified-false}
use Rattle.clause_table.proofs.values.Values.last_left.Goals as goal

pub loop-lit-preserved : goal.loop-lit-preserved
loop-lit-preserved c =
    let s = among c.args.self.now in
    let m = c.in-Some.lit.now in
    let false_here = sym (ap (has (negate m)) c.self.view_is) ∙ sym (c.self.invariant.marked (negate m)) ∙ ap (has_mark c.self.inside.marks) (negate-negate m) ∙ sym c.has_in.ensures ∙ c.if-not-has_in.false in
    sym (unfalsified-false s c.in-Some.others.now m false_here) ∙ ap (unfalsified s) (sym c.in-Some.ensures.cases.0) ∙ c.loop-lit.invariant
