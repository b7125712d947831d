use Rattle.std.proofs.Common.{◌∷◌, ◌++◌, cond, eqb, [], sym, ap, ◌∙◌}
use Rattle.std.specs.List.{list_all}
use Rattle.sat_rules.specs.Clauses.{unfalsified}
use Rattle.lrat_rules.specs.Causes.{not_unit}
use Rattle.lrat_rules.specs.Propagation.{by_left, stuck}
use Rattle.clause_table.specs.Values.{among}
use Rattle.clause_table.proofs.SearchLemmas.{all_false, left_of}
use Rattle.clause_table.proofs.values.Values.left.Goals as goal

-- others are left
pub returns-then-not-are_false : goal.returns-then-not-are_false
returns-then-not-are_false c none one =
    let lit = c.in-Some.lit.now in
    ap (λ u. by_left u none one) c.in-Some.ensures ∙ left_of (unfalsified (among c.args.self.now) c.in-Some.others.now) lit none one
    ∙ ap (λ u. cond (list_all (eqb lit) u) (one lit) (stuck not_unit)) (sym c.in-Some.ensures)
    ∙ sym (c.left_of_several.ensures none one)

-- the others are false
pub returns : goal.returns
returns c none one =
    ap (λ u. by_left u none one)
    (c.in-Some.ensures ∙ ap (λ u. u ++ c.in-Some.lit.now ∷ []) (all_false (among c.args.self.now) c.in-Some.others.now (sym c.are_false.ensures ∙ c.if-not-are_false.false)))
