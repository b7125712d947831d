use Rattle.sat_formula.proofs.Formulas.{cut-append, IsWhole-append}
use Rattle.sat_formula.proofs.cnf.CnfFormula.add_clause.Goals as goal

pub invariant_of-self-2 : goal.invariant_of-self-2
invariant_of-self-2 c =
    rw (c.push_reserved.ensures.items, c.in_ok-reserve.ensures.items, c.in_ok-extend_from_slice.ensures.items, c.count_vars-self-inside.ensures)
    (IsWhole-append c.self.inside.lengths.items c.self.inside.lits.items c.args.clause.now c.self.inside.var_count c.self.invariant)

pub returns-clause-ok : goal.returns-clause-ok
returns-clause-ok c =
    rw (c.push_reserved.ensures.items, c.in_ok-reserve.ensures.items, c.in_ok-extend_from_slice.ensures.items, ← c.self.view_is)
    (cut-append c.self.inside.lengths.items c.self.inside.lits.items c.args.clause.now c.self.invariant.total)
