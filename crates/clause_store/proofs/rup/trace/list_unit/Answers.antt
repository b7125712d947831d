use Rattle.std.proofs.Common.{sym, ap, refl, ◌∙◌}
use Rattle.clause_store.specs.Rup.{true_lits}
use Rattle.clause_store.proofs.TraceLemmas.{looked-listed, true_lits-renamed}
use Rattle.clause_store.proofs.rup.trace.list_unit.Goals as goal

pub returns-in_ok-overwrite-clause-listed : goal.returns-in_ok-overwrite-clause-listed
returns-in_ok-overwrite-clause-listed c = λ rest.
    let us = c.args.units.now in
    let found = sym (cc) ∙ c.in-Some.is in
    cc (
      looked-listed c.args.trace.now.items us c.overwrite.new.units c.args.lit c.in-Some.id _ rest c.requires.known c.requires.is_false found
          c.is_negative.ensures refl c.in_ok-overwrite.ensures.ok,
      c.in_ok-push.ensures.items,
    )

pub returns-in_ok-overwrite-clause-true_lits : goal.returns-in_ok-overwrite-clause-true_lits
returns-in_ok-overwrite-clause-true_lits c = ap true_lits c.in_ok-overwrite.ensures.ok ∙ true_lits-renamed _ _ _ c.requires.known c.requires.is_false c.is_negative.ensures
