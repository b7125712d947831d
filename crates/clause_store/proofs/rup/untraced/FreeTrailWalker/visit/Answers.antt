use Rattle.std.proofs.Common.{◌≡◌, ◌+◌, length, ap, arith, refl, ◌∙◌}
use Rattle.clause_store.specs.Rup.{status_of, true_lits}
use Rattle.clause_store.specs.Trail.{freed}
use Rattle.clause_store.proofs.AssumeLemmas.{freed-length}
use Rattle.clause_store.proofs.StatusLemmas.{unit-added, unit-known, unit-none, unit-step}
use Rattle.clause_store.proofs.rup.untraced.FreeTrailWalker.visit.Goals as goal

pub clause_status-requires : goal.clause_status-requires
clause_status-requires c = rw c.slice-lits.ensures c.requires.known

pub give-requires : goal.give-requires
give-requires c =
    let status = c.in-Unit.ensures ∙ ap (status_of (true_lits c.args.units.now)) c.slice-lits.ensures in
    record {
      known = unit-known c.args.units.now _ c.in-Unit.lit _ c.requires.known status;
      free = unit-none c.args.units.now _ c.in-Unit.lit status;
      trail = c.requires.trail;
    }

pub returns-in_ok-give-in-Unit-clause-ok : goal.returns-in_ok-give-in-Unit-clause-ok
returns-in_ok-give-in-Unit-clause-ok c =
    let status = c.in-Unit.ensures ∙ ap (status_of (true_lits c.args.units.now)) c.slice-lits.ensures in
    let given = c.in_ok-give-in-Unit.ensures.ok in
    unit-step c.args.units.now _ _ c.in-Unit.lit status (unit-added c.args.units.now c.args.units.now _ _ c.in-Unit.lit given.0 c.requires.known status refl (given.1 ∙ c.is_positive.ensures) given.2)

pub returns-in_ok-give-in-Unit-clause-lengthens : goal.returns-in_ok-give-in-Unit-clause-lengthens
returns-in_ok-give-in-Unit-clause-lengthens c = λ _.
    let ms = c.args.self.now.items in let now = c.give.new.trail.items in
    let longer : length (freed now) ≡ length (freed ms) + 1 = cc (freed-length ms, freed-length now, c.in_ok-give-in-Unit.ensures.longer) in
    record { no_shorter = omega arith; listed = λ _. refl; units = λ same. absurd (omega arith) }
