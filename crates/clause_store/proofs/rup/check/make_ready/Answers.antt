use Rattle.std.proofs.lemmas.Result.{on_ok_weaker}
use Rattle.clause_store.proofs.GrowthLemmas.{is_store-known}
use Rattle.clause_store.proofs.CheckLemmas.{pending-length}
use Rattle.clause_store.proofs.rup.check.make_ready.Goals as goal

pub ensure_lits-requires-clause-same : goal.ensure_lits-requires-clause-same
ensure_lits-requires-clause-same c =
    pending-length c.args.state.now c.args.hasher.now c.apply_pending_names.new.hasher c.args.clauses.now c.apply_pending_names.new.clauses _ c.requires.form
    (c.in_ok-apply_pending_names.ensures.state c.args.state.now c.args.variables.now)

pub returns-clause-store : goal.returns-clause-store
returns-clause-store c =
    on_ok_weaker c.ensure_lits.result (λ grown. is_store-known _ _
    _ _ _ _ grown
    c.in_ok-apply_pending_names.ensures.store) c.ensure_lits.ensures

pub ensure_lits-requires-clause-counts : goal.ensure_lits-requires-clause-counts
ensure_lits-requires-clause-counts c = c.in_ok-apply_pending_names.ensures.store.counts.known
