use Rattle.std.proofs.Common.{◌≡◌, refl, Some}
use Rattle.std.proofs.lemmas.Result.{IfOk-weaker}
use Rattle.clause_store.specs.declared.rup.Answer.TheVariants.{Passed}
use Rattle.clause_store.specs.StateOf.{stored_units}
use Rattle.clause_store.specs.Trace.{named_clauses}
use Rattle.clause_store.proofs.rup.walk.walk_negated.Goals as goal

pub returns-then-branch-clause-listed : goal.returns-then-branch-clause-listed
returns-then-branch-clause-listed g c = λ _.
    (rw c.if-branch.true at c.in_ok-assume.ensures.opens) (named_clauses c.args.buffer.now c.args.buckets.now c.args.hashes.now) _ refl

pub returns-clause-listed : goal.returns-clause-listed
returns-clause-listed g c =
    let es = named_clauses c.args.buffer.now c.args.buckets.now c.args.hashes.now in
    let now = g.W.Walker.ids c.walk_buckets.new.walker in
    IfOk-weaker c.walk_buckets.result (λ a. a ≡ Passed → g.W.Walker.after (g.W.Walker.ids c.assume.new.self) c.assume.new.units es ≡ Some now)
    (λ a. a ≡ Passed → now ≡ g.W.Walker.check_ids (stored_units c.args.units.now) c.args.lits.now es)
    (λ a h e. (rw c.if-branch.false at c.in_ok-assume.ensures.opens) es now (h e))
    c.walk_buckets.ensures.listed
