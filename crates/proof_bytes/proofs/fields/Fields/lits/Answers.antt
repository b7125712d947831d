use Rattle.std.proofs.Common.{arith}
use Rattle.proof_bytes.proofs.Leading.{exits, exits_by, no_memory}
use Rattle.proof_bytes.proofs.FieldLemmas.{list_fails, item_fails, item_read, list_ends}
use Rattle.proof_bytes.proofs.ListFronts.{front_taken}
use Rattle.proof_bytes.proofs.fields.Fields.lits.Goals as goal

pub returns-in_err-count : goal.returns-in_err-count
returns-in_err-count g c = exits_by _ _ c.from_residual.ensures.1 (list_fails _) c.in_err-count.ensures

pub items-init : goal.items-init
items-init g c = front_taken _ c.lits_ahead-taken.new.into.items c.in_ok-count.count _
    (omega (arith, c.lits_ahead-taken.ensures.count, c.lits_ahead-taken.new.into.ok.0)) c.in_ok-count.ensures
    c.ahead.result.now _ c.lits_ahead-taken.result c.lits_ahead-taken.ensures.read c.ahead.ensures c.lits_ahead-taken.ensures.bytes c.take_ahead.ensures.bytes

pub returns-in_err-lit : goal.returns-in_err-lit
returns-in_err-lit g c = exits_by _ _ c.from_residual-in_err-lit.ensures.1 (item_fails _ _ _ _ _ (omega arith) c.items.invariant) c.in_err-lit.ensures

pub items-preserved : goal.items-preserved
items-preserved g c = rw c.in_ok-push.ensures.items (item_read _ _ _ _ _ (omega arith) c.items.invariant c.in_ok-lit.lit c.in_ok-lit.ensures)

pub returns : goal.returns
returns g c = list_ends _ _ _ _ (omega arith) c.items.invariant

pub returns-in_err-push : goal.returns-in_err-push
returns-in_err-push g c = exits _ _ c.from_residual-in_err-push.ensures.1
    (no_memory (item_read _ _ _ _ _ (omega arith) c.items.invariant c.in_ok-lit.lit c.in_ok-lit.ensures))
