use Rattle.std.proofs.Common.{arith}
use Rattle.proof_bytes.proofs.Leading.{exits, exits_by, no_memory}
use Rattle.proof_bytes.proofs.FieldLemmas.{list_fails, item_fails, item_read, list_ends}
use Rattle.proof_bytes.proofs.ListFronts.{front_taken}
use Rattle.proof_bytes.proofs.fields.Fields.hashes.Goals as goal

pub returns-in_err-count : goal.returns-in_err-count
returns-in_err-count g c = exits_by _ _ c.from_residual.ensures.1 (list_fails _) c.in_err-count.ensures

pub hashes-init : goal.hashes-init
hashes-init g c = front_taken _ c.hashes_ahead-spelled.new.into.items c.in_ok-count.count _
    (omega (arith, c.hashes_ahead-spelled.ensures.count, c.hashes_ahead-spelled.new.into.ok.0)) c.in_ok-count.ensures
    c.ahead.result.now _ c.hashes_ahead-spelled.result c.hashes_ahead-spelled.ensures.read c.ahead.ensures c.hashes_ahead-spelled.ensures.bytes c.take_ahead.ensures.bytes

pub returns-in_err-hash : goal.returns-in_err-hash
returns-in_err-hash g c = exits_by _ _ c.from_residual-in_err-hash.ensures.1 (item_fails _ _ _ _ _ (omega arith) c.hashes.invariant) c.in_err-hash.ensures

pub hashes-preserved : goal.hashes-preserved
hashes-preserved g c = rw c.in_ok-push.ensures.items (item_read _ _ _ _ _ (omega arith) c.hashes.invariant c.in_ok-hash.hash c.in_ok-hash.ensures)

pub returns : goal.returns
returns g c = list_ends _ _ _ _ (omega arith) c.hashes.invariant

pub returns-in_err-push : goal.returns-in_err-push
returns-in_err-push g c = exits _ _ c.from_residual-in_err-push.ensures.1
    (no_memory (item_read _ _ _ _ _ (omega arith) c.hashes.invariant c.in_ok-hash.hash c.in_ok-hash.ensures))
