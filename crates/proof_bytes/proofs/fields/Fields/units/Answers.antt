use Rattle.std.proofs.Common.{arith}
use Rattle.proof_bytes.proofs.Leading.{exits, exits_by, no_memory}
use Rattle.proof_bytes.proofs.FieldLemmas.{list_fails, list_begins, item_fails, item_read, list_ends, pair_fails, second_fails, pair_read}
use Rattle.proof_bytes.proofs.fields.Fields.units.Goals as goal

pub returns-in_err-count : goal.returns-in_err-count
returns-in_err-count g c = exits_by _ _ c.from_residual.ensures.1 (list_fails _) c.in_err-count.ensures

pub items-init : goal.items-init
items-init g c = rw c.clear.ensures.items (list_begins _ c.in_ok-count.count _ (omega arith) c.in_ok-count.ensures)

pub returns-in_err-lit : goal.returns-in_err-lit
returns-in_err-lit g c = exits_by _ _ c.from_residual-in_err-lit.ensures.1 (λ p. item_fails _ _ _ _ _ (omega arith) c.items.invariant
    (pair_fails _ _ p)) c.in_err-lit.ensures

pub returns-in_err-hash : goal.returns-in_err-hash
returns-in_err-hash g c = exits_by _ _ c.from_residual-in_err-hash.ensures.1 (λ p. item_fails _ _ _ _ _ (omega arith) c.items.invariant
    (second_fails _ _ c.in_ok-lit.ensures p)) c.in_err-hash.ensures

pub items-preserved : goal.items-preserved
items-preserved g c = rw c.in_ok-push.ensures.items (item_read _ _ _ _ _ (omega arith) c.items.invariant
    (c.in_ok-lit.lit, c.in_ok-hash.hash) (pair_read _ _ c.in_ok-lit.ensures c.in_ok-hash.ensures))

pub returns : goal.returns
returns g c = list_ends _ _ _ _ (omega arith) c.items.invariant

pub returns-in_err-push : goal.returns-in_err-push
returns-in_err-push g c = exits _ _ c.from_residual-in_err-push.ensures.1
    (no_memory (item_read _ _ _ _ _ (omega arith) c.items.invariant (c.in_ok-lit.lit, c.in_ok-hash.hash) (pair_read _ _ c.in_ok-lit.ensures c.in_ok-hash.ensures)))
