use Rattle.std.proofs.lemmas.List.{get_or_default}
use Rattle.join_check.specs.Carriers.{refuted_by}
use Rattle.join_check.proofs.Digesting.{found_more}
use Rattle.join_check.proofs.carriers.refuted_subjects.Goals as goal

pub receipts-preserved : goal.receipts-preserved
receipts-preserved c =
    found_more refuted_by c.args.receipts.now c.receipts.receipt-index _ _ _ c.receipts.invariant c.in_ok-push_refuted.ensures c.receipts-test.true
    (get_or_default c.args.receipts.now c.receipts.receipt-index _ _ c.receipts-test.true)
