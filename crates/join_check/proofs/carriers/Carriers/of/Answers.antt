use Rattle.std.proofs.lemmas.List.{get_or_default}
use Rattle.join_check.specs.Carriers.{carried_to}
use Rattle.join_check.proofs.Digesting.{found_more}
use Rattle.join_check.proofs.carriers.Carriers.of.Goals as goal

pub receipts-preserved : goal.receipts-preserved
receipts-preserved c = λ next.
    found_more (carried_to next) c.args.receipts.now c.receipts.receipt-index _ _ _ (c.receipts.invariant next) (c.in_ok-add.ensures next) c.receipts-test.true
    (get_or_default c.args.receipts.now c.receipts.receipt-index _ _ c.receipts-test.true)
