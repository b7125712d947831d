use Rattle.std.proofs.Common.{◌≡◌, take, drop, arith}
use Rattle.std.proofs.lemmas.List.{length-drop, take_rest}
use Rattle.receipts.specs.Lines.{receipt_line}
use Rattle.receipts.proofs.Reading.{step}
use Rattle.receipts.proofs.reader.receipts_in.Goals as goal

pub lines-preserved : goal.lines-preserved
lines-preserved c =
    let line = rw c.in-Some.is at c.in_ok-receipt.ensures.line in
    let size = rw c.in-Some.is at c.in_ok-receipt.ensures.length in
    let here : take c.in-Some.length (drop c.lines.at c.args.text.now) ≡ receipt_line c.in-Some.receipt = grind (arith, line, c.in-Some.receipt-is, c.in-Some.length-is, take_rest) in
    record {
      read = rw c.in_ok-push.ensures.items (step c.args.text.now c.lines.at c.in-Some.length c.lines.receipts.items c.in-Some.receipt c.lines.invariant.read here);
      within = omega (arith, size, c.in-Some.length-is, length-drop c.lines.at c.args.text.now, c.lines.invariant.within);
    }
