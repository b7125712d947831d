use Rattle.command.specs.Calls.{choices_of}
use Rattle.drat_check_main.proofs.Naming.{kept_left, kept_named, shown_reached}
use Rattle.drat_check_main.proofs.shown.show.Goals as goal
use Rattle.drat_check_main.specs.Named.{LeavesReached, NamesReached, bytes_of}
use Rattle.verdicts.proofs.Ending.{ends_shown}
use Rattle.verdicts.specs.Pieces.{piece_line, shows_wanted}

-- the line is written last
pub returns : goal.returns
returns g c =
    let options = choices_of c.args.call.now in
    let place = g.S.OutputSystem.place c.args.files.now.system.now in
    let contents = g.S.Output.Write.contents in
    let written = bytes_of contents c.args.outputs in
    let old = g.S.OutputSystem.renamed c.args.given.now in
    let mid = g.S.OutputSystem.renamed c.keep_outputs-named.new.given in
    let new = g.S.OutputSystem.renamed c.keep_receipt-kept.new.given in
    let named = c.keep_outputs-named.ensures in
    let kept = c.keep_receipt-kept.ensures in
    record {
      verdict = shown_reached piece_line _ _ c.args.checked c.keep_outputs-named.result c.keep_receipt-kept.result c.show_line.result named.verdict kept.verdict c.show_line.ensures;
      ends = ends_shown piece_line shows_wanted (NamesReached place options contents written c.args.receipt c.args.checked old new)
          (LeavesReached place options written c.args.checked old new) _ _ c.keep_receipt-kept.result c.show_line.result c.show_line.ensures
          (kept_named contents place options written c.args.receipt c.args.checked old mid new c.keep_outputs-named.result c.keep_receipt-kept.result
          named.verdict kept.verdict named.named kept.named)
          (kept_left contents place options written c.args.receipt c.args.checked old mid new c.keep_outputs-named.result c.keep_receipt-kept.result
          named.verdict named.named named.left kept.kept);
    }
