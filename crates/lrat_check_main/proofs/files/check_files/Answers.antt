use Rattle.std.proofs.Common.{◌≡◌, ◌∙◌, [], ap, refl, sym, None, Some}
use Rattle.command.specs.Calls.{choices_of}
use Rattle.command.specs.Held.{held_in}
use Rattle.command.specs.Outputs.{begun, written_in}
use Rattle.lrat_check_main.proofs.Meant.{first_name, means_named, no_piece, not_carried, piece_refuted}
use Rattle.lrat_check_main.proofs.files.check_files.Goals as goal
use Rattle.receipt_files.proofs.Leaving.{gives_receipt, ok_none, status_in}
use Rattle.receipt_files.specs.Named.{IsDigestOf, Keeps, held_by, receipt_in, receipt_name, refuted_of}
use Rattle.verdicts.proofs.Ending.{ends_shown}
use Rattle.verdicts.specs.Pieces.{piece_line, shows_wanted}
use Rattle.verdicts.specs.declared.piece.PieceVerdict.TheVariants.{Refuted}

-- the verdict means it of the bytes that were held, and its receipt has its name before the line is written
pub returns : goal.returns
returns g c =
    let options = choices_of c.args.call.now in
    let contents = g.S.Output.Write.contents in
    let first = c.new-files.ensures.system in
    let same = c.create_wanted.ensures.system ∙ first in
    let place = g.S.OutputSystem.place c.args.system.now in
    let unwritten = g.S.OutputSystem.unwritten c.args.system.now in
    let before = g.S.OutputSystem.renamed c.args.given.now in
    let after = g.S.OutputSystem.renamed c.keep_receipt-named.new.given in
    let whole = c.in_ok-receipt-2.receipt in
    let empty : unwritten ≡ Some [] → written_in contents c.in_ok-receipt.receipt ≡ begun (receipt_name options) = λ fresh.
    let fresh_files : g.S.OutputSystem.unwritten c.new-files.result.system.now ≡ Some [] = rw first fresh in
    c.in_ok-receipt.ensures.unwritten fresh_files ∙ ap begun c.value.ensures in
    let means = means_named (g.S.System.file_bytes c.args.system.now) (g.S.System.input_bytes c.args.system.now) c.args.call.now
    (λ receipt. unwritten ≡ Some [] → held_by contents whole ≡ receipt_in options receipt) (Keeps unwritten place options before after) (after ≡ before)
    None c.as_piece-checked.result c.keep_receipt-named.result c.keep_receipt-named.ensures.verdict
    (λ ended receipt is_whole fresh. gives_receipt contents place options receipt whole before after (is_whole fresh) (rw same at (c.keep_receipt-named.ensures.named ended)))
    (λ ended other. let none : whole ≡ None = ok_none (c.in_ok-receipt-2.ensures.unshown other) in rw none at (c.keep_receipt-named.ensures.named ended))
    (λ refuted cnf proof text operands alone known.
    let named = first_name _ _ _ _ _ operands c.in_ok-names.ensures.ok in
    let left = rw c.in_ok-cnf.ensures.ok_part at c.open_inputs.ensures.first_bytes in
    let is : held_in c.in_ok-cnf-2.cnf.held ≡ text = rw (left ∙ rw named at known) at c.in_ok-cnf-2.ensures.bytes in
    let taken : IsDigestOf c.in_ok-cnf-2.cnf.digest text = rw is at c.in_ok-cnf-2.ensures.digest in (
      c.run_check.ensures.refutes text (ap Some is) (piece_refuted c.run_check.result (sym c.as_piece-checked.ensures ∙ refuted)),
      λ fresh. c.in_ok-receipt-2.ensures.written (refuted_of text) (c.piece_receipt-said.ensures.refuted text taken refuted) (empty fresh)
          (status_in shows_wanted c.as_piece-checked.result Refuted refuted refl),
    ))
    (λ carried. absurd (not_carried c.as_piece-checked.result (rw c.as_piece-checked.ensures (no_piece c.run_check.result)) carried)) in
    record { ends = rw c.ended.ensures (ends_shown piece_line shows_wanted _ _ _ _ c.keep_receipt-named.result c.show_line-outcome.result c.show_line-outcome.ensures means c.keep_receipt-named.ensures.kept) }
