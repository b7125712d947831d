use Rattle.std.proofs.Common.{◌≡◌, ◌∙◌, List, [], ℕ, ap, refl, Option, Ok, Some}
use Rattle.command.specs.Calls.{choices_of}
use Rattle.command.specs.Held.{held_in}
use Rattle.command.specs.Inputs.{bytes_named}
use Rattle.command.specs.Outputs.{begun, written_in}
use Rattle.drat_check_main.proofs.Showing.{leaves_failed, whole_left, whole_shown}
use Rattle.drat_check_main.proofs.files.check_files.Goals as goal
use Rattle.drat_check_main.specs.Named.{bytes_of, empty_outputs}
use Rattle.receipt_files.proofs.Leaving.{ok_none, status_in}
use Rattle.receipt_files.specs.Named.{receipt_name, refuted_of}
use Rattle.verdicts.proofs.Ending.{ends_weaker}
use Rattle.verdicts.specs.Pieces.{piece_line, shows_wanted}
use Rattle.verdicts.specs.Statuses.{ended_of, status_shown}
use Rattle.verdicts.specs.declared.piece.PieceVerdict.TheVariants.{Refuted}

-- what was shown of the bytes that were held
pub returns : goal.returns
returns g c =
    let options = choices_of c.args.call.now in
    let place = g.S.OutputSystem.place c.args.system.now in
    let unwritten = g.S.OutputSystem.unwritten c.args.system.now in
    let contents = g.S.Output.Write.contents in
    let old = g.S.OutputSystem.renamed c.args.given.now in
    let new = g.S.OutputSystem.renamed c.show-outcome.new.given in
    let cnf = bytes_named (g.S.System.file_bytes c.args.system.now) (g.S.System.input_bytes c.args.system.now) c.args.names.cnf.now in
    let held : Option (List ℕ) = Some (held_in c.in_ok-cnf-2.cnf.held) in
    let first = c.new-files.ensures.system in
    let second = c.create_outputs.ensures.system ∙ first in
    let same = c.create_wanted.ensures.system ∙ second in
    let q = c.run_check-checked.result in
    let piece = c.as_piece-checked.ensures in
    let left = rw c.in_ok-cnf.ensures.ok_part at c.open_inputs.ensures.first_bytes in
    let is : (text : List ℕ) → cnf ≡ Some text → held_in c.in_ok-cnf-2.cnf.held ≡ text = λ text known. rw (left ∙ known) at c.in_ok-cnf-2.ensures.bytes in
    let empty : unwritten ≡ Some [] → bytes_of contents c.in_ok-outputs.outputs ≡ empty_outputs options = λ fresh. c.in_ok-outputs.ensures.empty (rw first fresh) in
    let made : unwritten ≡ Some [] → written_in contents c.in_ok-receipt.receipt ≡ begun (receipt_name options)
    = λ fresh. c.in_ok-receipt.ensures.unwritten (rw second fresh) ∙ ap begun c.value.ensures in
    record {
      ends = rw c.ended.ensures
          (ends_weaker piece_line (status_shown shows_wanted) _ _ _ _ _ _
          (whole_shown contents unwritten place c.args.call.now c.in_ok-outputs.outputs c.run_check-checked.new.outputs held old new empty
          q cnf c.in_ok-receipt-2.receipt
          (λ verdict shown. rw shown at c.run_check-checked.ensures.outputs)
          c.in_ok-outputs.ensures.form
          (λ text known. ap Some (is text known))
          c.run_check-checked.ensures.refutes
          (λ text known fresh refuted.
          let so : c.as_piece-checked.result ≡ Ok Refuted = piece ∙ refuted in
          let said = c.piece_receipt-said.ensures.refuted text (rw (is text known) at c.in_ok-cnf-2.ensures.digest) so in
          c.in_ok-receipt-2.ensures.written (refuted_of text) said (made fresh) (status_in shows_wanted c.as_piece-checked.result Refuted so refl))
          (λ other. ok_none (c.in_ok-receipt-2.ensures.unshown (rw piece other))))
          (λ left. leaves_failed unwritten place c.args.call.now old new c.show-outcome.result
          (whole_left contents unwritten place c.args.call.now c.in_ok-outputs.outputs c.run_check-checked.new.outputs held old new empty q
          (λ verdict shown. rw shown at c.run_check-checked.ensures.outputs) left))
          (ended_of shows_wanted c.show-outcome.result) (rw (same, piece) at c.show-outcome.ensures.ends));
    }
