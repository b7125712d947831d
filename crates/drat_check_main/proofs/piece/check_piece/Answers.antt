use Rattle.std.proofs.Common.{◌≡◌, ◌∙◌, List, [], ℕ, ap, refl, is_some, Option, None, Some}
use Rattle.std.specs.Io.Buffered.{writer_contents}
use Rattle.std.specs.Prelude.{IsSome}
use Rattle.command.specs.Calls.{choices_of}
use Rattle.command.specs.Held.{held_in}
use Rattle.command.specs.Inputs.{bytes_named}
use Rattle.command.specs.Outputs.{begun, written_in}
use Rattle.drat_check.specs.Outputs.{bytes_in}
use Rattle.drat_check_main.proofs.Showing.{leaves_failed, piece_left, piece_shown}
use Rattle.drat_check_main.proofs.piece.check_piece.Goals as goal
use Rattle.drat_check_main.specs.Named.{Written, bytes_of, core_name, empty_outputs, lrat_name}
use Rattle.receipt_files.proofs.Leaving.{ok_none, status_in}
use Rattle.receipt_files.specs.Named.{carries_of, receipt_name, refuted_of}
use Rattle.verdicts.proofs.Ending.{ends_weaker}
use Rattle.verdicts.specs.Pieces.{piece_line, shows_wanted}
use Rattle.verdicts.specs.Statuses.{ended_of, status_shown}
use Rattle.verdicts.specs.declared.piece.PieceVerdict.TheVariants.{Carried, Refuted}

-- what was shown of the bytes that were held
pub returns : goal.returns
returns g c =
    let options = choices_of c.args.call.now in
    let place = g.S.OutputSystem.place c.args.system.now in
    let unwritten = g.S.OutputSystem.unwritten c.args.system.now in
    let contents = g.S.Output.Write.contents in
    let old = g.S.OutputSystem.renamed c.args.given.now in
    let new = g.S.OutputSystem.renamed c.show-outcome.new.given in
    let cnf = bytes_named (g.S.System.file_bytes c.args.system.now) (g.S.System.input_bytes c.args.system.now) c.args.names.cnf.now in
    let holds = g.S.System.file_bytes c.args.system.now c.args.holds_name.now in
    let held : Option (List ℕ) = Some (held_in c.in_ok-cnf-2.cnf.held) in
    let target : Option (List ℕ) = Some (held_in c.in_ok-holds-2.holds.held) in
    let first = c.new-files.ensures.system in
    let second = c.create_outputs.ensures.system ∙ first in
    let same = c.create_wanted.ensures.system ∙ second in
    let made = c.of_piece-outputs.ensures in
    let ran = c.run_piece-checked.ensures in
    let r = c.run_piece-checked.result in
    let lrat = bytes_in (writer_contents contents) c.of_piece-outputs.result.lrat in
    let lrat' = bytes_in (writer_contents contents) c.run_piece-checked.new.outputs.lrat in
    let clauses = bytes_in (writer_contents contents) c.of_piece-outputs.result.core in
    let clauses' = bytes_in (writer_contents contents) c.run_piece-checked.new.outputs.core in
    let left = rw c.in_ok-cnf.ensures.ok_part at c.open_inputs.ensures.first_bytes in
    let left_next = rw c.in_ok-holds.ensures.ok_part at c.open_file.ensures.bytes in
    let is : (text : List ℕ) → cnf ≡ Some text → held_in c.in_ok-cnf-2.cnf.held ≡ text = λ text known. rw (left ∙ known) at c.in_ok-cnf-2.ensures.bytes in
    let next : (wanted : List ℕ) → holds ≡ Some wanted → held_in c.in_ok-holds-2.holds.held ≡ wanted = λ wanted other. rw (left_next ∙ other) at c.in_ok-holds-2.ensures.bytes in
    let empty : unwritten ≡ Some [] → bytes_of contents c.in_ok-create_outputs.field-0 ≡ empty_outputs options = λ fresh. c.in_ok-create_outputs.ensures.empty (rw first fresh) in
    let lines_empty : unwritten ≡ Some [] → lrat ≡ begun (lrat_name options) = λ fresh. ap (bytes_in (writer_contents contents)) made.lrat ∙ ap (λ (w : Written). w.lrat) (empty fresh) in
    let clauses_empty : unwritten ≡ Some [] → clauses ≡ begun (core_name options) = λ fresh. ap (bytes_in (writer_contents contents)) made.core ∙ ap (λ (w : Written). w.core) (empty fresh) in
    let receipt_empty : unwritten ≡ Some [] → written_in contents c.in_ok-receipt.receipt ≡ begun (receipt_name options)
    = λ fresh. c.in_ok-receipt.ensures.unwritten (rw second fresh) ∙ ap begun c.value.ensures in
    let apart : IsSome c.of_piece-outputs.result.core → lrat' ≡ lrat = λ there. ap (bytes_in (writer_contents contents)) (ran.apart there) in
    let wanted_core : is_some c.of_piece-outputs.result.core ≡ is_some (core_name options) = ap is_some made.core ∙ c.in_ok-create_outputs.ensures.wanted in
    let whole : bytes_of contents c.of_whole-outputs.result.0 ≡ record { lrat = lrat'; trim = None; core = clauses' }
    = rw (c.of_whole-outputs.ensures.lrat, c.of_whole-outputs.ensures.trim, c.of_whole-outputs.ensures.core) refl in
    record {
      ends = λ untrimmed. rw c.ended.ensures
          (ends_weaker piece_line (status_shown shows_wanted) _ _ _ _ _ _
          (piece_shown contents unwritten place c.args.call.now c.of_piece-outputs.result.core c.of_piece-outputs.result.form lrat lrat' clauses clauses' held target old new
          untrimmed lines_empty clauses_empty apart r cnf holds c.in_ok-receipt-2.receipt ran.lines ran.core
          (made.form ∙ c.in_ok-create_outputs.ensures.form) wanted_core
          (λ text known. ap Some (is text known)) (λ wanted other. ap Some (next wanted other))
          ran.refutes ran.carries
          (λ text known fresh refuted.
          let said = c.piece_receipt-said.ensures.refuted text (rw (is text known) at c.in_ok-cnf-2.ensures.digest) refuted in
          c.in_ok-receipt-2.ensures.written (refuted_of text) said (receipt_empty fresh) (status_in shows_wanted r Refuted refuted refl))
          (λ text wanted known other fresh carried.
          let said = c.piece_receipt-said.ensures.carried text wanted (rw (is text known) at c.in_ok-cnf-2.ensures.digest) (rw (next wanted other) at c.in_ok-holds-2.ensures.digest) carried in
          c.in_ok-receipt-2.ensures.written (carries_of text wanted) said (receipt_empty fresh) (status_in shows_wanted r Carried carried refl))
          (λ other. ok_none (c.in_ok-receipt-2.ensures.unshown other)))
          (λ left. leaves_failed unwritten place c.args.call.now old new c.show-outcome.result
          (piece_left contents unwritten place c.args.call.now c.of_piece-outputs.result.core c.of_piece-outputs.result.form lrat lrat' clauses clauses' held target old new
          untrimmed lines_empty clauses_empty apart r ran.lines ran.core left))
          (ended_of shows_wanted c.show-outcome.result) (rw (same, whole) at c.show-outcome.ensures.ends));
    }
