use Rattle.std.proofs.Common.{◌≡◌, ◌∙◌, [], ap, refl, None, Some}
use Rattle.command.specs.Calls.{choices_of}
use Rattle.command.specs.Held.{held_in}
use Rattle.command.specs.Outputs.{begun, written_in}
use Rattle.model_check.specs.Verdicts.{shown_line, shows_sat}
use Rattle.model_check.specs.declared.verdict.Verdict.TheVariants.{Verified}
use Rattle.model_check_main.proofs.Meant.{first_name, means_named, second_name}
use Rattle.model_check_main.proofs.files.check_files.Goals as goal
use Rattle.receipt_files.proofs.Leaving.{gives_receipt, ok_before, ok_none, status_in}
use Rattle.receipt_files.specs.Named.{Keeps, held_by, receipt_in, receipt_name, satisfied_of}
use Rattle.verdicts.proofs.Ending.{ends_shown}

-- the verdict means it of the bytes that were held, and its receipt has its name before the line is written
pub returns : goal.returns
returns g c =
    let options = choices_of c.args.call.now in
    let contents = g.S.Output.Write.contents in
    let first = c.new-files.ensures.system in
    let same = c.create_wanted.ensures.system ∙ first in
    let place = g.S.OutputSystem.place c.args.system.now in
    let unwritten = g.S.OutputSystem.unwritten c.args.system.now in
    let before = g.S.OutputSystem.renamed c.args.given.now in
    let after = g.S.OutputSystem.renamed c.keep_receipt-named.new.given in
    let whole = c.in_ok-receipt-2.receipt in
    let empty : unwritten ≡ Some [] → written_in contents c.in_ok-receipt.receipt ≡ begun (receipt_name options) = λ fresh.
    let fresh_files : g.S.OutputSystem.unwritten c.new-files.result.system.now ≡ Some [] = rw first fresh in
    c.in_ok-receipt.ensures.unwritten fresh_files ∙ ap begun c.value.ensures in
    let means = means_named (g.S.System.file_bytes c.args.system.now) (g.S.System.input_bytes c.args.system.now) c.args.call.now
    (λ receipt. unwritten ≡ Some [] → held_by contents whole ≡ receipt_in options receipt) (Keeps unwritten place options before after) (after ≡ before)
    c.map_err-checked.result c.keep_receipt-named.result c.keep_receipt-named.ensures.verdict
    (λ ended receipt is_whole fresh. gives_receipt contents place options receipt whole before after (is_whole fresh) (rw same at (c.keep_receipt-named.ensures.named ended)))
    (λ ended other. let none : whole ≡ None = ok_none (c.in_ok-receipt-2.ensures.unshown other) in rw none at (c.keep_receipt-named.ensures.named ended))
    (λ verified cnf answer text operands alone known.
    let named = first_name _ _ _ _ _ operands c.in_ok-names.ensures.ok in
    let left = rw c.in_ok-cnf.ensures.ok_part at c.open_inputs.ensures.first_bytes in
    let is : held_in c.in_ok-cnf-2.cnf.held ≡ text = rw (left ∙ rw named at known) at c.in_ok-cnf-2.ensures.bytes in (
      λ said read.
          let named_next = second_name _ _ _ _ _ operands c.in_ok-names.ensures.ok in
          let left_next = rw c.in_ok-cnf.ensures.ok_part at c.open_inputs.ensures.second_bytes in
          let next : held_in c.in_ok-answer.answer ≡ said = rw (left_next ∙ rw named_next at read) at c.in_ok-answer.ensures.bytes in
          c.run_check.ensures.satisfies text said (ap Some is) (ap Some next) (ok_before _ c.run_check.result c.map_err-checked.result Verified c.map_err-checked.ensures.cases verified),
      λ fresh. c.in_ok-receipt-2.ensures.written (satisfied_of text) (c.satisfied_by-said.ensures text (rw is at c.in_ok-cnf-2.ensures.digest)) (empty fresh)
          (status_in shows_sat c.map_err-checked.result Verified verified refl),
    )) in
    record { ends = rw c.ended.ensures (ends_shown shown_line shows_sat _ _ _ _ c.keep_receipt-named.result c.show_line-outcome.result c.show_line-outcome.ensures means c.keep_receipt-named.ensures.kept) }
