use Rattle.std.proofs.Common.{◌≡◌, ◌∙◌, ℕ, List, Some, arith}
use Rattle.std.proofs.lemmas.Grind.{common_steps}
use Rattle.command.specs.Held.{held_in}
use Rattle.command.specs.Inputs.{bytes_named}
use Rattle.varisat_check.specs.Verdicts.{shown_line, shows_unsat}
use Rattle.varisat_check_main.proofs.Meaning.{means_held, names_hints}
use Rattle.varisat_check_main.proofs.hints.write_hints.Goals as goal
use Rattle.varisat_check_main.specs.Meaning.{HasHints, MeansOf}
use Rattle.verdicts.proofs.Ending.{ends_shown}

-- the formula is that of the call, and the file of hints was empty
pub returns : goal.returns
returns g c =
    let named = bytes_named (g.S.System.file_bytes c.args.system.now) (g.S.System.input_bytes c.args.system.now) c.args.names.cnf.now in
    let unwritten = g.S.OutputSystem.unwritten c.args.system.now in
    let place = g.S.OutputSystem.place c.args.system.now c.args.lrat_name.now in
    let old = g.S.OutputSystem.renamed c.args.given.now in
    let new = g.S.OutputSystem.renamed c.name_hints-named.new.given in
    let held = held_in c.in_ok-cnf-2.cnf in
    let read : (text : List ℕ) → named ≡ Some text → held ≡ text = λ text known. grind (arith, common_steps) in
    let empty : g.S.Output.Write.contents c.in_ok-lrat.lrat ≡ g.S.OutputSystem.unwritten c.args.system.now = grind (arith, common_steps) in
    record {
      ends = rw c.report.ensures
          (ends_shown shown_line shows_unsat
          (λ verdict. MeansOf named verdict × HasHints named unwritten place old new) (new ≡ old) _ _
          c.name_hints-named.result c.show_line-outcome.result c.show_line-outcome.ensures
          (names_hints named unwritten place (g.S.Output.Write.contents c.hints_of-checked.new.lrat) old new held c.hints_of-checked.result
          c.name_hints-named.result read c.name_hints-named.ensures.verdict
          (means_held named held read c.hints_of-checked.result c.hints_of-checked.ensures.refutes)
          (λ fresh. c.hints_of-checked.ensures.hints (empty ∙ fresh))
          (rw (c.create.ensures.system ∙ c.new-files.ensures.system) at c.name_hints-named.ensures.named))
          c.name_hints-named.ensures.kept);
    }
