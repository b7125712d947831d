use Rattle.checker_steps.proofs.Common.{common_steps, err_from_is_err_and, listeners_of}
use Rattle.std.proofs.Common.{arith}
use Rattle.checker_steps.proofs.EmissionLemmas.{all-fault, all-one, all-second}
use Rattle.checker_steps.proofs.steps.add_clause.emit_added.Goals.{then-newly_irredundant+in_ok-emit_make_irredundant-in-Duplicate, else-newly_irredundant}
use Rattle.checker_steps.proofs.steps.add_clause.emit_added.Goals as goal

pub returns-in-Tautology : goal.returns-in-Tautology
returns-in-Tautology g c =
    rw c.in-Tautology.is (all-one g.P.ProofProcessor g.T.ProofTranscriptProcessor _ _ _ c.emit_tautological_clause.result c.emit_tautological_clause.ensures)

pub returns-in-New : goal.returns-in-New
returns-in-New g c =
    rw c.in-New.is (all-one g.P.ProofProcessor g.T.ProofTranscriptProcessor _ _ _ c.emit_add_clause.result c.emit_add_clause.ensures)

pub returns-in_err-emit_make_irredundant-in-Duplicate : goal.returns-in_err-emit_make_irredundant-in-Duplicate
returns-in_err-emit_make_irredundant-in-Duplicate g c = grind (arith, common_steps, err_from_is_err_and, all-fault)

pub returns-after-newly_irredundant : goal.returns-after-newly_irredundant
returns-after-newly_irredundant g c =
    let last = all-one g.P.ProofProcessor g.T.ProofTranscriptProcessor _ (listeners_of c.if-newly_irredundant.processing)
    (listeners_of c.emit_duplicated_clause.new.processing) c.emit_duplicated_clause.result c.emit_duplicated_clause.ensures in
    elim c.if-newly_irredundant.branch [
      | then-newly_irredundant+in_ok-emit_make_irredundant-in-Duplicate w ↦ rw (c.in-Duplicate.is, w.if-newly_irredundant.true)
          (all-second g.P.ProofProcessor g.T.ProofTranscriptProcessor _ _ (listeners_of c.args.processing.now)
          (listeners_of w.emit_make_irredundant.new.processing) (listeners_of c.emit_duplicated_clause.new.processing)
          c.emit_duplicated_clause.result
          (rw w.in_ok-emit_make_irredundant-in-Duplicate.was at w.emit_make_irredundant.ensures) (rw w.processing-is at last))
      | else-newly_irredundant w ↦ rw (c.in-Duplicate.is, w.if-newly_irredundant.false) (rw w.processing-is at last)
    ]
