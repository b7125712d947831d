use Rattle.std.proofs.Common.{◌≡◌, ◌∷◌, ℕ, List, [], ap, inl, inr}
use Rattle.std.proofs.lemmas.Result.{on_ok_weaker}
use Rattle.checker_parts.specs.CheckedSteps.{step_of}
use Rattle.checker_rules.specs.CheckedSteps.{hint_step}
use Rattle.checker_rules.specs.HintRun.{puts_input}
use Rattle.sat_hints.proofs.WrittenSteps.{wrote_one}
use Rattle.sat_hints.proofs.writer.LratWriter.write_step.Goals as goal

pub returns-in-AddClause-clause-ok : goal.returns-in-AddClause-clause-ok
returns-in-AddClause-clause-ok c =
    let asked : (clause : List ℕ) × (hint_step (step_of c.args.step.now) ≡ puts_input c.in-AddClause.id clause ∷ []) = elim c.in-AddClause.is [
      | inl (clause, is) ↦ (clause.now, ap (λ s. hint_step (step_of s)) is)
      | inr (inl (_, clause, is)) ↦ (clause.now, ap (λ s. hint_step (step_of s)) is)
      | inr (inr (clause, is)) ↦ (clause.now, ap (λ s. hint_step (step_of s)) is)
    ] in
    on_ok_weaker c.note_input.result (λ p. wrote_one _ _ _ _ asked.1 (p asked.0)) c.note_input.ensures.ok
