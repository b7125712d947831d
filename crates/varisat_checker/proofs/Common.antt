-- What most proofs of this crate cite of the crates and definitions below them.
pub use Rattle.std.proofs.lemmas.Grind.{common_steps}
pub use Rattle.checker_rules.specs.AddFormula.{add_clauses, added, added_by}
pub use Rattle.checker_rules.specs.CallEmissions.{EmitsCall, EmitsCalls}
pub use Rattle.checker_rules.specs.Calls.{Call, adds, answer_of, calls_after, attempt, checks, count_step, step_limit, closes, closing_conflict, fail}
pub use Rattle.checker_rules.specs.CheckedSteps.{hint_steps, NamedStep}
pub use Rattle.checker_rules.specs.Headline.{EntailsRedundant}
pub use Rattle.checker_rules.specs.Outcome.{Cause, Outcome, and_then_by, accept, and_then, refuse, steps_exhausted}
pub use Rattle.checker_rules.specs.State.{State, StoredUnit}
pub use Rattle.checker_rules.specs.Step.{Step, Justification, add_clause, at_clause, by_redundant, unit_clauses, user_var_name}
pub use Rattle.checker_rules.specs.WellFormed.{WellFormed}
pub use Rattle.checker_rules.proofs.RunJoins.{runs_run_machine, emissions_join, runs_join}
pub use Rattle.checker_parts.specs.Answers.{AnswersParts, AnswersStep, UnlessFailed, IsCovered, IsFold, UnlessGivenUp, AnswersText, UnlessTextFailed}
pub use Rattle.checker_parts.specs.Endings.{ending, text_ending}
pub use Rattle.checker_parts.specs.declared.error.CheckerError.{CheckerError}
pub use Rattle.checker_parts.specs.declared.error.CheckerError.TheVariants.{ProofProcessorError, OutOfMemory, Failed, CheckFailed, ProofIncomplete}
pub use Rattle.checker_parts.specs.declared.error.CheckerError.TheVariants.{IoError, ParseError}
pub use Rattle.checker_parts.proofs.Headlines.{unless_failed, covers_fold-attempt, covers_fold-closing, sets_fold-attempt, sets_fold-closing}
pub use Rattle.checker_parts.proofs.Headlines.{sets_text, covers_fold-step, sets_fold-step}
pub use Rattle.checker_steps.specs.Context.{context_state, ContextInvariant}
pub use Rattle.checker_steps.specs.Delivered.{Listeners, Listens, ListensImage, Delivered, DeliveredWhole, DeliveredEnd, listeners_of}
pub use Rattle.checker_steps.proofs.DeliveryLemmas.{beginning-first, beginning-second, ran-append, ran-none}
pub use Rattle.varisat_checker.specs.ProofRun.{EmitsProof, EndsProof, PartsRun, ProofRun, IsReadText}
