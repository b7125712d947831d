-- What most contracts of this crate and of its callers cite of the definitions below, passed on from one place. Declares nothing.
pub use Rattle.checker_rules.specs.CallEmissions.{EmitsCall, EmitsCalls}
pub use Rattle.checker_rules.specs.Calls.{adds, attempt, checks, closes, closing_conflict, shown_inputs, shown_unsat, step_limit}
pub use Rattle.checker_rules.specs.Headline.{EntailsRedundant, holds}
pub use Rattle.checker_rules.specs.State.{State}
pub use Rattle.checker_rules.specs.Step.{Step}
pub use Rattle.checker_parts.specs.Answers.{AnswersStep, CoversFold, IsCovered, IsFold, SetsFold, UnlessFailed}
pub use Rattle.checker_parts.specs.Memory.{NeedsNoMemory}
pub use Rattle.checker_steps.specs.Failing.{IsFailed, RecordsFailure, has_failed}
pub use Rattle.varisat_checker.specs.Certified.{Certifies}
