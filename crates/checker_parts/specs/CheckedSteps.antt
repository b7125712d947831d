-- The steps of the code as those of the definitions: lists in place of references to them.
--     step_of step      a checked step
--     told step names      the step with the names that are shown with it
--     transcript_of step      a transcript step
use Rattle.std.specs.Prelude.{Bool, true, false, List, Option, Some, None}
use Rattle.sat_formula.specs.Vars.{index_of}
use Rattle.checker_rules.specs.CheckedSteps as rules
use Rattle.checker_rules.specs.CheckedSteps.{CheckedStep, NamedStep}
use Rattle.checker_rules.specs.State.{Known}
use Rattle.checker_rules.specs.Transcript as rules_transcript
use Rattle.checker_rules.specs.Transcript.{TranscriptStep}
use Rattle.checker_parts.specs.declared.step.CheckedProofStep.{CheckedProofStep}
use Rattle.checker_parts.specs.declared.step.CheckedProofStep.TheVariants as steps
use Rattle.checker_parts.specs.declared.step.CheckedSamplingMode.{CheckedSamplingMode}
use Rattle.checker_parts.specs.declared.step.CheckedSamplingMode.TheVariants as modes
use Rattle.checker_parts.specs.declared.step.CheckedUserVar.{CheckedUserVar}
use Rattle.checker_parts.specs.declared.step.ProofTranscriptStep.{ProofTranscriptStep}
use Rattle.checker_parts.specs.declared.step.ProofTranscriptStep.TheVariants as transcripts

-- whether the mode is `Sample`
abbrev pub samples : CheckedSamplingMode → Bool
samples modes.Sample = true
samples modes.Witness = false

-- a user name with its mode
abbrev pub user_var_of : CheckedUserVar → rules.CheckedUserVar
user_var_of u = record {
  user_var = index_of u.user_var;
  samples = samples u.sampling_mode;
  new_var = u.new_var;
}

-- a user name, where there is one
abbrev pub user_vars_of : Option CheckedUserVar → Option rules.CheckedUserVar
user_vars_of None = None
user_vars_of (Some u) = Some (user_var_of u)

-- a checked step
abbrev pub step_of : CheckedProofStep → CheckedStep
step_of (steps.UserVar var user_var) = rules.checked_user_var (index_of var) (user_vars_of user_var)
step_of (steps.AddClause id clause) = rules.checked_add_clause id clause.now
step_of (steps.DuplicatedClause id same_as_id clause) =
    rules.checked_duplicated_clause id same_as_id clause.now
step_of (steps.TautologicalClause id clause) = rules.checked_tautological_clause id clause.now
step_of (steps.AtClause id redundant clause propagations) =
    rules.checked_at_clause id redundant clause.now propagations.now
step_of (steps.DeleteClause id clause) = rules.checked_delete_clause id clause.now
step_of (steps.DeleteAtClause id keep_as_redundant clause propagations) =
    rules.checked_delete_at_clause id keep_as_redundant clause.now propagations.now
step_of (steps.DeleteRatClause id keep_as_redundant clause pivot propagations) =
    rules.checked_delete_rat_clause id keep_as_redundant clause.now pivot
step_of (steps.MakeIrredundant id clause) = rules.checked_make_irredundant id clause.now
step_of (steps.Model assignment) = rules.checked_model assignment.now
step_of (steps.Assumptions assumptions) = rules.checked_assumptions assumptions.now
step_of (steps.FailedAssumptions failed_core propagations) =
    rules.checked_failed_assumptions failed_core.now propagations.now

-- the step with the names that are shown with it
abbrev pub told : CheckedProofStep → List Known → NamedStep
told step names = record { step = step_of step; names = names }

-- a transcript step
abbrev pub transcript_of : ProofTranscriptStep → TranscriptStep
transcript_of (transcripts.WitnessVar var) = rules_transcript.transcript_witness_var (index_of var)
transcript_of (transcripts.SampleVar var) = rules_transcript.transcript_sample_var (index_of var)
transcript_of (transcripts.HideVar var) = rules_transcript.transcript_hide_var (index_of var)
transcript_of (transcripts.ObserveInternalVar var) =
    rules_transcript.transcript_observe_internal_var (index_of var)
transcript_of (transcripts.AddClause clause) = rules_transcript.transcript_add_clause clause.now
transcript_of transcripts.Unsat = rules_transcript.transcript_unsat
transcript_of (transcripts.Model assignment) = rules_transcript.transcript_model assignment.now
transcript_of (transcripts.Assume assumptions) = rules_transcript.transcript_assume assumptions.now
transcript_of (transcripts.FailedAssumptions failed_core) =
    rules_transcript.transcript_failed_assumptions failed_core.now

-- a transcript step, where there is one
abbrev pub transcripts_of : Option ProofTranscriptStep → Option TranscriptStep
transcripts_of None = None
transcripts_of (Some step) = Some (transcript_of step)
