-- What most proofs of this crate cite of the crates and definitions below them.
pub use Rattle.std.specs.HashMap.{IsUnique, values, IsEmpty}
pub use Rattle.std.specs.List.{list_any, list_all, flat_map, AllZip}
pub use Rattle.std.proofs.lemmas.Bool.{lt-leb, and_parts, both_ways, eq-eqb, false_from_ne_true, lt-ltb, or_left, or_right, leb-false}
pub use Rattle.std.proofs.lemmas.Bool.{leb-true, not-true, ne_eqb}
pub use Rattle.std.proofs.lemmas.Bool.Decides.{nat_tests}
pub use Rattle.std.proofs.lemmas.Grind.{common_steps}
pub use Rattle.std.proofs.lemmas.List.{get_or-append-add, append-nil, append_assoc, length-set, map-set, drop_all, map-append}
pub use Rattle.std.proofs.lemmas.Result.{IfErr-weaker, on_ok_weaker, err_from_is_err_and}
pub use Rattle.sat_rules.specs.Clauses.{has, is_canonical, is_tautology, negate, var_of, add_lit}
pub use Rattle.checker_rules.specs.CallEmissions.{EmitsCall}
pub use Rattle.checker_rules.specs.Calls.{checks, step_limit, attempt}
pub use Rattle.checker_rules.specs.Canonical.{canonical, same_list, var_bound}
pub use Rattle.checker_rules.specs.Check.{check, ready, apply_pending}
pub use Rattle.checker_rules.specs.CheckedSteps.{NamedStep, checked_failed_assumptions, named_in}
pub use Rattle.checker_rules.specs.CheckedSteps.{checked_at_clause, checked_user_var, checked_assumptions}
pub use Rattle.checker_rules.specs.DeleteVar.{holds_var, is_conflict_on, free_var, forget_var}
pub use Rattle.checker_rules.specs.Emits.{Emits, emits_input, EmitsRefused, emits_deletion, emits_lowered, previous_id, emits_closing}
pub use Rattle.checker_rules.specs.Emits.{emits_irredundant, EmitsAccepted, EmitsBy, is_only_redundant, emits_unit}
pub use Rattle.checker_rules.specs.KnownVars.{some_not_sampling, know_clause, know, is_sample, known_of}
pub use Rattle.checker_rules.specs.KnownVars.{set_known}
pub use Rattle.checker_rules.specs.Outcome.{Cause, Outcome, accept, count_exhausted, ids_exhausted, not_sampling, refuse}
pub use Rattle.checker_rules.specs.Outcome.{tautology, and_then}
pub use Rattle.checker_rules.specs.Outcome.{and_then_by, deleted_var_has_clauses, deleted_var_named, model_after_unsat}
pub use Rattle.checker_rules.specs.Outcome.{no_name_to_remove}
pub use Rattle.checker_rules.specs.Outcome.{steps_exhausted, hash_bits}
pub use Rattle.checker_rules.specs.State.{State, Stored, StoredUnit, unit_of, Known, hide, sample, witness}
pub use Rattle.checker_rules.specs.Step.{add_clause, failed_assumptions, Justification, Step, by_redundant, by_satisfied, by_simplified}
pub use Rattle.checker_rules.specs.Step.{delete_clause, delete_var, at_clause, end_proof, model, change_sampling_mode, user_var_name, unit_clauses}
pub use Rattle.checker_rules.specs.Step.{assumptions, change_hash_bits}
pub use Rattle.checker_rules.specs.Steps.{step, new_state}
pub use Rattle.checker_rules.specs.Store.{count_limit, count_of, is_stored, id_limit, id_of, stands, store, is_gone, take_id}
pub use Rattle.checker_rules.specs.Traced.{check_trace, traced, traced_when, traced_units}
pub use Rattle.checker_rules.specs.Transcript.{known_at, TranscriptStep, image}
pub use Rattle.checker_rules.specs.WellFormed.{are_apart, WellFormed, is_fine}
pub use Rattle.checker_rules.proofs.Entries.{rise_next, canonical-is}
pub use Rattle.checker_rules.proofs.RanLemmas.{both_ran_append, both_ran_line, both_ran_nil, both_ran_alone, both_ran_quiet}
pub use Rattle.checker_rules.proofs.StepForms.{steps_keep_form, new_form, form-close}
pub use Rattle.checker_rules.proofs.StepKinds.{step-add_clause, step-failed_assumptions, step-delete_clause, step-delete_var, step-at_clause}
pub use Rattle.checker_rules.proofs.StepKinds.{step-end_proof, step-model, step-change_sampling_mode, step-user_var_name, step-unit_clauses}
pub use Rattle.checker_rules.proofs.StepKinds.{step-assumptions, step-change_hash_bits, step-solver_var_name}
pub use Rattle.sat_formula.specs.Vars.{indexes_of, index_of}
pub use Rattle.proof_bytes.specs.NextStep.{view, why}
pub use Rattle.checker_parts.specs.Causes.{cause_of}
pub use Rattle.checker_parts.specs.CheckedSteps.{transcripts_of, told, transcript_of}
pub use Rattle.checker_parts.specs.Faults.{AnswersOutcome, UnlessStopped, IsErrorOf, IsFaultOrMemory}
pub use Rattle.checker_parts.specs.declared.error.StepFault.{StepFault}
pub use Rattle.checker_parts.specs.declared.error.StepFault.TheVariants.{Refused, Processor, OutOfMemory}
pub use Rattle.checker_parts.proofs.Rising.{canonical_itself, rising_canonical, rising_is, rising_sound}
pub use Rattle.clause_store.specs.PartsInvariant.{PartsInvariant}
pub use Rattle.clause_store.specs.Refusal.{store_fault, delete_fault}
pub use Rattle.clause_store.specs.StateOf.{state_of, applied_of, pending_of, stored_units, stored_unit}
pub use Rattle.clause_store.specs.Store.{UnlessOutOfMemory, is_whole, AnswersStore, Stores, result_of, IsStore, store_counters, IsIndexed}
pub use Rattle.clause_store.specs.View.{stored_list, stored_of, by_id, stored_in}
pub use Rattle.clause_store.specs.declared.clauses.Clauses.{Clauses}
pub use Rattle.clause_store.specs.declared.clauses.store.StoreFault.{StoreFault}
pub use Rattle.clause_store.specs.declared.hash.ClauseHasher.{ClauseHasher}
pub use Rattle.clause_store.specs.declared.state.CheckerState.{CheckerState}
pub use Rattle.clause_store.proofs.GrowthLemmas.{is_store-known, names-enough}
pub use Rattle.clause_store.proofs.RefusalLemmas.{answers-refuse, kept-answer, answers-part, answers-unless-memory}
pub use Rattle.checker_steps.specs.Context.{context_state, ContextInvariant}
pub use Rattle.checker_steps.specs.Delivered.{Delivered, DeliveredList, Listeners, Listens, ListensImage, DeliveredWhole, DeliveredStep}
pub use Rattle.checker_steps.specs.Delivered.{DeliveredBeginning, RanOver, DeliveredAll, listeners_of}
pub use Rattle.checker_steps.specs.Derived.{steps_unless, derived, derived_steps, stored_steps, IsTraceFor}
pub use Rattle.checker_steps.specs.FailedCore.{core_cause, core_clause, core_steps}
pub use Rattle.checker_steps.specs.InputCause.{IsFaultOf, early_cause, input_cause, taken}
pub use Rattle.checker_steps.specs.Marks.{MarksOnly, is_marked}
pub use Rattle.checker_steps.specs.ModelCause.{has_marked, first_cause, list_cause, lit_cause}
