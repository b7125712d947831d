-- What a step does, opened by its kind: for goals that name `step`.
use Rattle.std.proofs.Common.{◌≡◌, ℕ, Bool, true, List, [], ◌∷◌, ◌++◌, Option, refl}
use Rattle.checker_rules.specs.AddClause.{step_add_clause}
use Rattle.checker_rules.specs.Assumptions.{step_assumptions}
use Rattle.checker_rules.specs.AtClause.{step_at_clause}
use Rattle.checker_rules.specs.ChangeHashBits.{step_change_hash_bits}
use Rattle.checker_rules.specs.ChangeSamplingMode.{step_change_sampling_mode}
use Rattle.checker_rules.specs.DeleteClause.{step_delete_clause}
use Rattle.checker_rules.specs.DeleteVar.{step_delete_var}
use Rattle.checker_rules.specs.FailedAssumptions.{step_failed_assumptions}
use Rattle.checker_rules.specs.Model.{step_model}
use Rattle.checker_rules.specs.Outcome.{accept}
use Rattle.checker_rules.specs.State.{State}
use Rattle.checker_rules.specs.Step.{Justification, add_clause, assumptions, at_clause, change_hash_bits, change_sampling_mode, delete_clause}
use Rattle.checker_rules.specs.Step.{delete_var, end_proof, failed_assumptions, model, solver_var_name, unit_clauses, user_var_name}
use Rattle.checker_rules.specs.Steps.{step}
use Rattle.checker_rules.specs.UnitClauses.{step_unit_clauses}
use Rattle.checker_rules.specs.UserVarName.{step_user_var_name}

pub step-solver_var_name : (s : State) (x : ℕ) (v : Option ℕ) → step s (solver_var_name x v) ≡ accept (record s { pending = s.pending ++ (x, v) ∷ [] })
unfolding step
step-solver_var_name s x v = refl

pub step-user_var_name : (s : State) (x : ℕ) (user : Option ℕ) → step s (user_var_name x user) ≡ step_user_var_name s x user
unfolding step
step-user_var_name s x user = refl

pub step-delete_var : (s : State) (x : ℕ) → step s (delete_var x) ≡ step_delete_var s x
unfolding step
step-delete_var s x = refl

pub step-change_sampling_mode : (s : State) (x : ℕ) (to_sample : Bool) → step s (change_sampling_mode x to_sample) ≡ step_change_sampling_mode s x to_sample
unfolding step
step-change_sampling_mode s x to_sample = refl

pub step-add_clause : (s : State) (c : List ℕ) → step s (add_clause c) ≡ step_add_clause s c
unfolding step
step-add_clause s c = refl

pub step-at_clause : (s : State) (redundant : Bool) (c hashes : List ℕ) → step s (at_clause redundant c hashes) ≡ step_at_clause s redundant c hashes
unfolding step
step-at_clause s redundant c hashes = refl

pub step-delete_clause : (s : State) (j : Justification) (c : List ℕ) → step s (delete_clause j c) ≡ step_delete_clause s j c
unfolding step
step-delete_clause s j c = refl

pub step-unit_clauses : (s : State) (units : List (ℕ × ℕ)) → step s (unit_clauses units) ≡ step_unit_clauses s units
unfolding step
step-unit_clauses s units = refl

pub step-change_hash_bits : (s : State) (bits : ℕ) → step s (change_hash_bits bits) ≡ step_change_hash_bits s bits
unfolding step
step-change_hash_bits s bits = refl

pub step-model : (s : State) (assignment : List ℕ) → step s (model assignment) ≡ step_model s assignment
unfolding step
step-model s assignment = refl

pub step-assumptions : (s : State) (c : List ℕ) → step s (assumptions c) ≡ step_assumptions s c
unfolding step
step-assumptions s c = refl

pub step-failed_assumptions : (s : State) (core hashes : List ℕ) → step s (failed_assumptions core hashes) ≡ step_failed_assumptions s core hashes
unfolding step
step-failed_assumptions s core hashes = refl

pub step-end_proof : (s : State) → step s end_proof ≡ accept (record s { ended = true })
unfolding step
step-end_proof s = refl
