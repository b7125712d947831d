-- A step as it is read: what it says beside its lists, and the lists.
use Rattle.std.specs.Prelude.{ℕ, Bool, true, List, Option, Result, Ok, Err}
use Rattle.sat_formula.specs.Vars.{index_of, indexes_of}
use Rattle.checker_rules.specs.Step.{Step, solver_var_name, user_var_name, delete_var, change_sampling_mode, add_clause, at_clause}
use Rattle.checker_rules.specs.Step.{delete_clause, unit_clauses, change_hash_bits, model, assumptions, failed_assumptions, end_proof}
use Rattle.proof_bytes.specs.declared.fault.MalformedStep.{MalformedStep}
use Rattle.sat_formula.specs.declared.stop.Stop.{Stop}
use Rattle.proof_bytes.specs.declared.body.BodyReader.{BodyReader}
use Rattle.proof_bytes.specs.declared.body.Head.{Head}
use Rattle.proof_bytes.specs.declared.body.Head.TheVariants as heads
use Rattle.proof_bytes.specs.NextStep.{why, is_end}
use Rattle.proof_bytes.specs.Reading.{Found}
use Rattle.proof_bytes.specs.Taking.{unread_fields, Reads}

-- a step by its head and the lists that were read
abbrev pub step_with : Head → List ℕ → List ℕ → List (ℕ × ℕ) → Step
step_with (heads.SolverVarName global solver) lits hashes units =
    solver_var_name (index_of global) (indexes_of solver)
step_with (heads.UserVarName global user) lits hashes units =
    user_var_name (index_of global) (indexes_of user)
step_with (heads.DeleteVar var) lits hashes units = delete_var (index_of var)
step_with (heads.ChangeSamplingMode var sample) lits hashes units =
    change_sampling_mode (index_of var) sample
step_with heads.AddClause lits hashes units = add_clause lits
step_with (heads.AtClause redundant) lits hashes units = at_clause redundant lits hashes
step_with (heads.DeleteClause proof) lits hashes units = delete_clause (why proof) lits
step_with heads.UnitClauses lits hashes units = unit_clauses units
step_with (heads.ChangeHashBits bits) lits hashes units = change_hash_bits bits
step_with heads.Model lits hashes units = model lits
step_with heads.Assumptions lits hashes units = assumptions lits
step_with heads.FailedAssumptions lits hashes units = failed_assumptions lits hashes
step_with heads.End lits hashes units = end_proof

-- the step that was read into the reader's lists
abbrev pub step_of : {R : Type 0} → Head → BodyReader R → Step
step_of head r = step_with head r.lits.items r.hashes.items r.units.items

-- whether nothing is read after this answer
abbrev pub is_last : {R : Type 0} → Result Head (Stop MalformedStep) → BodyReader R → Bool
is_last (Ok head) r = is_end (step_of head r)
is_last (Err e) r = true

-- the bytes that are still to come, if the reader beneath says them
abbrev pub unread_body : {R : Type 0} → (R → Option (List ℕ)) → BodyReader R → Option (List ℕ)
unread_body remaining r = unread_fields remaining r.fields

-- the call read what f reads, seen so, or stopped where f does
abbrev pub Fills : {R X A : Type 0} → (R → Option (List ℕ)) → (X → A) → BodyReader R →
    BodyReader R → Result X (Stop MalformedStep) → (List ℕ → Found A) → Type 0
Fills remaining seen old new r f = Reads remaining seen old.fields new.fields r f
