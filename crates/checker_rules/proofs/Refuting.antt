-- A run that records `unsat` and adds no input clause refutes what held before it.
use Rattle.checker_rules.proofs.Openings.{closing_cases, move_cases, attempt-counted}
use Rattle.std.proofs.Common.{◌≡◌, ◌⊎◌, ◌≤◌, ℕ, Bool, false, ltb, List, [], ◌∷◌, map, Option, None, refl, sym, ap, ◌∙◌, subst, arith, inl, inr}
use Rattle.std.proofs.lemmas.Bool.{cond_both, or_parts}
use Rattle.sat_rules.specs.Clauses.{flip}
use Rattle.checker_rules.specs.AddFormula.{add_clauses}
use Rattle.checker_rules.specs.Calls.{attempt, closing_conflict, count_step, step_limit}
use Rattle.checker_rules.specs.Covers.{Covers}
use Rattle.checker_rules.specs.Headline.{changed, holds, run}
use Rattle.checker_rules.specs.Outcome.{Cause, Outcome}
use Rattle.checker_rules.specs.Refutations.{FormulasAreRefuted, RunsRefute}
use Rattle.checker_rules.specs.Run.{Runs, Stop, move}
use Rattle.checker_rules.specs.State.{State}
use Rattle.checker_rules.specs.Step.{Step, add_clause}
use Rattle.checker_rules.specs.Step.{delete_var}
use Rattle.checker_rules.specs.Steps.{new_state, step}
use Rattle.checker_rules.proofs.AddedClauses.{formulas_are_fold, members}
use Rattle.checker_rules.proofs.Inputs.{counted, counts-add}
use Rattle.checker_rules.proofs.StepKinds.{step-add_clause}
use Rattle.checker_rules.proofs.WholeRuns.{empty_where, move_covers}

-- what a move says of the step that it accepts, and of the number of input clauses that it leaves
abbrev Moved : {X F : Type 0} → State → (Step × X) ⊎ Stop F → Type 0
Moved s (inl p) = (attempt s p.0 ≡ step (count_step s) p.0) × ((step (count_step s) p.0).refused ≡ None)
Moved s (inr p) = s.inputs ≤ p.1.inputs

counted_attempt : (s : State) (t : Step) → s.inputs ≤ (attempt s t).after.inputs
unfolding attempt
counted_attempt s t = cond_both (ltb s.steps step_limit) _ _ (λ (o : Outcome). s.inputs ≤ o.after.inputs) (λ e. counted (count_step s) t) (λ e. omega arith)

counted_closing : (s : State) → s.inputs ≤ (closing_conflict s).after.inputs
counted_closing s = closing_cases (λ o. s.inputs ≤ o.after.inputs) s (omega arith) (omega arith) (omega arith)

module _ (X F : Type 0) where
  moved : (next : X → (Step × X) ⊎ F) (s : State) (x : X) → Moved s (move next s x)
  moved next s x = move_cases X F (Moved {X = X} {F = F} s) next s x (counted_closing s) (omega arith) (λ f. omega arith)
      (λ t rest d e. (attempt-counted s t d, rw (attempt-counted s t d) at e)) (λ t c e. counted_attempt s t)

  pub counted_run : (next : X → (Step × X) ⊎ F) (s : State) (x : X) (ts : List Step) (answer : Option (Cause ⊎ F)) (r : State) → Runs next s x ts answer r → s.inputs ≤ r.inputs
  counted_run next s x [] answer r run = rw run at (moved next s x)
  counted_run next s x (t ∷ ts) answer r run = let a = counted_attempt s t in let b = counted_run next (attempt s t).after run.0 ts answer r run.2 in omega arith

  -- back over one accepted step that adds no input clause
  back : (p : (ℕ → Bool) → Bool) (s : State) (t : Step) → s.unsat ≡ false → (step (count_step s) t).refused ≡ None → (step (count_step s) t).after.inputs ≡ s.inputs
      → ((a : ℕ → Bool) → changed t p a ≡ false) → (a : ℕ → Bool) → p a ≡ false
  back p s (add_clause c) u h same e a = absurd (omega (arith, (counts-add (count_step s) c).1 u (rw step-add_clause at h), rw step-add_clause at same))
  back p s (delete_var x) u h same e a = (or_parts (p a) (p (flip a x)) (e a)).0
  back p s _ u h same e a = e a

  pub runs_refute : RunsRefute X F
  runs_refute next p s x [] answer r c run u same a = empty_where p r (rw run at (move_covers X F next p s x c)) u a
  runs_refute next p s x (t ∷ ts) answer r c run u same a =
      let after = (attempt s t).after in
      let cov : Covers (changed t p) after = rw run.1 at (move_covers X F next p s x c) in
      let m : Moved {X = X} {F = F} s (inl (t, run.0)) = rw run.1 at (moved next s x) in
      let low = counted_attempt s t in
      let high = counted_run next after run.0 ts answer r run.2 in
      let rest = runs_refute next (changed t p) after run.0 ts answer r cov run.2 u (omega arith) in
      let stays : (step (count_step s) t).after.inputs ≡ s.inputs = ap (λ (o : Outcome). o.after.inputs) (sym m.0) ∙ (omega arith) in
      grind (arith, empty_where p s c, λ (e : s.unsat ≡ false). back p s t e m.1 stays rest a)

  pub formulas_are_refuted : FormulasAreRefuted X F
  formulas_are_refuted next cs x ts answer r h run u same a =
      sym (members cs a) ∙ runs_refute next (holds (map add_clause cs)) (add_clauses new_state cs).after x ts answer r covered run u same a
    where
      covered : Covers (holds (map add_clause cs)) (add_clauses new_state cs).after
      covered = subst (λ l. Covers (holds (map add_clause l)) (add_clauses new_state cs).after) (formulas_are_fold.accepted new_state cs h) (formulas_are_fold.covers new_state [] cs (λ b m. refl))
