-- The closing conflict and the deletion of a variable, as runs of the hint machine.
use Rattle.std.proofs.Common.{◌≡◌, ℕ, suc, true, false, cond, ltb, List, [], ◌∷◌, ◌++◌, Option, Some, None, refl, sym, ap, ◌∙◌, subst, arith, append_assoc}
use Rattle.std.proofs.lemmas.Bool.{true≢false}
use Rattle.sat_rules.specs.Named.{Machine}
use Rattle.checker_rules.specs.Calls.{close_by, closing_conflict}
use Rattle.checker_rules.specs.CheckedSteps.{NamedStep, checked_at_clause, hint_step, hint_steps, named_in}
use Rattle.checker_rules.specs.DeleteVar.{close_conflict, drop_unit, free_var, is_conflict_on, step_delete_var}
use Rattle.checker_rules.specs.Emits.{ClosingsRun, emits_closing, emits_delete_var, emits_unit}
use Rattle.checker_rules.specs.HintRun.{IsRun, machine_after}
use Rattle.checker_rules.specs.Hints.{unit_lit}
use Rattle.checker_rules.specs.KnownVars.{know}
use Rattle.checker_rules.specs.Machine.{ConflictNamed, Mirrors}
use Rattle.checker_rules.specs.Outcome.{Outcome, accept, refuse}
use Rattle.checker_rules.specs.State.{State, unit_of}
use Rattle.checker_rules.specs.Store.{id_limit, take_id}
use Rattle.checker_rules.specs.WellFormed.{WellFormed, conflict_stands}
use Rattle.checker_rules.proofs.Emissions.{after-append, run-append, tied-know, RunTo}
use Rattle.checker_rules.proofs.Forms.{form-close_conflict, form-know}
use Rattle.checker_rules.proofs.Lists.{exact_lists}
use Rattle.checker_rules.proofs.Ties.{freed, freed_none, only_id}
use Rattle.checker_rules.proofs.Units.{unit_at, unit_is}
use Rattle.checker_rules.specs.Outcome as causes

pub hints-append : (xs ys : List NamedStep) → hint_steps (xs ++ ys) ≡ hint_steps xs ++ hint_steps ys
hints-append [] ys = refl
hints-append (x ∷ xs) ys = rw (hints-append xs ys) (sym (append_assoc (hint_step x.step) (hint_steps xs) (hint_steps ys)))

-- the closing conflict
pub closings_run : ClosingsRun
unfolding closing_conflict
closings_run m s t w = go s.conflict t.conflict_named w.conflict_on_unit
  where
    go : (c : Option (ℕ × ℕ)) → ConflictNamed m.named s.units s.next c → conflict_stands s.units c ≡ true → RunTo m (emits_closing s c) (close_by c s).after
    go None n k = (tt, t)
    go (Some p) n k =
        let at = unit_at p.0 s.units k in
        let f = unit_is p.0 (unit_of s.units at.0) at.1 in
        let first : m.named p.0 ≡ Some (unit_lit at.0 f.0.value ∷ []) = ap m.named (sym f.2) ∙ rw f.1 at (t.units_named at.0) in
        let admitted = (exact_lists m.named).closing (unit_lit at.0 f.0.value) p.0 p.1 first (n.1 at.0 f.0 f.1 f.2) in
        let put : RunTo m (named_in s (checked_at_clause s.next false [] (p.0 ∷ p.1 ∷ [])) ∷ []) (take_id s) = (((t.above_next, admitted), tt), only_id m s [] t) in
        grind arith

-- the unit of a variable is removed
run_unit_gone : (m : Machine) (s : State) (x : ℕ) → Mirrors m s → WellFormed s → RunTo m (emits_unit s x (unit_of s.units x)) (free_var x s)
run_unit_gone m s x t w = grind (arith, freed_none m s x t, freed m s x)

pub two_runs : (m : Machine) (xs ys : List NamedStep) (r : State) → IsRun m (hint_steps xs) → RunTo (machine_after m (hint_steps xs)) ys r → RunTo m (xs ++ ys) r
two_runs m xs ys r h k = rw (hints-append xs ys) (rw after-append (run-append m (hint_steps xs) (hint_steps ys) h k.0, k.1))

-- the conflict is closed, and then the unit is removed
run_closed : (m : Machine) (s : State) (x : ℕ) → Mirrors m s → WellFormed s → ltb s.next id_limit ≡ true →
    is_conflict_on (unit_of s.units x) s.conflict ≡ true →
    RunTo m (emits_closing s s.conflict ++ emits_unit s x (unit_of s.units x)) (free_var x (close_conflict s))
unfolding closing_conflict
run_closed m s x t w room on = go s.conflict refl on
  where
    go : (c : Option (ℕ × ℕ)) → s.conflict ≡ c → is_conflict_on (unit_of s.units x) c ≡ true → RunTo m (emits_closing s c ++ emits_unit s x (unit_of s.units x)) (free_var x (close_conflict s))
    go None e k = absurd (true≢false (sym k))
    go (Some pair) e k =
        let close : RunTo m (emits_closing s (Some pair)) (close_by (Some pair) s).after = subst (λ c. RunTo m (emits_closing s c) (close_by c s).after) e (closings_run m s t w) in
        let after = machine_after m (hint_steps (emits_closing s (Some pair))) in
        let taken : Mirrors after (take_id s) = subst (λ b. Mirrors after (cond b (accept (take_id s)) (refuse causes.ids_exhausted s)).after) room close.1 in
        let opened : Mirrors after (close_conflict s) = assumption in
        two_runs m (emits_closing s (Some pair)) (emits_unit s x (unit_of s.units x)) (free_var x (close_conflict s)) close.0
        (run_unit_gone after (close_conflict s) x opened (form-close_conflict s w))

run_drop : (m : Machine) (s : State) (x : ℕ) → Mirrors m s → WellFormed s → (drop_unit x s).refused ≡ None → RunTo m (emits_delete_var s x) (drop_unit x s).after
run_drop m s x t w h =
    let gone = run_unit_gone m s x t w in
    let closed = run_closed m s x t w in
    grind arith

accepted_drop : (s : State) (x : ℕ) → (step_delete_var s x).refused ≡ None → step_delete_var s x ≡ drop_unit x (know (suc x) s)
accepted_drop s x h = grind arith

pub run_delete_var : (m : Machine) (s : State) (x : ℕ) → Mirrors m s → WellFormed s → (step_delete_var s x).refused ≡ None → RunTo m (emits_delete_var (know (suc x) s) x) (step_delete_var s x).after
run_delete_var m s x t w h =
    let e = accepted_drop s x h in
    rw e (run_drop m (know (suc x) s) x (tied-know m (suc x) s t) (form-know (suc x) s w) (rw e at h))
