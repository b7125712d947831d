-- Each step keeps the form of the state.
use Rattle.std.proofs.Common.{◌≡◌, ℕ, suc, ◌-◌, ◌≤◌, Bool, true, false, cond, not, List, [], ◌∷◌}
use Rattle.std.proofs.Common.{map, length, replicate, Option, Some, None, refl, arith, length-append, ◌<◌}
use Rattle.std.proofs.lemmas.Bool.{cond_both}
use Rattle.std.proofs.lemmas.List.{length-replicate}
use Rattle.sat_rules.specs.Clauses.{is_canonical, is_tautology, negate}
use Rattle.checker_rules.specs.AddClause.{step_add_clause, store_input, take_input}
use Rattle.checker_rules.specs.Assumptions.{step_assumptions}
use Rattle.checker_rules.specs.AtClause.{step_at_clause, store_derived}
use Rattle.checker_rules.specs.Calls.{closing_conflict}
use Rattle.checker_rules.specs.Canonical.{canonical, var_bound}
use Rattle.checker_rules.specs.ChangeHashBits.{step_change_hash_bits}
use Rattle.checker_rules.specs.ChangeSamplingMode.{step_change_sampling_mode}
use Rattle.checker_rules.specs.Check.{apply_if_named, check, ready, some_pending_name}
use Rattle.checker_rules.specs.DeleteClause.{delete_justified, forget, justified}
use Rattle.checker_rules.specs.DeleteVar.{close_conflict, drop_unit, is_conflict_on, step_delete_var}
use Rattle.checker_rules.specs.FailedAssumptions.{step_failed_assumptions}
use Rattle.checker_rules.specs.KnownVars.{know, know_clause, known_of, name_taken, new_known}
use Rattle.checker_rules.specs.Model.{step_model}
use Rattle.checker_rules.specs.Outcome.{Outcome, accept, and_then}
use Rattle.checker_rules.specs.State.{State, hide, sample, unit_of, witness, Known}
use Rattle.checker_rules.specs.Step.{Justification, add_clause, assumptions, at_clause, by_redundant, by_satisfied, by_simplified, change_hash_bits}
use Rattle.checker_rules.specs.Step.{change_sampling_mode, delete_clause, delete_var, end_proof, failed_assumptions, model, solver_var_name, unit_clauses, user_var_name}
use Rattle.checker_rules.specs.Steps.{new_state, step}
use Rattle.checker_rules.specs.Store.{counters, id_of, stands, store, take_id}
use Rattle.checker_rules.specs.UnitClauses.{step_unit_clauses}
use Rattle.checker_rules.specs.UserVarName.{step_user_var_name}
use Rattle.checker_rules.specs.WellFormed.{StepsKeepForm, WellFormed}
use Rattle.checker_rules.proofs.Entries.{canonical-is}
use Rattle.checker_rules.proofs.Forms.{Storable, W, form-close_conflict, form-delete, form-forget, form-free_var, form-know}
use Rattle.checker_rules.proofs.Forms.{form-previous, form-set_known, form-store, form-store_unit, form-take_id, form-take_input}
use Rattle.checker_rules.proofs.Inputs.{takes_input}
use Rattle.checker_rules.proofs.KnownNames.{names-same, names-set}

-- the check makes ready
form-apply : (s : State) → WellFormed s → WellFormed (apply_if_named s)
form-apply s w = cond_both (some_pending_name s) _ _ WellFormed (λ e. w) (λ e. w)

pub form-ready : (s : State) (c : List ℕ) → WellFormed s → WellFormed (ready s c)
form-ready s c w = form-know (var_bound c) (apply_if_named s) (form-apply s w)

bound-know : (c : List ℕ) (s : State) → var_bound c ≤ length (know (var_bound c) s).known
bound-know c s = omega (arith, length-append s.known (replicate (var_bound c - length s.known) new_known), length-replicate (var_bound c - length s.known) new_known)

form-check : (s : State) (c hs : List ℕ) (next : State → Outcome) → WellFormed s → W (next (ready s c)) → W (check s c hs next)
form-check s c hs next w k = grind (arith, form-ready s c w)

form-counters : (r : Bool) (c : List ℕ) (takes : Bool) (s : State) (next : State → Outcome) → WellFormed s → W (next s) → W (counters r c takes s next)
form-counters r c takes s next w k = grind arith

form-store_derived : (c : List ℕ) (r : Bool) (s : State) → Storable c s → WellFormed s → WellFormed (store_derived c r s)
form-store_derived c true s f w = form-store c true s f w
form-store_derived c false s f w = form-previous (store c false s) (Some (c, id_of c s)) f.0 (form-store c false s f w)

form-at_clause : (s : State) (r : Bool) (c hs : List ℕ) → WellFormed s → W (step_at_clause s r c hs)
form-at_clause s r c hs w =
    cond_both (is_tautology (canonical c)) _ _ W (λ e. w)
    (λ e. form-check s (canonical c) hs (λ q. counters r (canonical c) (not (stands (canonical c) q)) q (λ k. accept (store_derived (canonical c) r k))) w
    (form-counters r (canonical c) (not (stands (canonical c) (ready s (canonical c)))) (ready s (canonical c)) (λ k. accept (store_derived (canonical c) r k)) (form-ready s (canonical c) w)
    (form-store_derived (canonical c) r (ready s (canonical c)) (canonical-is c, e, bound-know (canonical c) (apply_if_named s)) (form-ready s (canonical c) w))))

form-then : (o : Outcome) (next : State → Outcome) → W o → ((r : State) → WellFormed r → W (next r)) → W (and_then o next)
form-then o next k f = grind (arith, f o.after k)

form-unit_clauses : (s : State) (us : List (ℕ × ℕ)) → WellFormed s → W (step_unit_clauses s us)
form-unit_clauses s [] w = w
form-unit_clauses s (p ∷ ps) w =
    let c = p.0 ∷ [] in
    let next : State → Outcome = λ r. counters false c (not (stands c r)) r (λ q. accept (store c false q)) in
    let f = form-ready s c w in
    form-then (check s c (p.1 ∷ []) next) (λ r. step_unit_clauses r ps)
    (form-check s c (p.1 ∷ []) next w (form-counters false c (not (stands c (ready s c))) (ready s c) (λ q. accept (store c false q)) f (form-store_unit p.0 (ready s c) f)))
    (λ r h. form-unit_clauses r ps h)

form-justified : (r : Bool) (c : List ℕ) (s : State) → WellFormed s → W (delete_justified r c (forget s))
form-justified r c s w = grind (arith, form-forget s w, form-delete r c (forget s) (form-forget s w))

form-delete_clause : (s : State) (j : Justification) (c : List ℕ) → WellFormed s → W (justified j c s)
form-delete_clause s by_redundant c w = form-justified true c s w
form-delete_clause s by_satisfied c w = grind (arith, form-justified false c s w)
form-delete_clause s by_simplified c w = grind (arith, form-justified false c s w)

form-model : (s : State) (m : List ℕ) → WellFormed s → W (step_model s m)
form-model s m w = grind arith

form-user_name : (s : State) (x : ℕ) (u : Option ℕ) → WellFormed s → W (step_user_var_name s x u)
form-user_name s x None w = let n : Known = record { name = None; mode = hide } in
    grind (arith, form-know (suc x) s w, form-set_known (suc x) x n s (names-set (know (suc x) s).known x n refl (form-know (suc x) s w).names) w)
form-user_name s x (Some u) w = let k = know (suc x) s in let n : Known = record { name = Some u; mode = (known_of k x).mode } in let f = form-know (suc x) s w in
    grind (arith, f, λ (free : name_taken k u ≡ false). form-set_known (suc x) x n s (names-set k.known x n free f.names) w)

form-mode : (s : State) (x : ℕ) (b : Bool) → WellFormed s → W (step_change_sampling_mode s x b)
form-mode s x b w = let k = know (suc x) s in let n : Known = record { name = (known_of k x).name; mode = cond b sample witness } in let f = form-know (suc x) s w in
    grind (arith, f, form-set_known (suc x) x n s (names-same k.known x n refl f.names) w)

form-failed : (s : State) (c hs : List ℕ) → WellFormed s → W (step_failed_assumptions s c hs)
form-failed s c hs w = let neg = canonical (map negate (canonical c)) in grind (arith, form-check s neg hs (λ r. accept r) w (form-ready s neg w))

form-store_input : (c : List ℕ) (s : State) → is_canonical c ≡ true → var_bound c ≤ length s.known → WellFormed s → WellFormed (store_input c s)
form-store_input c s can room w =
    let taken = form-take_id s w in
    grind (arith, taken, λ (e : is_tautology c ≡ false). form-store c false (take_id s) (can, e, room) taken, λ (e : is_tautology c ≡ false). form-store c false s (can, e, room) w)

pub form-drop_unit : (x : ℕ) (s : State) → WellFormed s → W (drop_unit x s)
form-drop_unit x s w = grind (arith, form-free_var x (close_conflict s) refl (form-close_conflict s w), λ (e : is_conflict_on (unit_of s.units x) s.conflict ≡ false). form-free_var x s e w)

form-delete_var : (s : State) (x : ℕ) → WellFormed s → W (step_delete_var s x)
form-delete_var s x w = grind (arith, form-know (suc x) s w, form-drop_unit x (know (suc x) s) (form-know (suc x) s w))

form-set : (s : State) (width : ℕ) (assumed : List ℕ) → WellFormed s → 0 < width → width ≤ 64 → is_canonical assumed ≡ true → WellFormed (record s { width = width; assumed = assumed })
form-set s width assumed w some fits canonical = assumption

form-hash_bits : (s : State) (n : ℕ) → WellFormed s → W (step_change_hash_bits s n)
form-hash_bits s n w = grind (arith, λ (some : 0 < n) (fits : n ≤ 64). form-set s n s.assumed w some fits w.assumed_canonical)

form-assumptions : (s : State) (c : List ℕ) → WellFormed s → W (step_assumptions s c)
form-assumptions s c h = let w = form-know (var_bound (canonical c)) s h in
    grind (arith, form-set (know (var_bound (canonical c)) s) s.width (canonical c) w w.some_width w.width_fits (canonical-is c))

form-add_clause : (s : State) (list : List ℕ) → WellFormed s → W (step_add_clause s list)
form-add_clause s list w =
    let c = canonical list in
    let r = know_clause c s in
    let t = takes_input c r in
    let k = w.inputs_counted in
    let stored = form-take_input (store_input c r) (omega (arith, t.0, t.1)) (form-store_input c r (canonical-is list) (bound-know c s) (form-know (var_bound c) s w)) in
    grind (arith, form-counters false c true s (λ r. accept (take_input (store_input c (know_clause c r)))) w stored)

pub steps_keep_form : StepsKeepForm
unfolding step
steps_keep_form s (user_var_name x u) w = form-user_name s x u w
steps_keep_form s (delete_var x) w = form-delete_var s x w
steps_keep_form s (change_sampling_mode x b) w = form-mode s x b w
steps_keep_form s (add_clause c) w = form-add_clause s c w
steps_keep_form s (at_clause r c hs) w = form-at_clause s r c hs w
steps_keep_form s (delete_clause j c) w = cond_both (is_tautology (canonical c)) _ _ W (λ e. w) (λ e. form-delete_clause s j (canonical c) w)
steps_keep_form s (unit_clauses us) w = form-unit_clauses s us w
steps_keep_form s (change_hash_bits n) w = form-hash_bits s n w
steps_keep_form s (model m) w = form-model s m w
steps_keep_form s (assumptions c) w = form-assumptions s c w
steps_keep_form s (failed_assumptions c hs) w = form-failed s c hs w
steps_keep_form s (solver_var_name x v) w = w
steps_keep_form s end_proof w = w

pub new_form : WellFormed new_state
new_form = search arith

pub form-close : (s : State) → WellFormed s → WellFormed (closing_conflict s).after
unfolding closing_conflict
form-close s w = grind (arith, form-take_id s w)
