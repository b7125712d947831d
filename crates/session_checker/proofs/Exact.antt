-- There is no cause exactly where the rules accept.
use Rattle.std.proofs.Common.{◌≡◌, ◌↔◌, ℕ, suc, Bool, true, cond, not, ◌&&◌, ◌||◌, List, [], ◌∷◌, Option, Some, None, is_some, refl, arith}
use Rattle.std.specs.List.{list_all, list_any}
use Rattle.sat_rules.specs.Clauses.{is_tautology}
use Rattle.sat_rules.specs.Named.{negated_set}
use Rattle.lrat_rules.specs.Causes.{id_taken}
use Rattle.lrat_rules.specs.Propagation.{Ending, conflict, is_conflict, open_at, propagate, stuck}
use Rattle.refutation_rules.specs.Sessions.{all_in}
use Rattle.session_checker.specs.Refusals.{CausesAreExact, Refusal, both_signs, by_line, clause_cause, hints_cause, misses_assumption, not_assumed}
use Rattle.session_checker.specs.Rules.{listed}

pub hints_exact : (e : Ending) → (hints_cause e ≡ None) ↔ (is_conflict e ≡ true)
hints_exact conflict = (λ h. refl, λ h. refl)
hints_exact (open_at s) = grind arith
hints_exact (stuck k) = grind arith

clauses_exact : (n : ℕ) (s : ℕ → Bool) (cs : List (List ℕ)) → (clause_cause n s cs ≡ None) ↔ (list_all (list_any s) cs ≡ true)
clauses_exact n s [] = (λ h. refl, λ h. refl)
clauses_exact n s (c ∷ cs) = grind (arith, clauses_exact (suc n) s cs)

id_exact : (taken t : Bool) (o : Option Refusal) → (o ≡ None) ↔ (t ≡ true) → (cond taken (Some (by_line id_taken)) o ≡ None) ↔ ((not taken && t) ≡ true)
id_exact taken t o h = grind arith

core_exact : (part opposite t : Bool) (o : Option Refusal) → (o ≡ None) ↔ (t ≡ true) →
    (cond part (cond opposite None o) (Some not_assumed) ≡ None) ↔ ((part && (opposite || t)) ≡ true)
core_exact part opposite t o h = grind arith

model_exact : (opposite part t : Bool) (o : Option Refusal) → (o ≡ None) ↔ (t ≡ true) →
    (cond opposite (Some both_signs) (cond part o (Some misses_assumption)) ≡ None) ↔ ((not opposite && (part && t)) ≡ true)
model_exact opposite part t o h = grind arith

pub causes_exact : CausesAreExact
causes_exact = record {
  lemma = λ f i c ids. id_exact (is_some (f i)) _ _ (hints_exact (propagate f (negated_set c) ids));
  core = λ f assumed k ids. core_exact (all_in k assumed) (is_tautology k) _ _ (hints_exact (propagate f (listed k) ids));
  model = λ cs assumed m. model_exact (is_tautology m) (all_in assumed m) _ _ (clauses_exact 1 (listed m) cs);
}
