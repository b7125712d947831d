-- The causes by the literals that are true, and what an answer without a cause says.
use Rattle.std.proofs.Common.{◌≡◌, ℕ, Bool, true, false, List, Option, Some, None, refl, sym, ap, ◌∙◌}
use Rattle.std.proofs.lemmas.Bool.{and_parts}
use Rattle.std.specs.List.{list_any, list_all}
use Rattle.sat_rules.specs.Clauses.{is_tautology, negate}
use Rattle.lrat_rules.specs.Propagation.{propagate}
use Rattle.refutation_rules.specs.Sessions.{Fails, Satisfies, all_in}
use Rattle.session_checker.specs.Refusals.{both_signs, clause_cause, core_cause, hints_cause, misses_assumption, model_cause, not_assumed}
use Rattle.session_checker.specs.Rules.{AllFollow, is_core, listed}
use Rattle.session_checker.proofs.Exact.{causes_exact}
use Rattle.session_checker.proofs.Truth.{core_fails, model_satisfies}

-- ---- what is true

pub core_fails_over : (cs : List (List ℕ)) (f : ℕ → Option (List ℕ)) (assumed core ids : List ℕ) → AllFollow cs f → core_cause f assumed core ids ≡ None → Fails cs assumed core
core_fails_over cs f assumed core ids sound none =
    let p = and_parts (all_in core assumed) (is_core f core ids) ((causes_exact.core f assumed core ids).0 none) in
    record {
      part = p.0;
      fails = λ a t k. core_fails f a (λ i d e. sound i d e a t) core ids p.1 k;
    }

pub model_holds : (cs : List (List ℕ)) (assumed m : List ℕ) → model_cause cs assumed m ≡ None → Satisfies cs assumed m
model_holds cs assumed m none = model_satisfies cs assumed m ((causes_exact.model cs assumed m).0 none)

-- ---- causes by the literals that are true

tautology_is : (s : ℕ → Bool) (k : List ℕ) (b : Bool) → s ≡ listed k → list_any (λ l. s (negate l)) k ≡ b → is_tautology k ≡ b
tautology_is s k b e h = sym (ap (λ (r : ℕ → Bool). list_any (λ l. r (negate l)) k) e) ∙ h

part_is : (s : ℕ → Bool) (core assumed : List ℕ) (b : Bool) → s ≡ listed assumed → list_all s core ≡ b → all_in core assumed ≡ b
part_is s core assumed b e h = sym (ap (λ (r : ℕ → Bool). list_all r core) e) ∙ h

module _ (f : ℕ → Option (List ℕ)) (assumed core ids : List ℕ) (s : ℕ → Bool) (given : s ≡ listed assumed) where
  pub core_unassumed : list_all s core ≡ false → core_cause f assumed core ids ≡ Some not_assumed
  core_unassumed part = rw (part_is s core assumed false given part) refl

  module _ (part : list_all s core ≡ true) (r : ℕ → Bool) (alone : r ≡ listed core) where
    pub core_opposite : list_any (λ l. r (negate l)) core ≡ true → core_cause f assumed core ids ≡ None
    core_opposite opposite = rw (part_is s core assumed true given part, tautology_is r core true alone opposite) refl

    pub core_by_hints : (g : ℕ → Option (List ℕ)) → g ≡ f → list_any (λ l. r (negate l)) core ≡ false →
        core_cause f assumed core ids ≡ hints_cause (propagate g r ids)
    core_by_hints g same opposite = rw (part_is s core assumed true given part, tautology_is r core false alone opposite, same, alone) refl

module _ (cs : List (List ℕ)) (assumed m : List ℕ) (s : ℕ → Bool) (alone : s ≡ listed m) where
  pub model_opposite : list_any (λ l. s (negate l)) m ≡ true → model_cause cs assumed m ≡ Some both_signs
  model_opposite opposite = rw (tautology_is s m true alone opposite) refl

  module _ (apart : list_any (λ l. s (negate l)) m ≡ false) where
    pub model_misses : list_all s assumed ≡ false → model_cause cs assumed m ≡ Some misses_assumption
    model_misses part = rw (tautology_is s m false alone apart, part_is s assumed m false alone part) refl

    pub model_by_clauses : list_all s assumed ≡ true → model_cause cs assumed m ≡ clause_cause 1 s cs
    model_by_clauses part = rw (tautology_is s m false alone apart, part_is s assumed m true alone part, alone) refl
