-- What holds at each end of a checked clause's step holds of the step.
use Rattle.std.proofs.Common.{◌≡◌, ℕ, Bool, true, false, not, ◌&&◌, ltb, leb, List, [], ◌∷◌}
use Rattle.std.proofs.lemmas.Bool.{cond_both}
use Rattle.sat_rules.specs.Clauses.{is_tautology}
use Rattle.checker_rules.specs.AtClause.{step_at_clause, store_derived}
use Rattle.checker_rules.specs.Canonical.{canonical}
use Rattle.checker_rules.specs.Check.{check, ready}
use Rattle.checker_rules.specs.Outcome.{Cause, Outcome, accept, refuse}
use Rattle.checker_rules.specs.Passes.{none_empty}
use Rattle.checker_rules.specs.State.{State, buckets, clause_passes}
use Rattle.checker_rules.specs.Store.{count_limit, count_of, counters, id_limit, stands, store}
use Rattle.checker_rules.specs.UnitClauses.{step_unit}
use Rattle.checker_rules.specs.Outcome as causes

module _ (P : Outcome → Type 0) (s : State) where
  pub by_check : (c hs : List ℕ) (next : State → Outcome) → ((cause : Cause) → P (refuse cause (ready s c))) →
      (clause_passes (ready s c) c hs ≡ true → P (next (ready s c))) → P (check s c hs next)
  by_check c hs next refused passed = cond_both (clause_passes (ready s c) c hs) _ _ P passed
      (λ e. cond_both (none_empty (buckets (ready s c) hs)) _ _ P (λ d. refused causes.at_check_failed) (λ d. refused causes.no_clause_for_hash))

  pub by_counters : (r : Bool) (c : List ℕ) (takes : Bool) (next : State → Outcome) → ((cause : Cause) → P (refuse cause s)) → P (next s) → P (counters r c takes s next)
  by_counters r c takes next refused passed = cond_both (takes && not (ltb s.next id_limit)) _ _ P (λ e. refused causes.ids_exhausted)
      (λ e. cond_both (leb count_limit (count_of r c s.clauses)) _ _ P (λ d. refused causes.count_exhausted) (λ d. passed))

pub by_derived : (P : Outcome → Type 0) (s : State) (r : Bool) (c hs : List ℕ) → P (refuse causes.tautology s) →
    ((cause : Cause) → P (refuse cause (ready s (canonical c)))) →
    (clause_passes (ready s (canonical c)) (canonical c) hs ≡ true → P (accept (store_derived (canonical c) r (ready s (canonical c))))) → P (step_at_clause s r c hs)
by_derived P s r c hs opposite refused passed = cond_both (is_tautology (canonical c)) _ _ P (λ e. opposite)
    (λ e. by_check P s (canonical c) hs (λ q. counters r (canonical c) (not (stands (canonical c) q)) q (λ k. accept (store_derived (canonical c) r k))) refused
    (λ d. by_counters P (ready s (canonical c)) r (canonical c) (not (stands (canonical c) (ready s (canonical c)))) (λ k. accept (store_derived (canonical c) r k)) refused (passed d)))

pub by_unit : (P : Outcome → Type 0) (s : State) (p : ℕ × ℕ) → ((cause : Cause) → P (refuse cause (ready s (p.0 ∷ [])))) →
    (clause_passes (ready s (p.0 ∷ [])) (p.0 ∷ []) (p.1 ∷ []) ≡ true → P (accept (store (p.0 ∷ []) false (ready s (p.0 ∷ []))))) → P (step_unit s p)
by_unit P s p refused passed =
    by_check P s (p.0 ∷ []) (p.1 ∷ []) (λ q. counters false (p.0 ∷ []) (not (stands (p.0 ∷ []) q)) q (λ k. accept (store (p.0 ∷ []) false k))) refused
    (λ d. by_counters P (ready s (p.0 ∷ [])) false (p.0 ∷ []) (not (stands (p.0 ∷ []) (ready s (p.0 ∷ [])))) (λ k. accept (store (p.0 ∷ []) false k)) refused (passed d))
