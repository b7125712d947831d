-- A formula and claims, as one formula for a solver.
--     first_free cs ds      the first variable that is in neither formula
--     OfQuestion cnf claims P      both texts can be read, and this holds of their clauses
--     asks formula claims asked      this is the formula for the solver
--     FailsClaims claims fault      what is wrong with the claims
--     FailsQuestion cnf claims fault      why there is no formula for the solver
use Rattle.std.specs.Prelude.{◌≡◌, ℕ, ◌+◌, ◌^◌, ◌<◌, max, List, [], length, Option}
use Rattle.std.specs.Option.{option_map}
use Rattle.sat_formula.specs.Formula.{var_count_of}
use Rattle.sat_formula.specs.Lines.{outcome_of}
use Rattle.sat_formula.specs.Outcome.{Ended}
use Rattle.sat_formula.specs.Whole.{IsOutcome}
use Rattle.refutation_rules.specs.Follows.{follow_clauses}
use Rattle.model_check.specs.Verdicts.{FailsText}
use Rattle.follows_check.specs.Claims.{AreClaims, LacksClauses}
use Rattle.follows_check.specs.declared.fault.QuestionFault.{QuestionFault}
use Rattle.follows_check.specs.declared.fault.QuestionFault.TheVariants.{Formula, Claims, FewClaims, NoClaim, ManyVariables, OutOfMemory}

-- the first variable that is in neither formula, nor is any after it
abbrev pub first_free : List (List ℕ) → List (List ℕ) → ℕ
first_free cs ds = max (var_count_of cs) (var_count_of ds)

-- the formula, and some claim fails
abbrev pub asks : List (List ℕ) → List (List ℕ) → List (List ℕ) → Type 0
asks formula claims asked = asked ≡ follow_clauses (first_free formula claims) formula claims

-- the whole texts are this formula and these claims, of which this holds
pub record OfQuestion (cnf claims : Option (List ℕ)) (P : List (List ℕ) → List (List ℕ) → Type 0) :
    Type 0 where
  pub formula : List (List ℕ)
  pub claimed : List (List ℕ)
  pub read : IsOutcome (option_map outcome_of cnf) (formula, Ended)
  pub are : AreClaims claims claimed
  pub holds : P formula claimed

-- the whole text is a formula, and this holds
pub record AfterFormula (cnf : Option (List ℕ)) (P : Type 0) : Type 0 where
  pub formula : List (List ℕ)
  pub read : IsOutcome (option_map outcome_of cnf) (formula, Ended)
  pub holds : P

-- the fault of the claims' text, or what is wrong with the claims
abbrev pub FailsClaims : Option (List ℕ) → QuestionFault → Type 0
FailsClaims claims (Formula fault) = ⊥
FailsClaims claims (Claims fault) = FailsText claims fault
FailsClaims claims FewClaims = LacksClauses claims
FailsClaims claims NoClaim = IsOutcome (option_map outcome_of claims) ([], Ended)
FailsClaims claims ManyVariables = ⊥
FailsClaims claims OutOfMemory = ⊥

-- the fault of the formula, then that of the claims, then that there are too many of them
abbrev pub FailsQuestion : Option (List ℕ) → Option (List ℕ) → QuestionFault → Type 0
FailsQuestion cnf claims (Formula fault) = FailsText cnf fault
FailsQuestion cnf claims (Claims fault) = AfterFormula cnf (FailsClaims claims (Claims fault))
FailsQuestion cnf claims FewClaims = AfterFormula cnf (FailsClaims claims FewClaims)
FailsQuestion cnf claims NoClaim = AfterFormula cnf (FailsClaims claims NoClaim)
FailsQuestion cnf claims ManyVariables =
    OfQuestion cnf claims (λ formula claimed. 2 ^ 28 < first_free formula claimed + length claimed)
FailsQuestion cnf claims OutOfMemory = OfQuestion cnf claims (λ formula claimed. Unit {0})
