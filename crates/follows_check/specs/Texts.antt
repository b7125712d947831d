-- Texts of a formula and of claims.
--     FollowsText text said      the claims of one text follow from the formula of the other
--     NotFollowsText text said      an assignment satisfies the formula and fails a claim
--     WritesQuestion cnf claims old new      the formula for the solver was written
use Rattle.std.specs.Prelude.{◌≡◌, ℕ, Bool, true, false, List, length, Option, Some, None}
use Rattle.std.specs.Io.KnownBytes.{Appends}
use Rattle.sat_rules.specs.Clauses.{all_true}
use Rattle.sat_formula.specs.Lines.{outcome_of}
use Rattle.sat_formula.specs.Notes.{header_of}
use Rattle.sat_formula.specs.Outcome.{Ended}
use Rattle.sat_output.specs.FormulaTexts.{formula_text}
use Rattle.refutation_rules.specs.Follows.{Follows, follow_clauses}
use Rattle.model_check.specs.Wholeness.{cut_of}
use Rattle.follows_check.specs.Claims.{AreClaims}
use Rattle.follows_check.specs.Questions.{OfQuestion, first_free}

-- both texts have no fault, no claim is missing, and each assignment that satisfies the formula satisfies all claims
pub record FollowsText (text said : List ℕ) : Type 0 where
  pub formula : List (List ℕ)
  pub read : outcome_of text ≡ (formula, Ended)
  pub claims : List (List ℕ)
  pub are : AreClaims (Some said) claims
  pub follows : Follows formula claims

-- both texts have no fault, nothing is missing of the formula, and an assignment satisfies it and fails a claim
pub record NotFollowsText (text said : List ℕ) : Type 0 where
  pub formula : List (List ℕ)
  pub read : outcome_of text ≡ (formula, Ended)
  pub whole : cut_of (header_of text) (length formula) ≡ None
  pub claims : List (List ℕ)
  pub are : AreClaims (Some said) claims
  pub assignment : ℕ → Bool
  pub satisfies : all_true assignment formula ≡ true
  pub fails : all_true assignment claims ≡ false

-- the text of the formula for the solver was written
abbrev pub WritesQuestion : Option (List ℕ) → Option (List ℕ) → Option (List ℕ) → Option (List ℕ) → Type 0
WritesQuestion cnf claims old new = OfQuestion cnf claims (λ formula claimed.
    Appends old new (formula_text (follow_clauses (first_free formula claimed) formula claimed)))
