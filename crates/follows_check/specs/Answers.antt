-- Claims and a set of literals.
--     IsFirstFailing listed claims number      the first claim of which the negations of all literals are in the set
--     IsFound listed claims lines failing      that claim and the line on which it ends, or that there is none
--     IsFoundIn, IsJudged      the same of a text, and of one that is claims
use Rattle.std.specs.Prelude.{◌≡◌, ℕ, ◌+◌, nat_lt, Bool, true, false, List, ◌∷◌, ◌++◌, length, Option, Some, None}
use Rattle.std.specs.List.{list_any}
use Rattle.std.specs.Option.{option_map}
use Rattle.sat_rules.specs.Clauses.{is_falsified}
use Rattle.sat_formula.specs.Lines.{outcome_of}
use Rattle.sat_formula.specs.Notes.{Notes, notes_of}
use Rattle.sat_formula.specs.Noting.{IsNotes}
use Rattle.sat_formula.specs.Outcome.{Ended}
use Rattle.sat_formula.specs.Whole.{IsOutcome}
use Rattle.model_check.specs.Verdicts.{IsLineOf}
use Rattle.follows_check.specs.Claims.{AreClaims}
use Rattle.follows_check.specs.declared.failing.Failing.{Failing}

-- of the claim of this number, counted from 1, all literals are false, and of none before it
pub record IsFirstFailing (listed : ℕ → Bool) (claims : List (List ℕ)) (number : ℕ) : Type 0 where
  pub before : List (List ℕ)
  pub claim : List ℕ
  pub rest : List (List ℕ)
  pub split : claims ≡ before ++ claim ∷ rest
  pub place : number ≡ length before + 1
  pub first : list_any (is_falsified listed) before ≡ false
  pub fails : is_falsified listed claim ≡ true

-- this is the first claim of which all literals are false, and it ends on this line; or there is none
abbrev pub IsFound : (ℕ → Bool) → List (List ℕ) → List ℕ → Option Failing → Type 0
IsFound listed claims lines None = list_any (is_falsified listed) claims ≡ false
IsFound listed claims lines (Some failing) =
    IsFirstFailing listed claims failing.claim × IsLineOf lines failing.claim failing.line

-- the text has no fault, this was found of its clauses, and this says whether there is one
pub record IsFoundIn (text : Option (List ℕ)) (listed : ℕ → Bool) (failing : Option Failing)
    (is_some : Bool) : Type 0 where
  pub claims : List (List ℕ)
  pub whole : IsOutcome (option_map outcome_of text) (claims, Ended)
  pub notes : Notes
  pub noted : IsNotes (option_map notes_of text) notes
  pub found : IsFound listed claims notes.0 failing
  pub counted : is_some ≡ nat_lt 0 (length claims)

-- the text is claims, and this was found of them
pub record IsJudged (text : Option (List ℕ)) (listed : ℕ → Bool) (failing : Option Failing) : Type 0 where
  pub claims : List (List ℕ)
  pub are : AreClaims text claims
  pub notes : Notes
  pub noted : IsNotes (option_map notes_of text) notes
  pub found : IsFound listed claims notes.0 failing
