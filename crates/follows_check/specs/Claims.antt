-- Files of claims.
--     lacks_clauses header      a header that does not match says more clauses than there are
--     AreClaims text claims      the text is these claims, and none is missing
--     LacksClauses text      some are missing
use Rattle.std.specs.Prelude.{◌≡◌, ℕ, nat_lt, Bool, true, false, List, [], Option, Some, None, IfSome}
use Rattle.std.specs.Option.{option_map}
use Rattle.sat_formula.specs.declared.counts.LyingHeader.{LyingHeader}
use Rattle.sat_formula.specs.Lines.{outcome_of}
use Rattle.sat_formula.specs.Outcome.{Ended}
use Rattle.sat_formula.specs.Whole.{IsOutcome}
use Rattle.sat_formula.specs.Lies.{lie_in}

-- a header that does not match says more clauses than there are
abbrev pub lacks_clauses : Option LyingHeader → Bool
lacks_clauses None = false
lacks_clauses (Some header) = nat_lt header.counts.clauses header.said.clauses

-- the text has no fault, there is a claim, and the header says no more of them than there are
pub record AreClaims (text : Option (List ℕ)) (claims : List (List ℕ)) : Type 0 where
  pub whole : IsOutcome (option_map outcome_of text) (claims, Ended)
  pub complete : IfSome text (λ bytes. lacks_clauses (lie_in bytes) ≡ false)
  pub some : ¬ (claims ≡ [])

-- the text has no fault, and its header says more clauses than there are
pub record LacksClauses (text : Option (List ℕ)) : Type 0 where
  pub clauses : List (List ℕ)
  pub whole : IsOutcome (option_map outcome_of text) (clauses, Ended)
  pub lacks : IfSome text (λ bytes. lacks_clauses (lie_in bytes) ≡ true)
