-- Texts of a formula and of an answer that satisfies it.
--     IsSatisfiedBy text answer      every assignment that agrees with the answer satisfies the formula, and one does agree
use Rattle.std.specs.Prelude.{◌≡◌, ℕ, Bool, true, List, length, None}
use Rattle.sat_rules.specs.Clauses.{Agrees, all_true}
use Rattle.sat_formula.specs.Lines as dimacs
use Rattle.sat_formula.specs.Notes.{header_of}
use Rattle.sat_formula.specs.Outcome.{Ended}
use Rattle.answer_text.specs.Answers as answers
use Rattle.answer_text.specs.Literals.{listed}
use Rattle.model_check.specs.Wholeness.{cut_of}

-- each assignment that makes these literals true makes all clauses true, and there is one
pub record IsModel (lits : List ℕ) (clauses : List (List ℕ)) : Type 0 where
  pub satisfies : (a : ℕ → Bool) → Agrees a (listed lits) → all_true a clauses ≡ true
  pub agreeing : ℕ → Bool
  pub agrees : Agrees agreeing (listed lits)

-- both texts have no fault, nothing is missing of the formula, and the literals of the answer are a model of its clauses
pub record IsSatisfiedBy (text answer : List ℕ) : Type 0 where
  pub clauses : List (List ℕ)
  pub formula : dimacs.outcome_of text ≡ (clauses, Ended)
  pub whole : cut_of (header_of text) (length clauses) ≡ None
  pub lits : List ℕ
  pub lists : answers.outcome_of answer ≡ answers.Lists lits
  pub model : IsModel lits clauses
