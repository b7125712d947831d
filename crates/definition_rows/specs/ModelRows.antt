-- Literals that are models of clauses, and texts of answers that are models of texts of formulas.
use Rattle.std.specs.Prelude.{[], ◌∷◌, codes}
use Rattle.sat_rules.specs.Clauses.{neg, pos}
use Rattle.model_check.specs.Models.{IsModel, IsSatisfiedBy}

-- one fact a row
pub record ModelRows : Type 0 where
  pub model : IsModel (pos 1 ∷ []) ((pos 1 ∷ pos 2 ∷ []) ∷ [])
  -- some assignment that agrees, but not each, makes the clause true
  pub open_clause : IsModel (pos 1 ∷ []) ((pos 1 ∷ []) ∷ (pos 2 ∷ []) ∷ []) → ⊥
  pub false_clause : IsModel (neg 1 ∷ []) ((pos 1 ∷ []) ∷ []) → ⊥
  -- no assignment agrees with a literal and its negation
  pub both_signs : IsModel (pos 1 ∷ neg 1 ∷ []) ((pos 1 ∷ []) ∷ []) → ⊥
  pub satisfied : IsSatisfiedBy (codes "p cnf 2 1\n1 2 0\n") (codes "s SATISFIABLE\nv 1 0\n")
  pub not_satisfied : IsSatisfiedBy (codes "1 0\n2 0\n") (codes "s SATISFIABLE\nv 1 0\n") → ⊥
  -- a formula with a fault, or with fewer clauses than its header says, and answers of another kind
  pub no_formula : IsSatisfiedBy (codes "1 0\nx\n") (codes "s SATISFIABLE\nv 1 0\n") → ⊥
  pub cut_formula : IsSatisfiedBy (codes "p cnf 1 2\n1 0\n") (codes "s SATISFIABLE\nv 1 0\n") → ⊥
  pub no_answer : IsSatisfiedBy (codes "1 0\n") (codes "s UNSATISFIABLE\n") → ⊥
  pub open_answer : IsSatisfiedBy (codes "1 0\n") (codes "s SATISFIABLE\nv 1\n") → ⊥
