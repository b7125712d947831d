-- From two formulas to the texts that they are.
use Rattle.std.proofs.Common.{◌≡◌, ℕ, List, Some, subst}
use Rattle.std.specs.Option.{option_map}
use Rattle.refutation_rules.specs.Carrying.{Carries}
use Rattle.sat_formula.specs.Readings.{Known}
use Rattle.sat_formula.specs.Lines as dimacs
use Rattle.sat_formula.specs.Outcome.{Ended}
use Rattle.sat_formula.specs.Whole.{IsOutcome}
use Rattle.verdicts.specs.Texts.{CarriesText, OfFormulas}

module _ (cnf holds : Known) (formula wanted : List (List ℕ)) (whole : IsOutcome (option_map dimacs.outcome_of cnf) (formula, Ended))
    (wanted_whole : IsOutcome (option_map dimacs.outcome_of holds) (wanted, Ended)) where
  pub of_formulas : (P : List (List ℕ) → List (List ℕ) → Type 0) → P formula wanted → OfFormulas cnf holds P
  of_formulas P p = record { formula = formula; whole = whole; holds = record { formula = wanted; whole = wanted_whole; holds = p } }

  pub carries_text : (text other : List ℕ) → cnf ≡ Some text → holds ≡ Some other → Carries formula wanted → CarriesText text other
  carries_text text other is is' p = (
    formula,
    subst (λ (k : Known). IsOutcome (option_map dimacs.outcome_of k) (formula, Ended)) is whole,
    (wanted, subst (λ (k : Known). IsOutcome (option_map dimacs.outcome_of k) (wanted, Ended)) is' wanted_whole, p),
  )
