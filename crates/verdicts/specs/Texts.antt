-- What a run over a piece of a proof says of two formulas: the one before the piece, and the target clauses after it.
--     IsUnsatisfiable formula      no assignment satisfies the formula
--     IsPieceShown formula wanted verdict      a verdict that is true
--     OfFormula cnf P, OfFormulas cnf holds P      the whole text is a formula of which this holds, both texts are
--     CarriesText text other      the clauses of one text carry to those of the other
use Rattle.std.specs.Prelude.{◌≡◌, ℕ, Bool, false, List, Option}
use Rattle.std.specs.Option.{option_map}
use Rattle.sat_rules.specs.Clauses.{all_true}
use Rattle.refutation_rules.specs.Carrying.{Carries}
use Rattle.sat_formula.specs.Lines as dimacs
use Rattle.sat_formula.specs.Outcome.{Ended}
use Rattle.sat_formula.specs.Whole.{IsOutcome}
use Rattle.verdicts.specs.declared.piece.PieceVerdict.{PieceVerdict}
use Rattle.verdicts.specs.declared.piece.PieceVerdict.TheVariants.{Refuted, Carried, NotCarried}

-- no assignment satisfies the formula
abbrev pub IsUnsatisfiable : List (List ℕ) → Type 0
IsUnsatisfiable formula = (a : ℕ → Bool) → all_true a formula ≡ false

-- where it is refuted, no assignment satisfies the formula; where it is carried, some assignment satisfies the target clauses, if one satisfies the formula
abbrev pub IsPieceShown : List (List ℕ) → List (List ℕ) → PieceVerdict → Type 0
IsPieceShown formula wanted Refuted = IsUnsatisfiable formula
IsPieceShown formula wanted Carried = Carries formula wanted
IsPieceShown formula wanted NotCarried = Unit {0}

-- the whole text is this formula, of which this holds
pub record OfFormula (cnf : Option (List ℕ)) (P : List (List ℕ) → Type 0) : Type 0 where
  pub formula : List (List ℕ)
  pub whole : IsOutcome (option_map dimacs.outcome_of cnf) (formula, Ended)
  pub holds : P formula

-- both whole texts are formulas of which this holds
abbrev pub OfFormulas : Option (List ℕ) → Option (List ℕ)
    → (List (List ℕ) → List (List ℕ) → Type 0) → Type 0
OfFormulas cnf holds P = OfFormula cnf (λ formula. OfFormula holds (P formula))

-- both texts have no fault, and the clauses of the first carry to those of the second
abbrev pub CarriesText : List ℕ → List ℕ → Type 0
CarriesText text other = (clauses : List (List ℕ)) × (dimacs.outcome_of text ≡ (clauses, Ended))
    × ((wanted : List (List ℕ)) × (dimacs.outcome_of other ≡ (wanted, Ended))
    × Carries clauses wanted)
