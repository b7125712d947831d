-- What receipts show together.
--     LeadsBy receipts digest path      they carry from the digest along the path to one that is refuted
--     IsShown receipts digest      they do along some path
--     ShownIsRefuted      no assignment satisfies the text of such a digest
--     parts_of cubes      what each part of a formula has in addition to it
--     IsPartShown text_for receipts formula added      the text of this part is read as the part, and its digest is shown
--     PartsAreRefuted      no assignment satisfies a formula whose parts are all shown
use Rattle.std.specs.Prelude.{◌≡◌, ℕ, List, [], ◌∷◌, ◌++◌, map, All}
use Rattle.std.specs.List.{Contains}
use Rattle.sha2.specs.Sha256.{sha256}
use Rattle.refutation_rules.specs.Cubes.{clause_against, units_of}
use Rattle.refutation_rules.specs.Cubes as cubes
use Rattle.sat_formula.specs.Lines.{outcome_of}
use Rattle.sat_formula.specs.Outcome.{Ended}
use Rattle.sat_formula.specs.Refuted.{IsRefuted}
use Rattle.receipts.specs.Honesty.{IsHonest, StandsFor}
use Rattle.receipts.specs.declared.receipt.Receipt.{Receipt}
use Rattle.receipts.specs.declared.receipt.Receipt.TheVariants.{Refuted, Carries}

-- each digest of the path is carried to from the one before it, and the last one is refuted
abbrev pub LeadsBy : List Receipt → List ℕ → List (List ℕ) → Type 0
LeadsBy receipts digest [] = Contains receipts (Refuted digest)
LeadsBy receipts digest (next ∷ path) =
    Contains receipts (Carries digest next) × LeadsBy receipts next path

-- the receipts lead from it to one that is refuted
abbrev pub IsShown : List Receipt → List ℕ → Type 0
IsShown receipts digest = (path : List (List ℕ)) × LeadsBy receipts digest path

-- where the receipts are honest and lead from the digest of a text to one that is refuted, the text is
abbrev pub ShownIsRefuted : Type 0
ShownIsRefuted = (text_of : List ℕ → List ℕ) (receipts : List Receipt) (text : List ℕ)
    → All (IsHonest text_of) receipts → StandsFor text_of text → IsShown receipts (sha256 text)
    → IsRefuted text

-- the units of each cube, and then, for the closing part, a clause against each of them
abbrev pub parts_of : List (List ℕ) → List (List (List ℕ))
parts_of cubes = map units_of cubes ++ map clause_against cubes ∷ []

-- the text of the part is read as its clauses, and the receipts show its digest; `text_for` gives the text of clauses
pub record IsPartShown (text_for : List (List ℕ) → List ℕ) (receipts : List Receipt) (formula added : List (List ℕ)) : Type 0 where
  pub read : outcome_of (text_for (formula ++ added)) ≡ (formula ++ added, Ended)
  pub shown : IsShown receipts (sha256 (text_for (formula ++ added)))

-- where the receipts are honest and show the parts of a formula, it is refuted, whatever text there is for clauses
abbrev pub PartsAreRefuted : Type 0
PartsAreRefuted = (text_for : List (List ℕ) → List ℕ) (text_of : List ℕ → List ℕ) (receipts : List Receipt) (formula split : List (List ℕ))
    → All (IsHonest text_of) receipts
    → All (λ added. StandsFor text_of (text_for (formula ++ added))) (parts_of split)
    → All (IsPartShown text_for receipts formula) (parts_of split)
    → cubes.IsRefuted formula
