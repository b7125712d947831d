-- Verdicts on receipts, and their lines.
--     shown_line v      the line of a verdict, with its line feed
--     shows_unsat v      no assignment satisfies the formula
--     IsTextVerdict receipts digest v      the verdict on the text of this digest
--     IsUnshown receipts formula added      the receipts do not show this part
--     IsFirstCube receipts formula cubes number      they show the parts of the cubes before this one, and not its part
--     IsFirstUnshown receipts formula cubes found      this cube is that one, if there is one
--     IsCubesVerdict receipts formula cubes v      the verdict on a formula that is split into cubes
use Rattle.std.specs.Prelude.{◌≡◌, ℕ, ◌+◌, Bool, true, false, List, [], ◌∷◌, ◌++◌, length, map, codes, decimal, All, Option, Some, None}
use Rattle.sha2.specs.Sha256.{sha256}
use Rattle.refutation_rules.specs.Cubes.{clause_against, units_of}
use Rattle.receipts.specs.Joins.{IsShown, parts_of}
use Rattle.receipts.specs.declared.receipt.Receipt.{Receipt}
use Rattle.join_check.specs.Shown.{IsPartShown, part_text}
use Rattle.join_check.specs.declared.verdict.Unshown.TheVariants.{Formula, Cube, Closing}
use Rattle.join_check.specs.declared.verdict.Verdict.{Verdict}
use Rattle.join_check.specs.declared.verdict.Verdict.TheVariants.{Verified, NotVerified}

-- the text of a verdict and a line feed, as bytes
abbrev pub shown_line : Verdict → List ℕ
shown_line (Verified receipts) = codes "s VERIFIED UNSAT BY " ++ decimal receipts ++ codes " RECEIPTS" ++ 10 ∷ []
shown_line (NotVerified unshown) = codes "s NOT VERIFIED" ++ 10 ∷ []

-- all that it needs is shown
abbrev pub shows_unsat : Verdict → Bool
shows_unsat (Verified receipts) = true
shows_unsat (NotVerified unshown) = false

-- by whether the receipts, of which there are this many, lead from the digest to one that is refuted
abbrev pub IsTextVerdict : List Receipt → List ℕ → Verdict → Type 0
IsTextVerdict receipts digest (Verified count) = (count ≡ length receipts) × IsShown receipts digest
IsTextVerdict receipts digest (NotVerified Formula) = IsShown receipts digest → ⊥
IsTextVerdict receipts digest (NotVerified (Cube number)) = ⊥
IsTextVerdict receipts digest (NotVerified Closing) = ⊥

-- from the digest of its text they do not lead to one that is refuted
abbrev pub IsUnshown : List Receipt → List (List ℕ) → List (List ℕ) → Type 0
IsUnshown receipts formula added = IsShown receipts (sha256 (part_text formula added)) → ⊥

-- the cube of this number, which counts from 1, is the first one whose part is not shown
pub record IsFirstCube (receipts : List Receipt) (formula cubes : List (List ℕ)) (number : ℕ) : Type 0 where
  pub before : List (List ℕ)
  pub cube : List ℕ
  pub rest : List (List ℕ)
  pub split : cubes ≡ before ++ cube ∷ rest
  pub place : number ≡ length before + 1
  pub shown : All (λ other. IsPartShown receipts formula (units_of other)) before
  pub unshown : IsUnshown receipts formula (units_of cube)

-- the parts of all cubes are shown, or that of this one is the first that is not
abbrev pub IsFirstUnshown : List Receipt → List (List ℕ) → List (List ℕ) → Option ℕ → Type 0
IsFirstUnshown receipts formula cubes None = All (λ cube. IsPartShown receipts formula (units_of cube)) cubes
IsFirstUnshown receipts formula cubes (Some number) = IsFirstCube receipts formula cubes number

-- all parts are shown; or this one is the first that is not, where the closing part is the last
abbrev pub IsCubesVerdict : List Receipt → List (List ℕ) → List (List ℕ) → Verdict → Type 0
IsCubesVerdict receipts formula cubes (Verified count) =
    (count ≡ length receipts) × All (IsPartShown receipts formula) (parts_of cubes)
IsCubesVerdict receipts formula cubes (NotVerified (Cube number)) = IsFirstCube receipts formula cubes number
IsCubesVerdict receipts formula cubes (NotVerified Closing) =
    All (λ cube. IsPartShown receipts formula (units_of cube)) cubes
    × IsUnshown receipts formula (map clause_against cubes)
IsCubesVerdict receipts formula cubes (NotVerified Formula) = ⊥
