-- Formulas of which each clause is needed.
--     truth_in values x      the value of a variable
--     assigned model truth      the values after those that a model lists
--     without i cs      the clauses without the one at this place
--     IsMinimalText text      no assignment satisfies the clauses of the text, and each of them is needed for that
--     ShowsMinimal formula verdict      a verdict that is true
--     minimal_line verdict, shows_minimal verdict      its line;  whether that is what was asked
use Rattle.std.specs.Prelude.{◌≡◌, ◌<◌, ◌==◌, ℕ, zero, suc, nat_eq, nat_lt, not, Bool, true, false, List, [], ◌∷◌, length, codes, if◌then◌else◌, slice_index_or}
use Rattle.std.specs.HashSet.{contains}
use Rattle.sat_rules.specs.Clauses.{all_true, is_negative, var_of}
use Rattle.sat_formula.specs.Lines.{outcome_of}
use Rattle.sat_formula.specs.Outcome.{Ended}
use Rattle.sat_formula.specs.Lies.{lie_in}
use Rattle.refutation_rules.specs.Minimal.{IsMinimal}
use Rattle.follows_check.specs.Claims.{lacks_clauses}
use Rattle.follows_check.specs.declared.minimal.MinimalVerdict.{MinimalVerdict}
use Rattle.follows_check.specs.declared.values.Values.{Values}
use Rattle.follows_check.specs.declared.minimal.MinimalVerdict.TheVariants.{Minimal, Open, NoModel, Unmet}

-- a variable without a place is true if it is in the set
abbrev pub truth_in : Values → ℕ → Bool
truth_in values x = if nat_lt x (length values.near.items) then slice_index_or values.near.items x false else contains nat_eq values.far x

-- each variable that a model lists has the value that it says, and all others have theirs
abbrev pub assigned : List ℕ → (ℕ → Bool) → ℕ → Bool
assigned [] truth x = truth x
assigned (l ∷ model) truth x = assigned model (λ y. if y == var_of l then not (is_negative l) else truth y) x

-- the clauses without the one at this place
abbrev pub without : ℕ → List (List ℕ) → List (List ℕ)
without i [] = []
without zero (c ∷ cs) = cs
without (suc i) (c ∷ cs) = c ∷ without i cs

-- for the clause at each place there is an assignment that satisfies all others
abbrev pub EachIsNeeded : List (List ℕ) → Type 0
EachIsNeeded cs = (i : ℕ) → i < length cs → (a : ℕ → Bool) × (all_true a (without i cs) ≡ true)

-- the text has no fault, its header says no more clauses than there are, no assignment satisfies them, and each is needed for that
pub record IsMinimalText (text : List ℕ) : Type 0 where
  pub clauses : List (List ℕ)
  pub formula : outcome_of text ≡ (clauses, Ended)
  pub complete : lacks_clauses (lie_in text) ≡ false
  pub minimal : IsMinimal clauses

-- where it is minimal, the formula is
abbrev pub ShowsMinimal : List (List ℕ) → MinimalVerdict → Type 0
ShowsMinimal formula Minimal = IsMinimal formula
ShowsMinimal formula Open = Unit {0}
ShowsMinimal formula (NoModel clause) = Unit {0}
ShowsMinimal formula (Unmet model clause) = Unit {0}

-- the text of a verdict and a line feed, as bytes
abbrev pub minimal_line : MinimalVerdict → List ℕ
minimal_line Minimal = codes "s VERIFIED MINIMAL\n"
minimal_line Open = codes "s NOT VERIFIED\n"
minimal_line (NoModel clause) = codes "s NOT VERIFIED\n"
minimal_line (Unmet model clause) = codes "s NOT VERIFIED\n"

-- each clause is needed
abbrev pub shows_minimal : MinimalVerdict → Bool
shows_minimal Minimal = true
shows_minimal Open = false
shows_minimal (NoModel clause) = false
shows_minimal (Unmet model clause) = false
