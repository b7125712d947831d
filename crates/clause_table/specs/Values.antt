-- The literals that are true, as a trail.
--     among t      the set of the literals of a trail
--     true_by m l      a literal is true by the marks
--     with_lit l t      the trail with one more literal, unless it has it
--     lits_besides o c      the literals of a clause except one, or all
--     IsMarked marks t      the marks are those of the literals of the trail, which has none twice
--     IsGrown t u      the trail t with more at its end
use Rattle.std.specs.Prelude.{◌≡◌, ℕ, Bool, true, if◌then◌else◌, List, [], ◌∷◌, ◌++◌, length, take, Option, Some, None}
use Rattle.sat_rules.specs.Clauses.{has, negate}
use Rattle.lrat_rules.specs.Counts.{all_once}
use Rattle.lrat_rules.specs.Groups.{without}
use Rattle.clause_table.specs.Marks.{has_mark}
use Rattle.clause_table.specs.declared.marks.Marks.{Marks}

-- the set of the literals of a trail
abbrev pub among : List ℕ → ℕ → Bool
among t m = has m t

-- a literal is true by the marks: that of its negation
abbrev pub true_by : Marks → ℕ → Bool
true_by m l = has_mark m (negate l)

-- the trail with one more literal, unless it has it
abbrev pub with_lit : ℕ → List ℕ → List ℕ
with_lit l t = if has l t then t else t ++ l ∷ []

-- the literals of a clause except one, or all
abbrev pub lits_besides : Option ℕ → List ℕ → List ℕ
lits_besides None c = c
lits_besides (Some n) c = without n c

-- the marks are those of the literals of the trail, which has none twice
pub record IsMarked (marks : ℕ → Bool) (t : List ℕ) : Type 0 where
  pub marked : (l : ℕ) → marks l ≡ has l t
  pub once : all_once t ≡ true

-- the trail t with more at its end
abbrev pub IsGrown : List ℕ → List ℕ → Type 0
IsGrown t u = take (length t) u ≡ t
