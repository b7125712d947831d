-- Literals as sets of codes.
--     has_lit table lit      the literal is listed
--     HasThe lits table      these literals are listed, and no others
--     is_met, all_met      some literal of the clause is in the set; of each clause
--     listed lits      the set of these literals
--     IsConsistent s      no two literals of the set are opposite
use Rattle.std.specs.Prelude.{◌≡◌, ℕ, nat_eq, ◌||◌, Bool, true, false, List, slice_index_or}
use Rattle.std.specs.HashSet.{contains}
use Rattle.std.specs.List.{list_any, list_all}
use Rattle.sat_rules.specs.Clauses.{has, negate}
use Rattle.answer_text.specs.declared.literals.Literals.{Literals}

-- the literal of this code is listed: it is marked, or among those that are not
abbrev pub has_lit : Literals → ℕ → Bool
has_lit table lit = slice_index_or table.marks.items lit false || contains nat_eq table.far lit

-- a literal more is listed
abbrev pub Adds : Literals → Literals → ℕ → Type 0
Adds old new lit = (other : ℕ) → has_lit new other ≡ (nat_eq other lit || has_lit old other)

-- the set of these literals
abbrev pub listed : List ℕ → ℕ → Bool
listed lits lit = has lit lits

-- these literals are listed, and no others
abbrev pub HasThe : List ℕ → Literals → Type 0
HasThe lits table = (lit : ℕ) → has_lit table lit ≡ has lit lits

-- some literal of the clause is in the set
abbrev pub is_met : (ℕ → Bool) → List ℕ → Bool
is_met listed clause = list_any listed clause

-- some literal of each clause is in the set
abbrev pub all_met : (ℕ → Bool) → List (List ℕ) → Bool
all_met listed clauses = list_all (is_met listed) clauses

-- no two literals of the set are opposite
abbrev pub IsConsistent : (ℕ → Bool) → Type 0
IsConsistent s = (m : ℕ) → s m ≡ true → s (negate m) ≡ true → ⊥
