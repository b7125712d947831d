-- What is held of the clauses so far, as far as a checker of proof steps knows them.
--     Entry, Holding      a clause under an id;  all of them, the units, and whether they refute the formula
--     is_named c      whether a step can name the clause by its hash
--     hold i e h, drop i h      one more clause;  without the clause of an id
--     formula_holding cs      the clauses of a formula under 1, 2, ..
use Rattle.std.specs.Prelude.{ℕ, suc, Bool, true, false, not, ◌&&◌, ◌||◌, ◌==◌, if◌then◌else◌, nat_lt, List, [], ◌∷◌, length, Option, Some, None}
use Rattle.sat_rules.specs.Clauses.{add_lit, is_tautology, negate}
use Rattle.checker_rules.specs.Canonical.{canonical}

-- a clause as a canonical list, and whether a line added it
pub record Entry : Type 0 where
  pub derived : Bool
  pub lits : List ℕ

-- the clauses by their ids, the literals that are units, and whether the empty clause or two opposite units came
pub record Holding : Type 0 where
  pub entries : ℕ → Option Entry
  pub units : ℕ → Bool
  pub refuted : Bool

-- a checker stores it under its hash: it has two literals or more, and is no tautology
abbrev pub is_named : List ℕ → Bool
is_named c = nat_lt 1 (length c) && not (is_tautology c)

-- the units with those of one more clause; units stay for good, as they do in a checker
abbrev pub with_unit : List ℕ → (ℕ → Bool) → ℕ → Bool
with_unit [] units = units
with_unit (l ∷ []) units = add_lit l units
with_unit (l ∷ m ∷ ls) units = units

-- the clause is empty, or its only literal is the negation of a unit
abbrev pub is_refuting : List ℕ → (ℕ → Bool) → Bool
is_refuting [] units = true
is_refuting (l ∷ []) units = units (negate l)
is_refuting (l ∷ m ∷ ls) units = false

-- one more clause under an id
abbrev pub hold : ℕ → Entry → Holding → Holding
hold i e h = record {
  entries = λ k. if k == i then Some e else h.entries k;
  units = with_unit e.lits h.units;
  refuted = h.refuted || is_refuting e.lits h.units;
}

-- without the clause of an id, where it is there
abbrev pub drop_entry : ℕ → Holding → Holding
drop_entry i h = record h { entries = λ k. if k == i then None else h.entries k }

-- nothing
abbrev pub nothing : Holding
nothing = record { entries = λ k. None; units = λ m. false; refuted = false }

-- a clause of the formula
abbrev pub from_formula : List ℕ → Entry
from_formula c = record { derived = false; lits = canonical c }

-- a clause that a line adds
abbrev pub from_line : List ℕ → Entry
from_line c = record { derived = true; lits = canonical c }

-- clauses of the formula under rising ids, the first under n
abbrev pub hold_from : ℕ → List (List ℕ) → Holding → Holding
hold_from n [] h = h
hold_from n (c ∷ cs) h = hold_from (suc n) cs (hold n (from_formula c) h)

-- a formula's clauses under 1, 2, ..
abbrev pub formula_holding : List (List ℕ) → Holding
formula_holding cs = hold_from 1 cs nothing
