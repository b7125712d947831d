-- Worked rows: sessions by DIMACS numbers, and their formulas.
use Rattle.std.specs.Prelude.{◌≡◌, List, [], ◌∷◌}
use Rattle.sat_rules.specs.Clauses.{neg, pos}
use Rattle.refutation_rules.specs.Rounds.{encoded, guard, pick, rounds_of}
use Rattle.refutation_rules.specs.Sessions.{Event, asked, given, satisfiable, unknown, unsatisfiable}

-- of two that exclude each other one can be had, both fail; then the first is given, and the second
-- fails alone
abbrev pub two : List Event
two = given (neg 1 ∷ neg 2 ∷ []) ∷ asked (pos 1 ∷ []) (satisfiable (neg 2 ∷ []))
    ∷ asked (pos 1 ∷ pos 2 ∷ []) (unsatisfiable (pos 1 ∷ pos 2 ∷ [])) ∷ given (pos 1 ∷ [])
    ∷ asked [] unknown ∷ asked (pos 2 ∷ []) (unsatisfiable (pos 2 ∷ [])) ∷ given (neg 2 ∷ []) ∷ []

-- one fact a row
pub record SessionRows : Type 0 where
  -- what is given after the last core is in no round
  pub rounds : rounds_of two
      ≡ record { clauses = (neg 1 ∷ neg 2 ∷ []) ∷ []; core = pos 1 ∷ pos 2 ∷ [] }
      ∷ record { clauses = (pos 1 ∷ []) ∷ []; core = pos 2 ∷ [] } ∷ []
  -- two variables are taken: 3 and 5 are guards, 4 and 6 pick; 7 would be the next guard
  pub formula : encoded (guard 2) (pick 2) (rounds_of two) ≡ (pos 4 ∷ pos 6 ∷ [])
      ∷ (neg 4 ∷ pos 3 ∷ []) ∷ (neg 5 ∷ pos 3 ∷ []) ∷ (neg 3 ∷ neg 1 ∷ neg 2 ∷ [])
      ∷ (neg 4 ∷ pos 1 ∷ []) ∷ (neg 4 ∷ pos 2 ∷ [])
      ∷ (neg 6 ∷ pos 5 ∷ []) ∷ (neg 7 ∷ pos 5 ∷ []) ∷ (neg 5 ∷ pos 1 ∷ [])
      ∷ (neg 6 ∷ pos 2 ∷ []) ∷ []
  -- no core: nothing is left to refute
  pub nothing : encoded (guard 1) (pick 1)
      (rounds_of (given (pos 1 ∷ []) ∷ asked [] unknown ∷ [])) ≡ [] ∷ []
