-- Propagation along hints: a clause with all literals false is a conflict, and the last literal that is not false becomes true.
--     Ending      how propagation ends
--     propagate f s is      along the clauses that f gives for the ids, where the literals of s are true
--     is_conflict e, at_end e test      whether it ends in a conflict;  the test where it ends without one
use Rattle.std.specs.Prelude.{ℕ, Bool, true, false, nat_eq, if◌then◌else◌, List, [], ◌∷◌, Option, Some, None}
use Rattle.std.specs.List.{list_all}
use Rattle.sat_rules.specs.Clauses.{add_lit, unfalsified}
use Rattle.lrat_rules.specs.Causes.{Cause, not_unit, unknown_id}

-- a clause was falsified;  the hints are used up, with the literals that are true;  a hint is no good
pub data Ending : Type 0 where
  conflict : Ending
  open_at : (ℕ → Bool) → Ending
  stuck : Cause → Ending

-- by the literals that are not false: none; one, perhaps repeated; more
abbrev pub by_left : List ℕ → Ending → (ℕ → Ending) → Ending
by_left [] none one = none
by_left (l ∷ ls) none one = if list_all (nat_eq l) ls then one l else stuck not_unit

-- the literal of a clause that is not false becomes true, also if it was true before
abbrev pub on_named : Option (List ℕ) → (ℕ → Bool) → ((ℕ → Bool) → Ending) → Ending
on_named None s go = stuck unknown_id
on_named (Some c) s go = by_left (unfalsified s c) conflict (λ l. go (add_lit l s))

-- the hints in turn, up to the first conflict
abbrev pub propagate : (ℕ → Option (List ℕ)) → (ℕ → Bool) → List ℕ → Ending
propagate f s [] = open_at s
propagate f s (i ∷ is) = on_named (f i) s (λ r. propagate f r is)

-- whether a clause was falsified
abbrev pub is_conflict : Ending → Bool
is_conflict conflict = true
is_conflict (open_at s) = false
is_conflict (stuck k) = false

-- the test at the set where the hints are used up
abbrev pub at_end : Ending → ((ℕ → Bool) → Bool) → Bool
at_end conflict test = false
at_end (open_at s) test = test s
at_end (stuck k) test = false
