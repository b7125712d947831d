-- The cause for which a line is rejected.
--     cause_of_line st line      the first cause, or None where the line is accepted
--     CausesAreExact      there is none exactly where the line is accepted
use Rattle.std.specs.Prelude.{◌≡◌, ◌↔◌, ℕ, Bool, true, not, ◌&&◌, if◌then◌else◌, List, [], ◌∷◌, Option, Some, None, is_some}
use Rattle.std.specs.List.{list_any}
use Rattle.sat_rules.specs.Clauses.{has, negate}
use Rattle.sat_rules.specs.Named.{Item}
use Rattle.lrat_rules.specs.Causes.{Cause, group_fails, group_missing, id_taken, no_conflict}
use Rattle.lrat_rules.specs.Groups.{Group, all_met, group_for, rest_met, without}
use Rattle.lrat_rules.specs.Lines.{Line, accepts, adds, deletes, groups, led}
use Rattle.lrat_rules.specs.Propagation.{Ending, conflict, open_at, stuck}
use Rattle.lrat_rules.specs.Stores.{find}

-- a stored clause with n has a group, with which it does not pass
abbrev pub is_failed : List Item → (ℕ → Bool) → ℕ → List Group → Item → Bool
is_failed st s n gs x = has n x.lits &&
    (is_some (group_for x.id gs) && not
    (rest_met (find st) s (without n x.lits) (group_for x.id gs)))

-- why not all candidates pass: there is no pivot or no group at all; one fails; one is missing
abbrev pub unmet : List Item → (ℕ → Bool) → List ℕ → List Group → Cause
unmet st s [] gs = no_conflict
unmet st s (p ∷ ps) [] = no_conflict
unmet st s (p ∷ ps) (g ∷ gs) = if list_any (is_failed st s (negate p) (g ∷ gs)) st then group_fails
    else group_missing

-- the cause among the groups, where the leading hints end without a conflict
abbrev pub groups_cause : List Item → (ℕ → Bool) → List ℕ → List Group → Option Cause
groups_cause st s c gs = if all_met st s c gs then None else Some (unmet st s c gs)

-- by how the leading hints end
abbrev pub cause_at : Ending → ((ℕ → Bool) → Option Cause) → Option Cause
cause_at conflict rest = None
cause_at (open_at s) rest = rest s
cause_at (stuck k) rest = Some k

-- first the id, then the leading hints, then the groups
abbrev pub cause_of_line : List Item → Line → Option Cause
cause_of_line st (adds i c hs) = if is_some (find st i) then Some id_taken
    else cause_at (led st c hs) (λ s. groups_cause st s c (groups hs))
cause_of_line st (deletes is) = None

-- a line has no cause exactly where it is accepted
abbrev pub CausesAreExact : Type 0
CausesAreExact = (st : List Item) (l : Line) → (cause_of_line st l ≡ None) ↔ (accepts st l ≡ true)
