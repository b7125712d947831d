-- A clause before its groups, and groups in turn.
use Rattle.std.proofs.Common.{◌≡◌, ℕ, ◌+◌, Bool, true, false, eqb, List, ◌∷◌, Option, Some, None, is_some, arith}
use Rattle.sat_rules.specs.Named.{negated_set}
use Rattle.lrat_rules.specs.Counts.{count_of}
use Rattle.lrat_rules.specs.Groups.{Group, rest_met, without}
use Rattle.lrat_rules.specs.Lines.{Hint, adds, groups, leading}
use Rattle.lrat_rules.specs.Propagation.{Ending, propagate}
use Rattle.lrat_rules.specs.Refusals.{cause_at}
use Rattle.lrat_rules.specs.Tables.{Table, add_id, cause_by_table, groups_cause_by, met_by_groups}

-- a clause whose id is not taken, by how propagation from its negations ends
pub judged : (t : Table) (i : ℕ) (c : List ℕ) (hs : List Hint) (s : ℕ → Bool) (e : Ending) → is_some (t.named i) ≡ false → s ≡ negated_set c → e ≡ propagate t.named s (leading hs) →
    cause_by_table t (adds i c hs) ≡ cause_at e (λ r. groups_cause_by t r c (groups hs))
judged t i c hs s e free start end =
    rw (free, ← start, end)

-- a group that is met counts
pub group_met : (f : ℕ → Option (List ℕ)) (s : ℕ → Bool) (n : ℕ) (seen : ℕ → Bool) (met : ℕ) (g : Group) (gs : List Group) (d : List ℕ) →
    seen g.id ≡ false → f g.id ≡ Some d → eqb (count_of n d) 0 ≡ false →
    rest_met f s (without n d) (Some g.hints) ≡ true → met_by_groups f s n seen met (g ∷ gs) ≡ met_by_groups f s n (add_id g.id seen) (met + count_of n d) gs
group_met f s n seen met g gs d unseen found some rest =
    rw (unseen, found, some, rest)

-- an accepted line adds its clause under an id that named none
pub accepted_free : (t : Table) (i : ℕ) (c : List ℕ) (hs : List Hint) → cause_by_table t (adds i c hs) ≡ None → t.named i ≡ None
accepted_free t i c hs ok = grind arith
