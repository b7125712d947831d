-- Buckets whose walk changes nothing.
--     idle_at x h      the length of the trail at which the bucket of a hash was found idle
--     IsIdle us cs      a walk over these clauses from these values gives none and falsifies none
--     IsIdleRun      the same, and it lists nothing
--     AreIdle      what was found idle is idle while the trail is no longer
use Rattle.std.specs.Prelude.{◌≡◌, ℕ, ◌≤◌, false, nat_eq, List, Option, Some}
use Rattle.std.specs.HashMap.{get}
use Rattle.checker_rules.specs.State.{Stored, all_lits}
use Rattle.clause_store.specs.declared.clauses.units.UnitClause.{UnitClause}
use Rattle.clause_store.specs.declared.rup.idle.IdleBuckets.{IdleBuckets}
use Rattle.clause_store.specs.Rup.{Walks}
use Rattle.clause_store.specs.Trace.{Listing, Lists}

-- the length of the trail at which the bucket of a hash was found idle
abbrev pub idle_at : IdleBuckets → ℕ → Option ℕ
idle_at x h = get nat_eq x.found h

-- a walk over these clauses from these values gives no value, and falsifies no clause
abbrev pub IsIdle : List (Option UnitClause) → List (List ℕ) → Type 0
IsIdle us cs = Walks us cs us false

-- a walk over these clauses gives no value, falsifies none, and lists nothing after these ids
pub record IsIdleRun (after : Listing) (ids : List ℕ) (us : List (Option UnitClause))
    (es : List Stored) : Type 0 where
  pub walk : IsIdle us (all_lits es)
  pub listed : Lists after ids us es ids us false

-- found at a trail of length n, and idle while its length is that
pub record IsIdleSince (n now : ℕ) (Idle : Type 0) : Type 0 where
  pub no_later : n ≤ now
  pub idle : n ≡ now → Idle

-- each bucket that was found idle is idle while the trail has the length that it had then
abbrev pub AreIdle : (ℕ → Option ℕ) → ℕ → (ℕ → Type 0) → Type 0
AreIdle found now Idle = (h n : ℕ) → found h ≡ Some n → IsIdleSince n now (Idle h)

-- a trail of length n gets the length m: no less, and while it is no longer the listed ids and the values are the same
pub record Lengthens (ids : List ℕ) (us : List (Option UnitClause)) (n : ℕ) (now : List ℕ)
    (vs : List (Option UnitClause)) (m : ℕ) : Type 0 where
  pub no_shorter : n ≤ m
  pub listed : m ≡ n → now ≡ ids
  pub units : m ≡ n → vs ≡ us
