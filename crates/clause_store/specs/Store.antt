-- What the stored clauses keep between calls, and what storing a clause answers.
use Rattle.std.specs.Prelude.{◌≡◌, ◌<◌, ◌≤◌, ℕ, ◌+◌, ◌*◌, ◌&&◌, Bool, true, false, if◌then◌else◌, not, ◌==◌, length, Option, Some, None, Result, Ok, Err, List}
use Rattle.std.specs.List.{list_all}
use Rattle.sat_rules.specs.Clauses.{is_negative}
use Rattle.checker_rules.specs.Buckets.{of_hash}
use Rattle.checker_rules.specs.DeleteClause.{is_short}
use Rattle.checker_rules.specs.LiveLiterals.{live_literals}
use Rattle.checker_rules.specs.Outcome.{Outcome, accept, count_exhausted, ids_exhausted, refuse}
use Rattle.checker_rules.specs.State.{State, Stored}
use Rattle.checker_rules.specs.Store.{count_of, counters, id_limit, id_of, is_gone, new_stored, stands, store}
use Rattle.checker_rules.specs.WellFormed.{are_apart, ids_rise}
use Rattle.clause_store.specs.declared.clauses.Clauses.{Clauses}
use Rattle.clause_store.specs.declared.clauses.StoreClauseResult.{StoreClauseResult}
use Rattle.clause_store.specs.declared.clauses.StoreClauseResult.TheVariants.{New, Duplicate, NewlyIrredundant}
use Rattle.clause_store.specs.declared.clauses.store.StoreFault.{StoreFault}
use Rattle.clause_store.specs.declared.clauses.store.StoreFault.TheVariants.{OutOfMemory, IdsExhausted, CountExhausted}
use Rattle.clause_store.specs.declared.clauses.units.UnitClause.{UnitClause}
use Rattle.clause_store.specs.declared.clauses.units.UnitId.{UnitId}
use Rattle.clause_store.specs.declared.clauses.units.UnitId.TheVariants.{Global, TracePos, InClause}
use Rattle.clause_store.specs.declared.hash.ClauseHasher.{ClauseHasher}
use Rattle.clause_store.specs.Buckets.{AreWithin}
use Rattle.clause_store.specs.Counts.{AreCounts}
use Rattle.clause_store.specs.Edits.{IsPushed}
use Rattle.clause_store.specs.StateOf.{hash_of}
use Rattle.clause_store.specs.View.{stored_at, stored_list}

-- a value that comes from a stored unit
abbrev pub is_global : UnitId → Bool
is_global (Global n) = true
is_global (TracePos n) = false
is_global InClause = false

-- the variable has no value, or a stored unit's
abbrev pub is_stored_unit : Option UnitClause → Bool
is_stored_unit None = true
is_stored_unit (Some u) = is_global u.id

-- a clause of two or more literals, with a copy
abbrev pub is_whole : Stored → Bool
is_whole e = not (is_short e.lits) && not (is_gone e)

-- the buckets hold these clauses by their hashes: whole ones, apart, by rising ids; the buffer holds their literals and the garbage
pub record IsIndexed (h : ClauseHasher) (cs : Clauses) (es : List Stored) : Type 0 where
  pub some_bits : 0 < h.hash_bits
  pub bits : h.hash_bits ≤ 64
  pub within : AreWithin cs.literal_buffer.items cs.buckets
  pub bucketed : (k : ℕ) → stored_at cs k ≡ of_hash (hash_of h) k es
  pub rise : ids_rise 0 es cs.next_clause_id ≡ true
  pub apart : are_apart es ≡ true
  pub whole : list_all is_whole es ≡ true
  pub used : length cs.literal_buffer.items ≡ live_literals es + cs.garbage_size

-- what is kept between calls: the stored clauses are filed, at most half of the buffer is garbage, all values are those of stored units,
-- and the literals of the known variables are counted
pub record IsStore (h : ClauseHasher) (cs : Clauses) : Type 0 where
  pub filed : IsIndexed h cs (stored_list cs)
  pub garbage : 2 * cs.garbage_size ≤ length cs.literal_buffer.items
  pub units : list_all is_stored_unit cs.unit_clauses ≡ true
  pub counts : AreCounts cs.lit_counts (length cs.unit_clauses) (stored_list cs)

-- what an attempt to push a new clause answers
abbrev pub AnswersPush : Result (ℕ × StoreClauseResult) StoreFault → ℕ → List ℕ → Bool → Clauses →
    Clauses → Type 0
AnswersPush (Ok p) hash c redundant cs cs' = (cs.next_clause_id < id_limit)
    × (p ≡ (cs.next_clause_id, New))
    × IsPushed hash (new_stored redundant c cs.next_clause_id) cs cs'
AnswersPush (Err OutOfMemory) hash c redundant cs cs' = Unit {0}
AnswersPush (Err IdsExhausted) hash c redundant cs cs' = (id_limit ≤ cs.next_clause_id) × (cs' ≡ cs)
AnswersPush (Err CountExhausted) hash c redundant cs cs' = ⊥

-- what one copy more does to a stored clause that had this many irredundant copies
abbrev pub raised_as : Bool → ℕ → StoreClauseResult
raised_as redundant irredundant =
    if not redundant && irredundant == 0 then NewlyIrredundant
    else Duplicate

-- the unit of this id that makes the literal true
abbrev pub unit_for : ℕ → ℕ → UnitClause
unit_for l id = record { id = Global id; value = not (is_negative l) }

-- what storing the clause does; a unit and the empty clause have no kind
abbrev pub result_of : List ℕ → Bool → State → StoreClauseResult
result_of c redundant s =
    if stands c s then
    (if is_short c then Duplicate else raised_as redundant (count_of false c s.clauses))
    else New

-- the counters where the clause is stored: it takes an id unless it is stored
abbrev pub store_counters : List ℕ → Bool → State → Outcome
store_counters c redundant s = counters redundant c (not (stands c s)) s accept

-- the clause is stored, which leads from s to t, with the answers
pub record Stores (c : List ℕ) (redundant : Bool) (s t : State) (id : ℕ)
    (result : StoreClauseResult) : Type 0 where
  pub room : store_counters c redundant s ≡ accept s
  pub after : t ≡ store c redundant s
  pub id_is : id ≡ id_of c s
  pub result_is : result ≡ result_of c redundant s

-- what an attempt to store the clause answers; nothing is said where memory was refused
abbrev pub AnswersStore : Result (ℕ × StoreClauseResult) StoreFault → List ℕ → Bool → State →
    State → Type 0
AnswersStore (Ok p) c redundant s t = Stores c redundant s t p.0 p.1
AnswersStore (Err OutOfMemory) c redundant s t = Unit {0}
AnswersStore (Err IdsExhausted) c redundant s t =
    (store_counters c redundant s ≡ refuse ids_exhausted s) × (t ≡ s)
AnswersStore (Err CountExhausted) c redundant s t =
    (store_counters c redundant s ≡ refuse count_exhausted s) × (t ≡ s)

-- the fact holds unless memory was refused
abbrev pub UnlessOutOfMemory : {A : Type 0} → Result A StoreFault → Type 0 → Type 0
UnlessOutOfMemory (Ok x) P = P
UnlessOutOfMemory (Err OutOfMemory) P = Unit {0}
UnlessOutOfMemory (Err IdsExhausted) P = P
UnlessOutOfMemory (Err CountExhausted) P = P
