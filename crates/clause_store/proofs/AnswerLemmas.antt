-- What storing a clause answers, in the words of the rules.
use Rattle.std.proofs.Common.{◌≡◌, ℕ, ◌+◌, ◌<◌, ◌≤◌, Bool, true, false, not, List, [], ◌∷◌, set, Some, None, Result, Ok, Err, IfErr, OnErr, OnOk, refl, subst, arith}
use Rattle.std.proofs.Common.{cond, ◌++◌, length, map, ◌∙◌}
use Rattle.std.specs.List.{list_all}
use Rattle.std.specs.Result.{OkIff}
use Rattle.std.proofs.lemmas.Bool.Decides.{nat_tests}
use Rattle.sat_rules.specs.Clauses.{is_negative, var_of}
use Rattle.checker_rules.specs.DeleteClause.{is_short}
use Rattle.checker_rules.specs.Outcome.{Outcome, accept, count_exhausted, ids_exhausted, refuse}
use Rattle.checker_rules.specs.State.{State, Stored, StoredUnit, same_bool, unit_of, Known}
use Rattle.checker_rules.specs.Store.{count_limit, count_of, counters, id_limit, is_stored, stands, new_stored, raise}
use Rattle.checker_rules.proofs.Sets.{same_list-eq}
use Rattle.clause_store.specs.declared.clauses.StoreClauseResult.{StoreClauseResult}
use Rattle.clause_store.specs.declared.clauses.StoreClauseResult.TheVariants.{New, Duplicate}
use Rattle.clause_store.specs.declared.clauses.store.StoreFault.{StoreFault}
use Rattle.clause_store.specs.declared.clauses.store.StoreFault.TheVariants.{OutOfMemory, IdsExhausted, CountExhausted}
use Rattle.clause_store.specs.declared.clauses.Clauses.{Clauses}
use Rattle.clause_store.specs.declared.hash.ClauseHasher.{ClauseHasher}
use Rattle.clause_store.specs.declared.state.CheckerState.{CheckerState}
use Rattle.clause_store.specs.Store.{AnswersStore, Stores, is_whole, store_counters, AnswersPush, IsStore, UnlessOutOfMemory, raised_as}
use Rattle.clause_store.specs.Buckets.{Buckets}
use Rattle.clause_store.specs.Edits.{IsPushed}
use Rattle.clause_store.specs.StateOf.{hash_of, state_of, stored_units}
use Rattle.clause_store.specs.Found.{found_in}
use Rattle.clause_store.specs.View.{stored_list}
use Rattle.clause_store.proofs.BucketLemmas.{count_limit-some}
use Rattle.clause_store.proofs.EditLemmas.{files-pushed, is_store-pushed, stored_list-is}
use Rattle.clause_store.proofs.FoundLemmas.{count_of-absent}

-- the counters
pub counters-accept : (r : Bool) (c : List ℕ) (takes : Bool) (s : State) (next : State → Outcome) → (takes ≡ true → s.next < id_limit) →
    count_of r c s.clauses < count_limit → counters r c takes s next ≡ next s
counters-accept r c takes s next room few =
    grind (arith, nat_tests)

-- a short clause is not among the long ones
pub is_stored-short : (c : List ℕ) (es : List Stored) → is_short c ≡ true → list_all is_whole es ≡ true → is_stored c es ≡ false
is_stored-short c [] h all = refl
is_stored-short c (e ∷ es) h all =
    grind (arith, same_list-eq e.lits c, is_stored-short c es h)

-- the empty clause
pub empty-stored : (r : Bool) (s : State) → s.next < id_limit → count_of r [] s.clauses < count_limit → Stores [] r s (record s { unsat = true; next = s.next + 1 }) s.next New
empty-stored r s room few = record { room = counters-accept r [] true s accept (λ e. room) few; after = refl; id_is = refl; result_is = refl }

-- a unit, by what its variable has
module _ (l : ℕ) (r : Bool) (s : State) (few : count_of r (l ∷ []) s.clauses < count_limit) where
  pub unit-new : unit_of s.units (var_of l) ≡ None → s.next < id_limit
      → Stores (l ∷ []) r s (record s { units = set s.units (var_of l) (Some (record { value = not (is_negative l); id = s.next })); next = s.next + 1 }) s.next New
  unit-new none room = grind (arith, counters-accept r (l ∷ []) (not (stands (l ∷ []) s)) s accept (λ e. room) few)

  pub unit-stands : (u : StoredUnit) → unit_of s.units (var_of l) ≡ Some u → same_bool u.value (not (is_negative l)) ≡ true → Stores (l ∷ []) r s s u.id Duplicate
  unit-stands u here same =
      grind (arith, counters-accept r (l ∷ []) (not (stands (l ∷ []) s)) s accept (λ e. grind arith) few)

  pub unit-conflict : (u : StoredUnit) → unit_of s.units (var_of l) ≡ Some u → same_bool u.value (not (is_negative l)) ≡ false → s.next < id_limit
      → Stores (l ∷ []) r s (record s { unsat = true; conflict = Some (u.id, s.next); next = s.next + 1 }) s.next New
  unit-conflict u here other room =
      grind (arith, counters-accept r (l ∷ []) (not (stands (l ∷ []) s)) s accept (λ e. room) few)

-- no id is left for a clause that is not stored
pub answers-ids : (c : List ℕ) (r : Bool) (s : State) → stands c s ≡ false → id_limit ≤ s.next → store_counters c r s ≡ refuse ids_exhausted s
answers-ids c r s other none = grind (arith, nat_tests)

-- a clause that is not stored takes an id, if one is left
pub answers-new : (res : Result (ℕ × StoreClauseResult) StoreFault) (c : List ℕ) (r : Bool) (s t u : State) →
    OkIff res (s.next < id_limit) (s.next, New) → IfErr res (λ f. f ≡ IdsExhausted) → OnOk res (t ≡ u) → OnErr res (t ≡ s)
    → stands c s ≡ false → (s.next < id_limit → Stores c r s u s.next New) → AnswersStore res c r s t
answers-new (Ok p) c r s t u h only ok err other stored =
    subst (λ x. Stores c r s x p.0 p.1) (cc) (subst (λ (x : ℕ × StoreClauseResult). Stores c r s u x.0 x.1) (cc) (stored h.0))
answers-new (Err OutOfMemory) c r s t u h only ok err other stored = tt
answers-new (Err IdsExhausted) c r s t u h only ok err other stored = (answers-ids c r s other (omega (arith, h)), err)
answers-new (Err CountExhausted) c r s t u h only ok err other stored = cc

-- what holds either way holds
pub either_way : {A E P : Type 0} (res : Result A E) → OnOk res P → OnErr res P → P
either_way (Ok x) ok err = ok
either_way (Err e) ok err = err

-- what a look-up shows
found_parts : (b : Bool) (p q : ℕ × ℕ) → Some p ≡ cond b (Some q) None → (b ≡ true) × (p ≡ q)
found_parts b p q e = grind arith

pub absent_from : (c : List ℕ) (es : List Stored) → None ≡ found_in c es → is_stored c es ≡ false
absent_from c es e = grind arith

-- a clause of two or more literals
pub long_is : (c : List ℕ) → 1 < length c → is_short c ≡ false
long_is c w = grind arith

pub long-other : (c : List ℕ) (s : State) → 1 < length c → stands c s ≡ is_stored c s.clauses
long-other c s w = grind arith

pub long-stands : (c : List ℕ) (r : Bool) (s : State) (id n : ℕ) → 1 < length c → Some (id, n) ≡ found_in c s.clauses →
    count_of r c s.clauses < count_limit → Stores c r s (record s { clauses = map (raise r c) s.clauses }) id (raised_as r n)
long-stands c r s id n w e few =
    let other = long-other c s w in
    grind (arith, other, found_parts _ _ _ e, counters-accept r c (not (stands c s)) s accept (λ t. grind arith) few)

pub long-new : (c : List ℕ) (r : Bool) (s : State) → 1 < length c → is_stored c s.clauses ≡ false → s.next < id_limit →
    Stores c r s (record s { clauses = s.clauses ++ new_stored r c s.next ∷ []; next = s.next + 1 }) s.next New
long-new c r s w new room =
    let other = long-other c s w in
    grind (arith, other, counters-accept r c (not (stands c s)) s accept (λ t. room) (rw (count_of-absent c r s.clauses new) count_limit-some))

pub long-full : (c : List ℕ) (r : Bool) (s : State) → 1 < length c → count_limit ≤ count_of r c s.clauses → store_counters c r s ≡ refuse count_exhausted s
long-full c r s w many = grind (arith, nat_tests, long-other c s w, count_of-absent c r s.clauses, count_limit-some)

-- the state after a count was raised
pub state_of-buckets : (st : CheckerState) (h : ClauseHasher) (cs : Clauses) (known : List Known) (m : Buckets) (es : List Stored) →
    stored_list (record cs { buckets = m }) ≡ es →
    state_of st h (record cs { buckets = m }) known ≡ record (state_of st h cs known) { clauses = es }
state_of-buckets st h cs known m es e = cc

-- the state after a clause was pushed
state_of-pushed : (st : CheckerState) (h : ClauseHasher) (cs cs' : Clauses) (known : List Known) (hash : ℕ) (e : Stored)
    (es : List Stored) → IsPushed hash e cs cs' → stored_list cs' ≡ es →
    state_of st h cs' known ≡ record (state_of st h cs known) { clauses = es; next = cs.next_clause_id + 1 }
state_of-pushed st h cs cs' known hash e es p same = λ i. record (state_of st h cs known) { clauses = same i; units = stored_units (p.units i); conflict = p.conflict i; next = p.next i }

module _ (h : ClauseHasher) (cs cs' : Clauses) (c : List ℕ) (r : Bool) (long : 1 < length c) (s : IsStore h cs) (new : is_stored c (stored_list cs) ≡ false) where
  pub answers-pushed : (st : CheckerState) (known : List Known) (res : Result (ℕ × StoreClauseResult) StoreFault) →
      AnswersPush res (hash_of h c) c r cs cs' → AnswersStore res c r (state_of st h cs known) (state_of st h cs' known)
  answers-pushed st known (Ok p) a =
      let before = state_of st h cs known in
      let es = stored_list cs ++ new_stored r c cs.next_clause_id ∷ [] in
      let after : State = record before { clauses = es; next = cs.next_clause_id + 1 } in
      subst (λ t. Stores c r before t p.0 p.1)
      (cc (state_of-pushed st h cs cs' known (hash_of h c) (new_stored r c cs.next_clause_id) es a.2
      (stored_list-is h cs' es (files-pushed h cs cs' (stored_list cs) r c s.filed a.2 new (long_is c long)))))
      (subst (λ (x : ℕ × StoreClauseResult). Stores c r before after x.0 x.1) (cc) (long-new c r before long new a.0))
  answers-pushed st known (Err OutOfMemory) a = tt
  answers-pushed st known (Err IdsExhausted) a = (answers-ids c r (state_of st h cs known) (long-other c (state_of st h cs known) long ∙ new) a.0, cc)
  answers-pushed st known (Err CountExhausted) a = absurd a

  pub is_store-answered : (res : Result (ℕ × StoreClauseResult) StoreFault) → AnswersPush res (hash_of h c) c r cs cs' → UnlessOutOfMemory res (IsStore h cs')
  is_store-answered (Ok p) a = is_store-pushed h cs cs' r c s a.2 new (long_is c long)
  is_store-answered (Err OutOfMemory) a = tt
  is_store-answered (Err IdsExhausted) a = subst (IsStore h) (cc) s
  is_store-answered (Err CountExhausted) a = absurd a
