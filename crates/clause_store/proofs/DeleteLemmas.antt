-- The store after a copy of a clause was removed, and what deleting answers.
use Rattle.std.proofs.Common.{◌≡◌, ℕ, ◌+◌, ◌-◌, ◌<◌, Bool, true, false, cond, not, ◌&&◌, eqb, List, [], ◌∷◌, length, get_or, map, refl, ◌∙◌, arith, ⊎_elim, ◌*◌, ◌≤◌}
use Rattle.std.specs.List.{filter, list_all}
use Rattle.std.proofs.lemmas.Bool.{and_parts, not-true, cases_Bool}
use Rattle.std.proofs.lemmas.Bool.Decides.{nat_tests}
use Rattle.sat_rules.specs.Clauses.{has}
use Rattle.checker_rules.specs.Buckets.{of_hash, remaining}
use Rattle.checker_rules.specs.Canonical.{same_list}
use Rattle.checker_rules.specs.DeleteClause.{is_short, delete_copy, delete_justified}
use Rattle.checker_rules.specs.LiveLiterals.{live_literals, live_of}
use Rattle.checker_rules.specs.State.{Stored, Known, State}
use Rattle.checker_rules.specs.Store.{count_of, is_gone, is_stored, lower}
use Rattle.checker_rules.specs.WellFormed.{are_apart}
use Rattle.checker_rules.proofs.Buckets.{buckets_serve}
use Rattle.checker_rules.proofs.Deletions.{lower-lits}
use Rattle.checker_rules.proofs.Entries.{apart_filter, apart_map, lower_id, rise_filter, rise_map}
use Rattle.checker_rules.proofs.Sets.{same_list-eq}
use Rattle.checker_rules.specs.Outcome.{accept, delete_irredundant_is_redundant, delete_redundant_is_irredundant, delete_unknown, refuse}
use Rattle.clause_store.specs.declared.clauses.Clauses.{Clauses}
use Rattle.clause_store.specs.declared.clauses.lower.Left.{Left}
use Rattle.clause_store.specs.declared.hash.ClauseHasher.{ClauseHasher}
use Rattle.clause_store.specs.declared.clauses.lower.Missing.{Missing}
use Rattle.clause_store.specs.declared.clauses.lower.Missing.TheVariants.{Clause as NoClause, Copy as NoCopy}
use Rattle.clause_store.specs.declared.state.CheckerState.{CheckerState}
use Rattle.clause_store.specs.Buckets.{Buckets}
use Rattle.clause_store.specs.Counts.{AreCounts, HoldOneMore, times_held}
use Rattle.clause_store.specs.Lowered.{IsLeft, IsLowered, IsMissing, is_gone as is_none_left}
use Rattle.clause_store.specs.StateOf.{hash_of, state_of, stored_units}
use Rattle.clause_store.specs.Store.{IsIndexed, is_whole, IsStore}
use Rattle.clause_store.specs.View.{stored_at, stored_list}
use Rattle.clause_store.specs.Delete.{Deletes, deleted_as}
use Rattle.clause_store.specs.Edits.{KeepsRest}
use Rattle.clause_store.proofs.EditLemmas.{is_store-by, stored_list-is, within_others}
use Rattle.clause_store.proofs.FoundLemmas.{count_of-absent, lower-absent, lower-other, remaining-whole}
use Rattle.clause_store.proofs.StoreLemmas.{count_of-bucket}

-- those that are left are whole
pub whole-filter : (p : Stored → Bool) (es : List Stored) → list_all is_whole es ≡ true → list_all is_whole (filter p es) ≡ true
whole-filter p [] h = refl
whole-filter p (e ∷ es) h = grind (arith, whole-filter p es)

whole-lower : (r : Bool) (c : List ℕ) (es : List Stored) → list_all is_whole es ≡ true → list_all is_whole (remaining (map (lower r c) es)) ≡ true
whole-lower r c [] h = refl
whole-lower r c (e ∷ es) h = grind (arith, lower-lits r c e, whole-lower r c es)

-- how many copies are left
abbrev pub is_last : Bool → ℕ → ℕ → Bool
is_last r n m = eqb (n - cond r 0 1) 0 && eqb (m - cond r 1 0) 0

gone_lowered : (r : Bool) (c : List ℕ) (e : Stored) → same_list e.lits c ≡ true → is_gone (lower r c e) ≡ is_last r e.irredundant e.redundant
gone_lowered r c e same = grind (arith, nat_tests)

-- what the clauses weigh together
abbrev weight_of : (List ℕ → ℕ) → List Stored → ℕ
weight_of w [] = 0
weight_of w (e ∷ es) = w e.lits + weight_of w es

abbrev LosesWeight : (List ℕ → ℕ) → Bool → List ℕ → List Stored → Type 0
LosesWeight w r c es = weight_of w es ≡ weight_of w (remaining (map (lower r c) es)) + cond (is_last r (count_of false c es) (count_of true c es)) (w c) 0

module _ (w : List ℕ → ℕ) (r : Bool) (c : List ℕ) (e : Stored) (es : List Stored) (whole : is_whole e ≡ true) where
  loses_weight-here : is_stored e.lits es ≡ false → list_all is_whole es ≡ true → same_list e.lits c ≡ true → LosesWeight w r c (e ∷ es)
  loses_weight-here apart full same =
      let lits = same_list-eq e.lits c same in
      let rest : remaining (map (lower r c) es) ≡ es = cc (lower-absent c r es (rw (← lits) apart), remaining-whole es full) in
      grind (arith, lits, rest, lower-lits r c e, gone_lowered r c e same)

  loses_weight-later : LosesWeight w r c es → same_list e.lits c ≡ false → LosesWeight w r c (e ∷ es)
  loses_weight-later rest other = grind (arith, lower-other r c e other)

-- a clause that is removed removes its weight
weight_of-lower : (w : List ℕ → ℕ) (r : Bool) (c : List ℕ) (es : List Stored) → are_apart es ≡ true → list_all is_whole es ≡ true → is_stored c es ≡ true →
    LosesWeight w r c es
weight_of-lower w r c [] a full h = cc
weight_of-lower w r c (e ∷ es) a full h =
    let p = and_parts _ _ a in let q = and_parts (is_whole e) (list_all is_whole es) full in
    ⊎_elim (loses_weight-here w r c e es q.0 (not-true _ p.0) q.1)
    (λ n. loses_weight-later w r c e es q.0 (weight_of-lower w r c es p.1 q.1 (grind arith)) n) (cases_Bool (same_list e.lits c))

live-weight : (es : List Stored) → live_literals es ≡ weight_of live_of es
live-weight [] = refl
live-weight (e ∷ es) = cc (live-weight es)

-- the literals of a clause that is removed are no longer live
pub live_literals-lower : (r : Bool) (c : List ℕ) (es : List Stored) → are_apart es ≡ true → list_all is_whole es ≡ true → is_stored c es ≡ true
    → live_literals es ≡ live_literals (remaining (map (lower r c) es)) + cond (is_last r (count_of false c es) (count_of true c es)) (live_of c) 0
live_literals-lower r c es a full h =
    cc (live-weight es, weight_of-lower live_of r c es a full h, live-weight (remaining (map (lower r c) es)))

held-weight : (l : ℕ) (es : List Stored) → times_held l es ≡ weight_of (λ ls. cond (has l ls) 1 0) es
held-weight l [] = refl
held-weight l (e ∷ es) = cc (held-weight l es)

-- nor does it hold any
pub times_held-lower : (l : ℕ) (r : Bool) (c : List ℕ) (es : List Stored) → are_apart es ≡ true → list_all is_whole es ≡ true → is_stored c es ≡ true
    → times_held l es ≡ times_held l (remaining (map (lower r c) es)) + cond (is_last r (count_of false c es) (count_of true c es)) (cond (has l c) 1 0) 0
times_held-lower l r c es a full h =
    cc (held-weight l es, weight_of-lower (λ ls. cond (has l ls) 1 0) r c es a full h, held-weight l (remaining (map (lower r c) es)))

module _ (counts : List ℕ) (n : ℕ) (r : Bool) (c : List ℕ) (es : List Stored) (a : AreCounts counts n es) (apart : are_apart es ≡ true)
    (full : list_all is_whole es ≡ true) (stored : is_stored c es ≡ true) where
  -- each literal of a stored clause is held
  pub held-stored : is_last r (count_of false c es) (count_of true c es) ≡ true → (l : ℕ) → has l c ≡ true → 0 < get_or counts l 0
  held-stored last l here =
      grind (arith, times_held-lower l r c es apart full stored, a.held l)

  -- the last copy is removed
  pub counts-lowered : (counts' : List ℕ) → is_last r (count_of false c es) (count_of true c es) ≡ true → HoldOneMore c counts' counts →
      length counts' ≡ length counts → AreCounts counts' n (remaining (map (lower r c) es))
  counts-lowered counts' last less same = record {
    known = cc;
    held = λ l. grind (arith, times_held-lower l r c es apart full stored, less l, a.held l);
  }

  -- another one remains
  pub counts-kept : is_last r (count_of false c es) (count_of true c es) ≡ false → AreCounts counts n (remaining (map (lower r c) es))
  counts-kept more = record {
    known = a.known;
    held = λ l. grind (arith, times_held-lower l r c es apart full stored, a.held l);
  }

-- other counts of literals
pub files-counts : (h : ClauseHasher) (cs : Clauses) (counts : List ℕ) (es : List Stored) → IsIndexed h cs es → IsIndexed h (record cs { lit_counts = counts }) es
files-counts h cs counts es f = assumption

-- in one bucket
pub files-lowered : (h : ClauseHasher) (cs : Clauses) (es : List Stored) (m : Buckets) (g : ℕ) (r : Bool) (c : List ℕ) (left : Left) →
    IsIndexed h cs es → IsLowered cs.literal_buffer.items (hash_of h c) r c cs.buckets m left → is_stored c es ≡ true
    → g ≡ cs.garbage_size + cond (is_last r (count_of false c es) (count_of true c es)) (live_of c) 0 → IsIndexed h (record cs { buckets = m; garbage_size = g }) (remaining (map (lower r c) es))
files-lowered h cs es m g r c left f p stored grown = record {
  some_bits = f.some_bits;
  bits = f.bits;
  within = within_others cs.literal_buffer.items cs.buckets m (hash_of h c) f.within p.within p.others;
  bucketed = λ k.
      let whole = remaining-whole (of_hash (hash_of h) k es) (whole-filter (λ e. eqb (hash_of h e.lits) k) es f.whole) in
      grind (arith, nat_tests, p.here, p.others k, f.bucketed k, whole, (buckets_serve (hash_of h) es).deleted k r c);
  rise = rise_filter (λ e. not (is_gone e)) 0 (map (lower r c) es) cs.next_clause_id (cc (rise_map (lower r c) (lower_id r c) 0 es cs.next_clause_id));
  apart = apart_filter (λ e. not (is_gone e)) (map (lower r c) es) (cc (apart_map (lower r c) (lower-lits r c) es));
  whole = whole-lower r c es f.whole;
  used = let live = live_literals-lower r c es f.apart f.whole stored in let used = f.used in omega (arith, used, live, grown);
}

module _ (h : ClauseHasher) (cs : Clauses) (es : List Stored) (f : IsIndexed h cs es) where
  -- the clauses of a bucket are whole
  pub whole-bucket : (k : ℕ) → list_all is_whole (stored_at cs k) ≡ true
  whole-bucket k = cc (f.bucketed k, whole-filter (λ e. eqb (hash_of h e.lits) k) es f.whole)

  -- a bucket answers for all
  pub left-bucket : (r : Bool) (c : List ℕ) (left : Left) → IsLeft r c (stored_at cs (hash_of h c)) left → IsLeft r c es left
  left-bucket r c left p = record {
    copy = rw (← count_of-bucket h cs es f r c) p.copy;
    id = cc (f.bucketed (hash_of h c), (buckets_serve (hash_of h) es).id c);
    irredundant = cc (count_of-bucket h cs es f false c);
    redundants = cc (count_of-bucket h cs es f true c);
  }

  is_stored-bucket : (c : List ℕ) → is_stored c (stored_at cs (hash_of h c)) ≡ is_stored c es
  is_stored-bucket c = cc (f.bucketed (hash_of h c), (buckets_serve (hash_of h) es).look_up c)

  pub missing-bucket : (r : Bool) (c : List ℕ) (why : Missing) → IsMissing r c (stored_at cs (hash_of h c)) why → IsMissing r c es why
  missing-bucket r c NoClause p = cc (is_stored-bucket c)
  missing-bucket r c NoCopy p = (cc (is_stored-bucket c), cc (count_of-bucket h cs es f r c))

-- a clause with a copy is stored
pub stored_with-copy : (r : Bool) (c : List ℕ) (es : List Stored) → 0 < count_of r c es → is_stored c es ≡ true
stored_with-copy r c es had = grind (arith, count_of-absent c r es)

-- whether it was the last copy
pub last_of : (r : Bool) (c : List ℕ) (es : List Stored) (left : Left) → IsLeft r c es left → is_last r (count_of false c es) (count_of true c es) ≡ is_none_left left
last_of r c es left p = cc

-- a clause is stored still, unless its last copy went
pub is_stored-lowered : (r : Bool) (c : List ℕ) (es : List Stored) → are_apart es ≡ true → list_all is_whole es ≡ true → is_stored c es ≡ true
    → is_stored c (remaining (map (lower r c) es)) ≡ not (is_last r (count_of false c es) (count_of true c es))
is_stored-lowered r c [] a w h = cc
is_stored-lowered r c (e ∷ es) a w h =
    grind (arith, same_list-eq e.lits c, lower-absent c r es, remaining-whole es, lower-other r c e, lower-lits r c e, gone_lowered r c e, is_stored-lowered r c es)

-- the causes in their order
module _ (r : Bool) (c : List ℕ) (s : State) where
  pub delete-unknown : is_short c ≡ false → is_stored c s.clauses ≡ false → delete_justified r c s ≡ refuse delete_unknown s
  delete-unknown long new = cc

  pub delete-no_copy : is_short c ≡ false → is_stored c s.clauses ≡ true → count_of r c s.clauses ≡ 0 →
      delete_justified r c s ≡ refuse (cond r delete_redundant_is_irredundant delete_irredundant_is_redundant) s
  delete-no_copy long old zero = cc

  pub delete-copy : is_short c ≡ false → is_stored c s.clauses ≡ true → 0 < count_of r c s.clauses → delete_justified r c s ≡ accept (delete_copy r c s)
  delete-copy long old some = grind (arith, nat_tests)

-- the state after a change of the stored clauses alone
pub state_of-rest : (st : CheckerState) (h : ClauseHasher) (cs cs' : Clauses) (known : List Known) (es : List Stored) → KeepsRest cs cs' →
    stored_list cs' ≡ es → state_of st h cs' known ≡ record (state_of st h cs known) { clauses = es }
state_of-rest st h cs cs' known es p same = λ i. record (state_of st h cs known) { clauses = same i; units = stored_units (p.units i); conflict = p.conflict i; next = p.next i }

pub both_rest : (a b c : Clauses) → KeepsRest a b → KeepsRest b c → KeepsRest a c
both_rest a b c p q = record { next = cc; units = cc; conflict = cc }

-- other buckets alone
pub rest_of-buckets : (cs cs' : Clauses) → cs' ≡ record cs { buckets = cs'.buckets } → KeepsRest cs cs'
rest_of-buckets cs cs' e = grind arith

-- in order after a change of the stored clauses alone
pub store-rest : (h : ClauseHasher) (cs cs' : Clauses) (es : List Stored) → IsIndexed h cs' es →
    2 * cs'.garbage_size ≤ length cs'.literal_buffer.items → KeepsRest cs cs' → AreCounts cs'.lit_counts (length cs'.unit_clauses) es →
    IsStore h cs → IsStore h cs'
store-rest h cs cs' es f garbage rest counts s = is_store-by h cs' es f garbage (rw rest.units s.units) counts

module _ (h : ClauseHasher) (cs : Clauses) where
  -- nothing is removed
  pub state-unchanged : (st : CheckerState) (known : List Known) (cs' : Clauses) → IsIndexed h cs' (stored_list cs) →
      cs' ≡ record cs { buckets = cs'.buckets } → state_of st h cs' known ≡ state_of st h cs known
  state-unchanged st known cs' f e = state_of-rest st h cs cs' _ _ (rest_of-buckets cs cs' e) (stored_list-is h cs' _ f)

  pub store-unchanged : (cs' : Clauses) → IsIndexed h cs' (stored_list cs) → cs' ≡ record cs { buckets = cs'.buckets } → IsStore h cs → IsStore h cs'
  store-unchanged cs' f e s =
      store-rest h cs cs' _ f (rw e s.garbage) (rest_of-buckets cs cs' e)
      (rw e s.counts) s

  -- a copy is removed, and then the garbage
  pub deletes : (r : Bool) (c : List ℕ) → is_short c ≡ false →
      (st : CheckerState) (known : List Known) (taken after : Clauses) (left : Left) → IsLeft r c (stored_list cs) left →
      IsIndexed h taken (remaining (map (lower r c) (stored_list cs))) → KeepsRest cs taken → IsIndexed h after (stored_list taken) →
      KeepsRest taken after
      → Deletes c r (state_of st h cs known) (state_of st h after known) left.id (deleted_as r left.irredundant left.redundant)
  deletes r c long st known taken after left p filed rest still rest' =
      let s = state_of st h cs known in let es = stored_list cs in
      let same : stored_list after ≡ remaining (map (lower r c) es) = stored_list-is h _ _ still ∙ stored_list-is h taken _ filed in record {
        after = cc (delete-copy r c s long (stored_with-copy r c es p.copy) p.copy, state_of-rest st h cs after known (remaining (map (lower r c) es)) (both_rest cs taken after rest rest') same);
        id_is = p.id;
        result_is = cc;
      }
