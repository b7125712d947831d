-- Storing an input clause, and what it emits.
use Rattle.std.proofs.Common.{◌≡◌, ℕ, ◌+◌, ◌-◌, ◌<◌, ◌≤◌, Bool, true, false, cond, not, ◌||◌, leb, List, [], ◌∷◌, length, append-nil, Err, refl, ap, ◌∙◌, arith, lt-ltb}
use Rattle.checker_steps.proofs.Common.{list_all, and_parts, leb-false, leb-true, not-true, is_canonical, is_tautology, same_list}
use Rattle.checker_steps.proofs.Common.{var_bound, emits_input, is_only_redundant, know_clause, accept, count_exhausted}
use Rattle.checker_steps.proofs.Common.{refuse, State, Stored, count_limit, count_of, id_limit, is_gone, is_stored, stands, take_id}
use Rattle.checker_steps.proofs.Common.{WellFormed, is_fine, rise_next, AnswersStore, IsStore, Stores, store_counters, stored_list, Clauses}
use Rattle.checker_steps.proofs.Common.{StoreFault, ClauseHasher, IsFaultOf}
use Rattle.std.proofs.Math.Bool.{and-false}
use Rattle.checker_rules.specs.AddClause.{store_input}
use Rattle.checker_rules.specs.DeleteClause.{is_short}
use Rattle.checker_rules.proofs.Sets.{same_list-eq}
use Rattle.clause_store.specs.declared.clauses.StoreClauseResult.{StoreClauseResult}
use Rattle.clause_store.specs.declared.clauses.StoreClauseResult.TheVariants as results
use Rattle.clause_store.proofs.BucketLemmas.{count_limit-some}
use Rattle.clause_store.proofs.FoundLemmas.{count_of-absent}
use Rattle.checker_steps.specs.Added.{emitted_of}
use Rattle.checker_steps.specs.declared.steps.add_clause.Added.TheVariants.{Tautology, New, Duplicate}

-- taking an id leaves the store in order
pub is_store-next : (h : ClauseHasher) (cs : Clauses) → IsStore h cs → IsStore h (record cs { next_clause_id = cs.next_clause_id + 1 })
is_store-next h cs k = assumption (k, rise_next 0 (stored_list cs) cs.next_clause_id k.filed.rise)

-- the counters of an input clause, where an id is left
module _ (c : List ℕ) (s : State) (room : s.next < id_limit) where
  by_count : (b : Bool) → leb count_limit (count_of false c s.clauses) ≡ b → store_counters c false s ≡ cond b (refuse count_exhausted s) (accept s)
  by_count b e = rw (lt-ltb s.next id_limit room, and-false (not (stands c s)), e) refl

  pub accepted-few : store_counters c false s ≡ accept s → count_of false c s.clauses < count_limit
  accepted-few e = grind (arith, lt-ltb, and-false, leb-false)

-- what was stored has known variables, and is no tautology
pub stored-fine : (n : ℕ) (c : List ℕ) (es : List Stored) → list_all (is_fine n) es ≡ true → is_stored c es ≡ true → (is_tautology c ≡ false) × (var_bound c ≤ n)
stored-fine n c [] fine h = cc
stored-fine n c (e ∷ es) fine h = by (same_list e.lits c) refl h (stored-fine n c es (and_parts (is_fine n e) (list_all (is_fine n) es) fine).1)
  where
    first : same_list e.lits c ≡ true → (is_tautology c ≡ false) × (var_bound c ≤ n)
    first same =
        let q = and_parts (is_canonical e.lits) _ (and_parts (is_fine n e) (list_all (is_fine n) es) fine).0 in
        let r = and_parts (not (is_tautology e.lits)) _ q.1 in
        let t = and_parts (not (is_short e.lits)) _ r.1 in
        let u = and_parts (not (is_gone e)) (leb (var_bound e.lits) n) t.1 in
        rw (← same_list-eq e.lits c same) (not-true (is_tautology e.lits) r.0, leb-true (var_bound e.lits) n u.1)

    by : (b : Bool) → same_list e.lits c ≡ b → (b || is_stored c es) ≡ true → (is_stored c es ≡ true → (is_tautology c ≡ false) × (var_bound c ≤ n)) →
        (is_tautology c ≡ false) × (var_bound c ≤ n)
    by true same k others = first same
    by false other k others = others k

some-stored : (c : List ℕ) (es : List Stored) → 0 < count_of false c es → is_stored c es ≡ true
some-stored c es some = grind (arith, count_of-absent)

-- so its variables need not become known
pub know-stored : (c : List ℕ) (s : State) → WellFormed s → is_stored c s.clauses ≡ true → know_clause c s ≡ s
know-stored c s form h =
    let bound = (stored-fine (length s.known) c s.clauses form.fine h).1 in
    let known : var_bound c - length s.known ≡ 0 = omega (arith, bound) in
    let units : var_bound c - length s.units ≡ 0 = omega (arith, bound, form.same_known) in rw (known, units, append-nil s.known, append-nil s.units)

-- a tautology has no copies
pub tautology-few : (c : List ℕ) (s : State) → WellFormed s → is_tautology c ≡ true → count_of false c s.clauses < count_limit
tautology-few c s form h = grind (arith, stored-fine, count_of-absent, count_limit-some)

-- a fault after the variables became known is one before
pub fault-known : (fault : StoreFault) (c : List ℕ) (s t : State) → WellFormed s → IsFaultOf fault c (know_clause c s) t → IsFaultOf fault c s t
fault-known fault c s t form h = grind (arith, count_limit-some, know-stored, some-stored)

-- what storing rejected, in the words of the step
pub fault-stored : (fault : StoreFault) (c : List ℕ) (s t : State) → s.next < id_limit → AnswersStore (Err fault) c false s t → IsFaultOf fault c s t
fault-stored fault c s t room h = grind (arith, lt-ltb, and-false, leb-true)

-- what the answer of storing says of the clause before
abbrev pub Tells : StoreClauseResult → (stood only_redundant : Bool) → Type 0
Tells results.New stood only_redundant = stood ≡ false
Tells results.Duplicate stood only_redundant = (stood ≡ true) × (only_redundant ≡ false)
Tells results.NewlyIrredundant stood only_redundant = (stood ≡ true) × (only_redundant ≡ true)

-- a tautology takes an id
module _ (c : List ℕ) (s : State) (e : true ≡ is_tautology c) where
  pub input-tautology : store_input c s ≡ take_id s
  input-tautology = rw (← e) refl

  pub emits-tautology : emitted_of (Tautology s.next) c s.known ≡ emits_input c s
  emits-tautology = rw (← e) refl

-- storing leads from s to t
module _ {c : List ℕ} {s t : State} {id : ℕ} {did : StoreClauseResult} (is : Stores c false s t id did) where
  pub told : {r : StoreClauseResult} → did ≡ r → Tells r (stands c s) (is_only_redundant c s)
  told e = rw (← e, is.result_is) (grind arith)

  pub same-inputs : t.inputs ≡ s.inputs
  same-inputs = ap (λ (u : State). u.inputs) is.after ∙ grind arith

  pub same-next : stands c s ≡ true → t.next ≡ s.next
  same-next h = ap (λ (u : State). u.next) is.after ∙ grind (arith, h)

  module _ (e : false ≡ is_tautology c) where
    -- a clause that is new
    pub input-new : stands c s ≡ false → t ≡ store_input c s
    input-new h = is.after ∙ rw (← e, h) refl

    pub emits-new : stands c s ≡ false → emitted_of (New id) c s.known ≡ emits_input c s
    emits-new h = grind (arith, is.id_is, e, h)

    -- a stored clause takes an id of its own
    pub input-repeated : stands c s ≡ true → take_id t ≡ store_input c s
    input-repeated h = ap take_id is.after ∙ grind (arith, e, h)

    pub emits-repeated : (newly : Bool) → (stands c s ≡ true) × (is_only_redundant c s ≡ newly) →
        emitted_of (Duplicate t.next id newly) c s.known ≡ emits_input c s
    emits-repeated newly h = rw (same-next h.0, is.id_is, ← h.1, ← e, h.0) refl
