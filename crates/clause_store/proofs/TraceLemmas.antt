-- What a traced check lists: the look at a clause, the stored units that are listed and overwritten, and how the trace continues.
use Rattle.std.proofs.Common.{◌≡◌, ℕ, Bool, true, false, not, eqb, List, [], ◌∷◌, ◌++◌, Option, Some, refl, arith, zero, suc, ◌<◌, ◌&&◌, length, set, None, ap, ◌∙◌}
use Rattle.std.proofs.Common.{sym, subst}
use Rattle.std.specs.List.{list_any}
use Rattle.std.proofs.lemmas.Bool.{and_parts}
use Rattle.std.proofs.lemmas.Grind.{get_or-set_at}
use Rattle.std.proofs.lemmas.List.{append_assoc, get_or-set_other, map-append}
use Rattle.std.proofs.lemmas.List.Elements.{All-head, All-tail}
use Rattle.std.proofs.lemmas.Bool.Decides.{nat_tests}
use Rattle.std.proofs.Math.Path.{fun_ext}
use Rattle.std.specs.Option.{option_map}
use Rattle.sat_rules.specs.Clauses.{add_lit, negate, unfalsified, is_negative, var_of}
use Rattle.sat_rules.specs.Named.{Item}
use Rattle.checker_rules.specs.Hints.{Visit, freeing, listing, on_visit, prepend, stored_item, trace, unit_item, visit, without_lit, unlisted_at}
use Rattle.checker_rules.specs.State.{Stored, StoredUnit, some_true_unit, unit_of, start_set}
use Rattle.checker_rules.specs.Store.{unit_id}
use Rattle.checker_rules.proofs.Traces.{var-negate}
use Rattle.checker_rules.specs.Traced.{ids_of}
use Rattle.clause_store.specs.declared.rup.status.ClauseStatus.{ClauseStatus}
use Rattle.clause_store.specs.declared.rup.status.ClauseStatus.TheVariants as statuses
use Rattle.clause_store.specs.declared.clauses.units.UnitClause.{UnitClause}
use Rattle.clause_store.specs.Rup.{status_of, true_lits}
use Rattle.clause_store.specs.StateOf.{stored_units}
use Rattle.clause_store.specs.Trace.{AreStored, IsAtRest, KeepsStored, item_ids, look, looked, unlisted_lits, true_unit_id, ids_after, open_trace, Opens, clause_trace}
use Rattle.clause_store.specs.Units.{lit_value, number_of, stored_id, unit_at, AreKnown}
use Rattle.clause_store.proofs.UnitsLemmas.{falsity, negation_is, true_lits-by, true_lits-falsity, true_lits-truth, truth, unit_of-stored_units}
use Rattle.clause_store.proofs.StatusLemmas.{is_unit, known-has}

-- the look at a clause, literal by literal
pub visit-listed : (us : List (Option StoredUnit)) (s g : ℕ → Bool) (m : ℕ) (c : List ℕ) → s m ≡ false → s (negate m) ≡ true →
    g (negate m) ≡ true → visit us s g (m ∷ c) ≡ listing (unit_item us (negate m)) (visit us s (without_lit (negate m) g) c)
visit-listed us s g m c h n k = rw (h, n, k) refl

pub visit-free : (us : List (Option StoredUnit)) (s g : ℕ → Bool) (m : ℕ) (c : List ℕ) → s m ≡ false → s (negate m) ≡ false → visit us s g (m ∷ c) ≡ freeing m (visit us s g c)
visit-free us s g m c h n = rw (h, n) refl

-- a true literal is found where there is one
pub visit-satisfied : (us : List (Option StoredUnit)) (s g : ℕ → Bool) (c : List ℕ) → (visit us s g c).satisfied ≡ list_any s c
visit-satisfied us s g [] = refl
visit-satisfied us s g (m ∷ c) = grind (arith, visit-satisfied us s g c, visit-satisfied us s (without_lit (negate m) g) c)

-- and else the free ones are found
pub visit-unfalsified : (us : List (Option StoredUnit)) (s g : ℕ → Bool) (c : List ℕ) → list_any s c ≡ false → (visit us s g c).free ≡ unfalsified s c
visit-unfalsified us s g [] none = refl
visit-unfalsified us s g (m ∷ c) none = grind (arith, visit-unfalsified us s g c, visit-unfalsified us s (without_lit (negate m) g) c)

-- what is left unlisted was so before
pub visit-unlisted : (us : List (Option StoredUnit)) (s g : ℕ → Bool) (c : List ℕ) (k : ℕ) → (visit us s g c).unlisted k ≡ true → g k ≡ true
visit-unlisted us s g [] k e = e
visit-unlisted us s g (m ∷ c) k e = grind (arith, visit-unlisted us s g c k, visit-unlisted us s (without_lit (negate m) g) c k)

-- the units that are to be listed are the same
abbrev pub AgreeOn : (ℕ → Bool) → List (Option StoredUnit) → List (Option StoredUnit) → Type 0
AgreeOn g us vs = (k : ℕ) → g k ≡ true → unit_item us k ≡ unit_item vs k

pub visit-agree : (vs us : List (Option StoredUnit)) (s g : ℕ → Bool) (c : List ℕ) → AgreeOn g us vs → visit us s g c ≡ visit vs s g c
visit-agree vs us s g [] e = refl
visit-agree vs us s g (m ∷ c) e =
    let less : AgreeOn (without_lit (negate m) g) us vs = λ k y. e k (and_parts (g k) (not (eqb k (negate m))) y).0 in
    grind (arith, visit-agree vs us s g c e, visit-agree vs us s (without_lit (negate m) g) c less, e (negate m))

on_visit-agree : (v : Visit) (x : Item) (s : ℕ → Bool) (go to : (ℕ → Bool) → (ℕ → Bool) → Option (List Item)) →
    ((r : ℕ → Bool) → go r v.unlisted ≡ to r v.unlisted) → on_visit v x s go ≡ on_visit v x s to
on_visit-agree v x s go to h = grind (arith, h)

pub trace-agree : (us vs : List (Option StoredUnit)) (s g : ℕ → Bool) (es : List Stored) → AgreeOn g us vs → trace us s g es ≡ trace vs s g es
trace-agree us vs s g [] h = refl
trace-agree us vs s g (e ∷ es) h =
    cc (
      visit-agree vs us s g e.lits h,
      on_visit-agree (visit vs s g e.lits) (stored_item e) s (λ r k. trace us r k es) (λ r k. trace vs r k es)
          (λ r. trace-agree us vs r (visit vs s g e.lits).unlisted es (λ k y. h k (visit-unlisted vs s g e.lits k y))),
    )

-- how the trace continues after a clause, by what follows from it
abbrev pub on_status : ClauseStatus → Visit → Item → (ℕ → Bool) → ((ℕ → Bool) → (ℕ → Bool) → Option (List Item)) → Option (List Item)
on_status statuses.Falsified v x s go = Some (v.items ++ x ∷ [])
on_status (statuses.Unit l) v x s go = prepend (v.items ++ x ∷ []) (go (add_lit l s) v.unlisted)
on_status statuses.Idle v x s go = prepend v.items (go s v.unlisted)

pub on_visit-status : (us : List (Option StoredUnit)) (s g : ℕ → Bool) (c : List ℕ) (x : Item) (go : (ℕ → Bool) → (ℕ → Bool) →
    Option (List Item)) → on_visit (visit us s g c) x s go ≡ on_status (status_of s c) (visit us s g c) x s go
on_visit-status us s g c x go = grind (arith, visit-satisfied us s g c, visit-unfalsified us s g c)

-- at rest every value is a stored unit's
pub at_rest : (us : List (Option UnitClause)) (v : ℕ) → AreStored us → IsAtRest (unit_at us v)
at_rest [] v h = tt
at_rest (u ∷ us) zero h = All-head IsAtRest u us h
at_rest (u ∷ us) (suc v) h = at_rest us v (All-tail IsAtRest u us h)

pub unlisted_lits-at_rest : (us : List (Option UnitClause)) (m : ℕ) → AreStored us → unlisted_lits us m ≡ true_lits us m
unlisted_lits-at_rest us m h = grind (arith, true_lits-by us m, at_rest us (var_of m) h)

-- a value that is no stored unit's overwrites one
pub unlisted_lits-set : (us : List (Option UnitClause)) (v m : ℕ) (u : UnitClause) → v < length us → number_of u.id ≡ None →
    unlisted_lits (set us v (Some u)) m ≡ (unlisted_lits us m && not (eqb (var_of m) v))
unlisted_lits-set us v m u known new = grind (arith, nat_tests, true_lits-by, get_or-set_at, get_or-set_other)

pub keeps-set : (us : List (Option UnitClause)) (v : ℕ) (u : UnitClause) → v < length us → number_of u.id ≡ None → KeepsStored us (set us v (Some u))
keeps-set us v u known new k h = grind (arith, get_or-set_at, get_or-set_other)

pub keeps-then : (us vs ws : List (Option UnitClause)) → KeepsStored us vs → KeepsStored vs ws → KeepsStored us ws
keeps-then us vs ws h k v e = h v (cc (k v e)) ∙ k v e

-- the units that are to be listed are those of before
pub keeps-agree : (us vs : List (Option UnitClause)) → KeepsStored us vs → AgreeOn (unlisted_lits vs) (stored_units us) (stored_units vs)
keeps-agree us vs h k e = grind (arith, h (var_of k), unit_of-stored_units us (var_of k), unit_of-stored_units vs (var_of k))

-- the value of the variable of a false literal is overwritten by the same with another id
pub true_lits-renamed : (us : List (Option UnitClause)) (m : ℕ) (w : UnitClause) → var_of m < length us → lit_value us m ≡ Some false →
    w.value ≡ is_negative m → true_lits (set us (var_of m) (Some w)) ≡ true_lits us
true_lits-renamed us m w known found same =
    fun_ext (λ k. grind (arith, true_lits-by, get_or-set_at, get_or-set_other))

pub looked-free : (ids : List ℕ) (us : List (Option UnitClause)) (m : ℕ) (c : List ℕ) → lit_value us m ≡ None → looked ids us (m ∷ c) ≡ looked ids us c
looked-free ids us m c h = simp (visit-free (stored_units us) (true_lits us) (unlisted_lits us) m c (true_lits-truth us m ∙ ap truth h) (true_lits-falsity us m ∙ ap falsity h))

without-is : (us : List (Option UnitClause)) (m : ℕ) (w : UnitClause) → var_of m < length us → number_of w.id ≡ None →
    true_lits us m ≡ false → without_lit (negate m) (unlisted_lits us) ≡ unlisted_lits (set us (var_of m) (Some w))
without-is us m w known new free =
    fun_ext (λ k. grind (arith, nat_tests, var-negate, negation_is m k, unlisted_lits-set us (var_of m) k w known new))

-- the id of a stored unit
pub unit_id-stored : (us : List (Option UnitClause)) (v n : ℕ) → stored_id (unit_at us v) ≡ Some n → unit_id (unit_of (stored_units us) v) ≡ n
unit_id-stored us v n h = grind (arith, unit_of-stored_units us v)

-- a stored unit that makes a literal false is listed, and its value gets another id
pub looked-listed : (ids : List ℕ) (us vs : List (Option UnitClause)) (m n : ℕ) (w : UnitClause) (c : List ℕ) → var_of m < length us →
    lit_value us m ≡ Some false → stored_id (unit_at us (var_of m)) ≡ Some n → w.value ≡ is_negative m → number_of w.id ≡ None →
    vs ≡ set us (var_of m) (Some w) → looked ids us (m ∷ c) ≡ looked (ids ++ n ∷ []) vs c
looked-listed ids us vs m n w c known value found same new e =
    let ss = stored_units us in let s = true_lits us in
    let not_true : s m ≡ false = cc (true_lits-truth us m) in
    let is_true : s (negate m) ≡ true = cc (true_lits-falsity us m) in
    let at : stored_id (unit_at us (var_of (negate m))) ≡ Some n = cc (var-negate m) in
    let unlisted : unlisted_lits us (negate m) ≡ true = cc in
    let true_same : s ≡ true_lits vs = cc (true_lits-renamed us m w known value same) in
    let left_same : without_lit (negate m) (unlisted_lits us) ≡ unlisted_lits vs = cc (without-is us m w known new not_true) in
    let kept : KeepsStored us vs = rw e (keeps-set us (var_of m) w known new) in
    let rest : visit ss s (without_lit (negate m) (unlisted_lits us)) c ≡ look vs c =
    cc (visit-agree (stored_units vs) ss (true_lits vs) (unlisted_lits vs) c (keeps-agree us vs kept)) in
    rw (visit-listed ss s (unlisted_lits us) m c not_true is_true unlisted, rest, unit_id-stored us (var_of (negate m)) n at, ← append_assoc ids (n ∷ []) (item_ids (look vs c).items)) refl

-- the unit of a true literal is a stored one
pub true_unit_id-true : (us : List (Option UnitClause)) (m : ℕ) (c : List ℕ) → AreStored us → true_lits us m ≡ true → true_unit_id (stored_units us) (m ∷ c) ≡ stored_id (unit_at us (var_of m))
true_unit_id-true us m c stored h =
    grind (arith, at_rest us (var_of m) stored, true_lits-by us m, unit_of-stored_units us (var_of m))

pub true_unit_id-false : (us : List (Option UnitClause)) (m : ℕ) (c : List ℕ) → true_lits us m ≡ false → true_unit_id (stored_units us) (m ∷ c) ≡ true_unit_id (stored_units us) c
true_unit_id-false us m c h = rw h refl

-- ids that are listed before those of a trace
with_ids : List ℕ → Option (List Item) → Option (List ℕ)
with_ids ids o = option_map (λ items. ids ++ item_ids items) o

-- what comes before a trace is listed first
with_ids-prepend : (ids : List ℕ) (xs : List Item) (o : Option (List Item)) → with_ids ids (prepend xs o) ≡ with_ids (ids ++ item_ids xs) o
unfolding with_ids
with_ids-prepend ids xs o = grind (arith, map-append, append_assoc)

-- the clause is listed after the units that it met
named-last : (ids ids_now : List ℕ) (xs : List Item) (x : Item) → ids ++ item_ids xs ≡ ids_now → ids ++ item_ids (xs ++ x ∷ []) ≡ ids_now ++ x.id ∷ []
named-last ids ids_now xs x e = cc (map-append (λ (y : Item). y.id) xs (x ∷ []), append_assoc ids (item_ids xs) (x.id ∷ []))

-- the trace continues from other values with the same stored units
goes_on : (us vs : List (Option UnitClause)) (r h : ℕ → Bool) (rest : List Stored) → KeepsStored us vs → true_lits vs ≡ r →
    unlisted_lits vs ≡ h → trace (stored_units us) r h rest ≡ trace (stored_units vs) (true_lits vs) (unlisted_lits vs) rest
goes_on us vs r h rest kept e f =
    cc (trace-agree (stored_units us) (stored_units vs) (true_lits vs) (unlisted_lits vs) rest (keeps-agree us vs kept))

-- what the trace is after a clause with this status
by_status : (ids : List ℕ) (us : List (Option UnitClause)) (e : Stored) (rest : List Stored) (t : ClauseStatus) → t ≡ status_of (true_lits us) e.lits
    → ids_after ids us (e ∷ rest) ≡ with_ids ids (on_status t (look us e.lits) (stored_item e) (true_lits us) (λ r h. trace (stored_units us) r h rest))
unfolding with_ids
by_status ids us e rest t h =
    cc (on_visit-status (stored_units us) (true_lits us) (unlisted_lits us) e.lits (stored_item e) (λ r k. trace (stored_units us) r k rest))

-- what is known of a clause once its units are listed
pub record IsLooked (ids ids_now : List ℕ) (us vs : List (Option UnitClause)) (e : Stored) (t : ClauseStatus) : Type 0 where
  pub status : t ≡ status_of (true_lits us) e.lits
  pub listed : looked ids us e.lits ≡ (ids_now, unlisted_lits vs)
  pub kept : KeepsStored us vs
  pub same : true_lits vs ≡ true_lits us

pub is_looked : (ids ids_now : List ℕ) (us vs : List (Option UnitClause)) (e : Stored) (t : ClauseStatus) (c : List ℕ) → c ≡ e.lits →
    t ≡ status_of (true_lits us) c → looked ids us c ≡ (ids_now, unlisted_lits vs) → KeepsStored us vs → true_lits vs ≡ true_lits us →
    IsLooked ids ids_now us vs e t
is_looked ids ids_now us vs e t c is status listed kept same = record { status = cc; listed = cc; kept = kept; same = same }

pub lists-falsified : (ids ids_now ids_last : List ℕ) (us vs : List (Option UnitClause)) (e : Stored) →
    IsLooked ids ids_now us vs e statuses.Falsified → ids_last ≡ ids_now ++ e.id ∷ [] → (rest : List Stored) →
    ids_after ids us (e ∷ rest) ≡ Some ids_last
unfolding with_ids
lists-falsified ids ids_now ids_last us vs e h last rest =
    cc (by_status ids us e rest statuses.Falsified h.status, named-last ids ids_now (look us e.lits).items (stored_item e) (ap (λ p. p.0) h.listed))

pub lists-idle : (ids ids_now : List ℕ) (us vs : List (Option UnitClause)) (e : Stored) → IsLooked ids ids_now us vs e statuses.Idle →
    (rest : List Stored) → ids_after ids us (e ∷ rest) ≡ ids_after ids_now vs rest
unfolding with_ids
lists-idle ids ids_now us vs e h rest =
    let v = look us e.lits in let goes = goes_on us vs (true_lits us) v.unlisted rest h.kept h.same (sym (ap (λ p. p.1) h.listed)) in
    let first = with_ids-prepend ids v.items (trace (stored_units us) (true_lits us) v.unlisted rest) in
    rw (by_status ids us e rest statuses.Idle h.status, first, ap (λ p. p.0) h.listed, goes) refl

-- a free literal that is made true is no stored unit's
unlisted_lits-free : (us : List (Option UnitClause)) (m : ℕ) (w : UnitClause) → var_of m < length us → number_of w.id ≡ None →
    true_lits us m ≡ false → true_lits us (negate m) ≡ false → unlisted_lits (set us (var_of m) (Some w)) ≡ unlisted_lits us
unlisted_lits-free us m w known new free n = fun_ext (λ k. grind (arith, nat_tests, negation_is m k, unlisted_lits-set us (var_of m) k w known new))

pub lists-unit : (ids ids_now ids_last : List ℕ) (us vs ws : List (Option UnitClause)) (e : Stored) (m : ℕ) (w : UnitClause) →
    AreKnown vs e.lits → IsLooked ids ids_now us vs e (statuses.Unit m) → ids_last ≡ ids_now ++ e.id ∷ []
    → number_of w.id ≡ None → true_lits ws ≡ add_lit m (true_lits us) → ws ≡ set vs (var_of m) (Some w) → (rest : List Stored) → ids_after ids us (e ∷ rest) ≡ ids_after ids_last ws rest
unfolding with_ids
lists-unit ids ids_now ids_last us vs ws e m w known h last new added written rest =
    let v = look us e.lits in
    let free = is_unit (true_lits us) e.lits m (sym h.status) in
    let less = known-has e.lits m (length vs) known free.member in
    let unlisted : unlisted_lits ws ≡ v.unlisted =
    ap unlisted_lits written ∙ unlisted_lits-free vs m w less new (ap (λ s. s m) h.same ∙ free.not_true)
    (ap (λ s. s (negate m)) h.same ∙ free.not_false) ∙ sym (ap (λ p. p.1) h.listed) in
    let keeps : KeepsStored us ws = keeps-then us vs ws h.kept (subst (KeepsStored vs) (cc) (keeps-set vs (var_of m) w less new)) in
    rw (
      by_status ids us e rest (statuses.Unit m) h.status,
      with_ids-prepend ids (v.items ++ stored_item e ∷ [])
          (trace (stored_units us) (add_lit m (true_lits us)) v.unlisted rest),
      named-last ids ids_now v.items (stored_item e) (ap (λ p. p.0) h.listed),
      ← last,
      goes_on us ws (add_lit m (true_lits us)) v.unlisted rest keeps added unlisted,
    ) refl

-- the trace of the walk from the values with the negated clause
pub open_trace-is : (ids t : List ℕ) (us vs : List (Option UnitClause)) (c : List ℕ) (es : List Stored) → ids ≡ [] → KeepsStored us vs →
    true_lits vs ≡ start_set (stored_units us) c → unlisted_lits vs ≡ unlisted_at (stored_units us) c → ids_after ids vs es ≡ Some t →
    t ≡ ids_of (open_trace (stored_units us) c es)
open_trace-is ids t us vs c es none kept start unlisted h =
    grind (arith, goes_on us vs (start_set (stored_units us) c) (unlisted_at (stored_units us) c) es kept start unlisted, ap (λ xs. ids_after xs vs es) none)

-- where no literal is true already, a check lists what the walk lists
pub opens-walked : (ids : List ℕ) (us vs : List (Option UnitClause)) (c : List ℕ) → ids ≡ [] → None ≡ true_unit_id (stored_units us) c → KeepsStored us vs →
    true_lits vs ≡ start_set (stored_units us) c → unlisted_lits vs ≡ unlisted_at (stored_units us) c → Opens ids_after ids vs (clause_trace (stored_units us) c) false
opens-walked ids us vs c none found kept start unlisted = λ cs last e.
    let free : some_true_unit (stored_units us) c ≡ false = grind arith in
    rw free (open_trace-is ids last us vs c cs none kept start unlisted e)
