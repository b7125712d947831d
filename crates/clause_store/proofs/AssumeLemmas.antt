-- Taking the literals of a clause as false, and putting values back.
use Rattle.std.proofs.Common.{◌≡◌, ℕ, zero, suc, ◌<◌, List, [], ◌∷◌, ◌++◌, Option, None, length, get_or, set, set-set, length-set, refl, arith, ◌+◌, ◌≤◌, Bool, true}
use Rattle.std.proofs.Common.{false, not, ◌&&◌, ◌||◌, eqb, take, Some, sym, ap, ◌∙◌, subst}
use Rattle.std.proofs.lemmas.Grind.{common_steps}
use Rattle.std.proofs.lemmas.List.{set-get_or, set_comm, take_all, take_more}
use Rattle.std.proofs.lemmas.List.Elements.{All-push}
use Rattle.std.specs.List.{list_any}
use Rattle.std.proofs.lemmas.Bool.{both_ways, eq-eqb, eqb-true, false_from_ne_true, false≢true, or_from, true_from_ne_false}
use Rattle.std.proofs.lemmas.List.Folds.{list_any-append, list_any_at, list_any_more}
use Rattle.std.proofs.lemmas.Bool.Decides.{nat_tests}
use Rattle.std.proofs.Math.Path.{fun_ext}
use Rattle.sat_rules.specs.Clauses.{var_of, has, is_negative, is_tautology, negate}
use Rattle.sat_rules.specs.Named.{negated_set}
use Rattle.sat_rules.proofs.Chains.{negate-negate}
use Rattle.sat_rules.proofs.Members.{any_at, any_from}
use Rattle.checker_rules.specs.Canonical.{var_bound}
use Rattle.checker_rules.specs.DeleteVar.{holds_var}
use Rattle.checker_rules.specs.Hints.{unlisted_at}
use Rattle.checker_rules.specs.State.{StoredUnit, lit_by_unit, some_true_unit, start_set}
use Rattle.checker_rules.proofs.Models.{negative_negate}
use Rattle.checker_rules.proofs.Traces.{var-negate}
use Rattle.clause_store.specs.declared.clauses.units.UnitClause.{UnitClause}
use Rattle.clause_store.specs.Trail.{IsTrailFor, IsUndoable, freed, undone}
use Rattle.clause_store.specs.Units.{unit_at, lit_value, number_of}
use Rattle.clause_store.specs.Rup.{true_lits}
use Rattle.clause_store.specs.StateOf.{stored_units}
use Rattle.clause_store.specs.Trace.{AreStored, unlisted_lits}
use Rattle.clause_store.proofs.TraceLemmas.{unlisted_lits-at_rest, unlisted_lits-set}
use Rattle.clause_store.proofs.UnitsLemmas.{true_lits-falsity, true_lits-set, true_lits-truth, truth}

-- the newest value is put back first
pub undone-push : (us : List (Option UnitClause)) (ts : List (ℕ × Option UnitClause)) (t : ℕ × Option UnitClause) → undone us (ts ++ t ∷ []) ≡ undone (set us (var_of t.0) t.1) ts
undone-push us [] t = refl
undone-push us (x ∷ ts) t = cc (undone-push us ts t)

-- one value is put back
pub undone-step : (us vs : List (Option UnitClause)) (ts rest : List (ℕ × Option UnitClause)) (t : ℕ × Option UnitClause) (i : ℕ) →
    ts ≡ rest ++ t ∷ [] → i ≡ var_of t.0 → undone us ts ≡ vs → undone (set us i t.1) rest ≡ vs
undone-step us vs ts rest t i e at same = cc (undone-push us rest t)

-- the rest of a trail is for the same variables
pub trail-rest : (us : List (Option UnitClause)) (ts rest : List (ℕ × Option UnitClause)) (t : ℕ × Option UnitClause) (i : ℕ)
    (u : Option UnitClause) → ts ≡ rest ++ t ∷ [] → IsTrailFor us ts → IsTrailFor (set us i u) rest
trail-rest us ts rest t i u e known k d h = grind (arith, common_steps, known k d)

-- a value is overwritten and kept
pub is_undoable-overwritten : (us vs : List (Option UnitClause)) (ts now : List (ℕ × Option UnitClause)) (m i : ℕ)
    (old new : Option UnitClause) → i ≡ var_of m → old ≡ unit_at us i → now ≡ ts ++ (m, old) ∷ [] → vs ≡ set us i new →
    var_of m < length us → IsTrailFor us ts → IsUndoable us ts vs now
is_undoable-overwritten us vs ts now m i old new at is e written less known = rw (written, e) (record {
  known = length-set us i new;
  undone = cc (undone-push (set us i new) ts (m, old), set-set us i new old, set-get_or us i None);
  trail = rw length-set (All-push (λ t. var_of t.0 < length us) ts (m, old) known less);
})

-- one change after another
pub is_undoable_then : (us vs ws : List (Option UnitClause)) (ts now last : List (ℕ × Option UnitClause)) → IsUndoable us ts vs now → IsUndoable vs now ws last → IsUndoable us ts ws last
is_undoable_then us vs ws ts now last h k = record { known = cc; undone = cc; trail = k.trail }

pub freed-push : (ms : List ℕ) (m : ℕ) → freed (ms ++ m ∷ []) ≡ freed ms ++ (m, None) ∷ []
freed-push [] m = refl
freed-push (k ∷ ms) m = cc (freed-push ms m)

pub freed-length : (ms : List ℕ) → length (freed ms) ≡ length ms
freed-length [] = refl
freed-length (m ∷ ms) = cc (freed-length ms)

-- a variable of the trail is known
pub freed-known : (us : List (Option UnitClause)) (ms : List ℕ) (i m : ℕ) → IsTrailFor us (freed ms) → i < length ms → m ≡ get_or ms i m → var_of m < length us
freed-known us [] i m known less is = absurd (omega arith)
freed-known us (k ∷ ks) zero m known less is = rw is (known 0 (k, None) (omega arith))
freed-known us (k ∷ ks) (suc i) m known less is = freed-known us ks i m (λ j d h. known (suc j) d (omega arith)) (omega arith) is

-- a variable is freed before the others as well as after them
pub freed-first : (us : List (Option UnitClause)) (m : ℕ) (ms : List ℕ) → undone (set us (var_of m) None) (freed ms) ≡ undone us (freed (m ∷ ms))
freed-first us m [] = refl
freed-first us m (k ∷ ks) = grind (arith, freed-first us m ks, set_comm (undone us (freed ks)) (var_of m) (var_of k) None None)

-- a literal of the list has a known variable
pub known-at : (c : List ℕ) (i m n : ℕ) → var_bound c ≤ n → i < length c → m ≡ get_or c i m → var_of m < n
known-at [] i m n h less is = absurd (omega arith)
known-at (l ∷ ls) zero m n h less is = rw is (omega arith)
known-at (l ∷ ls) (suc i) m n h less is = known-at ls i m n (omega arith) (omega arith) is

-- no element passes where none does
pub none-at : (p : ℕ → Bool) (c : List ℕ) (i m : ℕ) → i < length c → m ≡ get_or c i m → list_any p c ≡ false → p m ≡ false
none-at p c i m less is h = false_from_ne_true (p m) (λ e. both_ways _ h (list_any_at p c i m less (cc)))

has-take : (c : List ℕ) (i l : ℕ) → has l (take i c) ≡ true → has l c ≡ true
has-take [] i l h = subst (λ xs. has l xs ≡ true) (take_all i [] (omega arith)) h
has-take (m ∷ ms) zero l h = absurd (false≢true h)
has-take (m ∷ ms) (suc i) l h = grind (arith, has-take ms i l)

-- a literal that is to be taken as false is not true by the earlier ones
pub start_set-free : (us : List (Option StoredUnit)) (c : List ℕ) (i m : ℕ) → i < length c → m ≡ get_or c i m → some_true_unit us c ≡ false → is_tautology c ≡ false → start_set us (take i c) m ≡ false
start_set-free us c i m less is free apart =
    or_from _ _ (none-at (lit_by_unit us) c i m less is free) (false_from_ne_true (negated_set (take i c) m) (λ e.
    let k = any_at (λ l. eqb m (negate l)) (take i c) e in
    let here : has m c ≡ true = list_any_at (eqb m) c i m less (cc (eq-eqb m m refl)) in
    both_ways (is_tautology c) apart (any_from (λ l. has (negate l) c) c k.0 (has-take c i k.0 k.1) (cc (eqb-true m (negate k.0) k.2)))))

or_last : (x a b : Bool) → (x || (a || b)) ≡ (a || (b || (x || false)))
or_last x a b = grind arith

-- one literal more is taken as false
pub assume-step : (us vs : List (Option UnitClause)) (ss : List (Option StoredUnit)) (c : List ℕ) (i m : ℕ) (u : UnitClause) →
    i < length c → m ≡ get_or c i m → var_of m < length us → u.value ≡ is_negative m
    → vs ≡ set us (var_of m) (Some u) → true_lits us m ≡ false →
    ((k : ℕ) → true_lits us k ≡ start_set ss (take i c) k) → (k : ℕ) → true_lits vs k ≡ start_set ss (take (i + 1) c) k
assume-step us vs ss c i m u less is known v e off same k =
    let added = true_lits-set us (negate m) u (rw var-negate known) (grind (arith, negative_negate m)) (cc (negate-negate m)) in
    let p : ℕ → Bool = λ l. eqb k (negate l) in let cut : take (i + 1) c ≡ take i c ++ m ∷ [] = cc (take_more c i m less) in
    cc (ap (λ s. s k) added, var-negate m, same k, or_last (p m) (lit_by_unit ss k) (list_any p (take i c)), list_any-append p (take i c) (m ∷ []))

pub assume-all : (ss : List (Option StoredUnit)) (vs : List (Option UnitClause)) (c : List ℕ) (i : ℕ) → length c ≤ i →
    ((k : ℕ) → true_lits vs k ≡ start_set ss (take i c) k) → true_lits vs ≡ start_set ss c
assume-all ss vs c i over h = fun_ext (λ k. cc (h k, take_all i c over))

-- the stored units of variables that are not in the clause stay unlisted
pub unlisted-step : (us vs ws : List (Option UnitClause)) (c : List ℕ) (i m : ℕ) (u : UnitClause) → i < length c → m ≡ get_or c i m →
    var_of m < length us → number_of u.id ≡ None → vs ≡ set us (var_of m) (Some u)
    → ((k : ℕ) → unlisted_lits us k ≡ (unlisted_lits ws k && not (holds_var (var_of k) (take i c)))) → (k : ℕ) →
    unlisted_lits vs k ≡ (unlisted_lits ws k && not (holds_var (var_of k) (take (i + 1) c)))
unlisted-step us vs ws c i m u less is known new e same k =
    let p : ℕ → Bool = λ l. eqb (var_of l) (var_of k) in
    let cut : take (i + 1) c ≡ take i c ++ m ∷ [] = cc (take_more c i m less) in
    cc (unlisted_lits-set us (var_of m) k u known new, same k, eqb_comm (var_of k) (var_of m), move (unlisted_lits ws k) (list_any p (take i c)) (p m), list_any-append p (take i c) (m ∷ []))
  where
    eqb_comm : (a b : ℕ) → eqb a b ≡ eqb b a
    eqb_comm a b = grind (arith, nat_tests)

    move : (g a b : Bool) → ((g && not a) && not b) ≡ (g && not (a || (b || false)))
    move g a b = grind arith

pub unlisted-all : (us vs : List (Option UnitClause)) (c : List ℕ) (i : ℕ) → AreStored us → length c ≤ i →
    ((k : ℕ) → unlisted_lits vs k ≡ (unlisted_lits us k && not (holds_var (var_of k) (take i c)))) →
    unlisted_lits vs ≡ unlisted_at (stored_units us) c
unlisted-all us vs c i stored over h = fun_ext (λ k. cc (h k, take_all i c over, unlisted_lits-at_rest us k stored))

-- a literal that is false already
pub assume-skip : (vs : List (Option UnitClause)) (ss : List (Option StoredUnit)) (c : List ℕ) (i m : ℕ) → i < length c → m ≡ get_or c i m → lit_value vs m ≡ Some false
    → ((k : ℕ) → true_lits vs k ≡ start_set ss (take i c) k) → (k : ℕ) → true_lits vs k ≡ start_set ss (take (i + 1) c) k
assume-skip vs ss c i m less is v same k =
    let turned : true_lits vs (negate m) ≡ true = cc (true_lits-falsity vs m) in
    grind (arith, nat_tests, turned, same k, take_more c i m less, list_any-append (λ l. eqb k (negate l)) (take i c) (m ∷ []))

-- a literal that is true already is true by a stored unit
pub assume-met : (vs : List (Option UnitClause)) (ss : List (Option StoredUnit)) (c : List ℕ) (i m : ℕ) → i < length c → m ≡ get_or c i m → lit_value vs m ≡ Some true
    → is_tautology c ≡ false → ((k : ℕ) → true_lits vs k ≡ start_set ss (take i c) k) → true ≡ some_true_unit ss c
assume-met vs ss c i m less is v apart same =
    cc (true_from_ne_false (some_true_unit ss c) (λ none. both_ways (start_set ss (take i c) m) (start_set-free ss c i m less is none apart) (sym (same m) ∙ true_lits-truth vs m ∙ ap truth v)))

-- the literals before it are not true by stored units, nor is it
pub none_true-step : (vs : List (Option UnitClause)) (ss : List (Option StoredUnit)) (c : List ℕ) (i m : ℕ) → i < length c → m ≡ get_or c i m → true_lits vs m ≡ false
    → ((k : ℕ) → true_lits vs k ≡ start_set ss (take i c) k) → some_true_unit ss (take i c) ≡ false → some_true_unit ss (take (i + 1) c) ≡ false
none_true-step vs ss c i m less is off same none =
    grind (arith, list_any_more (lit_by_unit ss) c i m less, same m)
