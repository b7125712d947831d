-- What follows from a clause, literal by literal, and steps of the walk.
use Rattle.std.proofs.Common.{◌≡◌, ℕ, zero, suc, [], arith, ◌+◌, ◌<◌, Bool, true, false, List, ◌∷◌, length, drop, get_or, Option, None, Some, refl, sym, ap, ◌∙◌, ◌≤◌}
use Rattle.std.proofs.Common.{not, set}
use Rattle.std.specs.List.{list_all, list_any}
use Rattle.std.specs.Option.{is_some}
use Rattle.std.proofs.lemmas.Bool.{false≢true}
use Rattle.std.proofs.lemmas.List.{drop_more}
use Rattle.std.proofs.lemmas.Bool.Decides.{nat_tests}
use Rattle.sat_rules.specs.Clauses.{negate, unfalsified, var_of, add_lit, has, is_negative}
use Rattle.checker_rules.specs.Canonical.{var_bound}
use Rattle.checker_rules.specs.Passes.{by_count, walk}
use Rattle.checker_rules.proofs.Walks.{unit_here}
use Rattle.clause_store.specs.declared.clauses.units.UnitClause.{UnitClause}
use Rattle.clause_store.specs.declared.rup.status.ClauseStatus.TheVariants as statuses
use Rattle.clause_store.specs.Rup.{status_of, true_lits}
use Rattle.clause_store.specs.Units.{lit_value, unit_at}
use Rattle.clause_store.proofs.UnitsLemmas.{true_lits-falsity, true_lits-truth, true_lits-set}

-- the literal at hand, before those that are left
pub drop-at : {A : Type 0} (xs : List A) (i : ℕ) (x : A) → i < length xs → x ≡ get_or xs i x → drop i xs ≡ x ∷ drop (i + 1) xs
drop-at xs i x h e = cc (drop_more xs i x h)

-- the variable of an element is below the bound of the list
pub below_bound : (xs : List ℕ) (i m : ℕ) → i < length xs → m ≡ get_or xs i m → var_of m < var_bound xs
below_bound [] i m lt e = absurd (omega arith)
below_bound (x ∷ xs) zero m lt e = let same : var_of m ≡ var_of x = cc in omega arith
below_bound (x ∷ xs) (suc i) m lt e = let up = below_bound xs i m (omega arith) e in omega arith

-- of false literals alone none is true, and none is left
none-left : (us : List (Option UnitClause)) (c : List ℕ) → list_all (λ k. true_lits us (negate k)) c ≡ true →
    (list_any (true_lits us) c ≡ false) × (unfalsified (true_lits us) c ≡ [])
none-left us [] h = (refl, refl)
none-left us (k ∷ c) h = grind (arith, true_lits-truth us k, true_lits-falsity us k, none-left us c)

-- a free literal, and after it one that is not false
some-left : (s : ℕ → Bool) (m : ℕ) (c : List ℕ) → list_all (λ l. s (negate l)) c ≡ false →
    by_count (m ∷ unfalsified s c) statuses.Falsified (λ l. statuses.Unit l) statuses.Idle ≡ statuses.Idle
some-left s m [] h = absurd cc
some-left s m (k ∷ c) h = grind (arith, some-left s m c)

-- a clause of a literal that is not false, and others, where that literal is true
pub status_of-satisfied : (us : List (Option UnitClause)) (m : ℕ) (c : List ℕ) → true_lits us (negate m) ≡ false → is_some (lit_value us m) ≡ true →
    status_of (true_lits us) (m ∷ c) ≡ statuses.Idle
status_of-satisfied us m c n h = grind (arith, true_lits-truth us m, true_lits-falsity us m)

-- or where it is free
pub status_of-unit : (us : List (Option UnitClause)) (m : ℕ) (c : List ℕ) → is_some (lit_value us m) ≡ false → list_all (λ l. true_lits us (negate l)) c ≡ true →
    status_of (true_lits us) (m ∷ c) ≡ statuses.Unit m
status_of-unit us m c h all = grind (arith, true_lits-truth us m, true_lits-falsity us m, none-left us c all)

pub status_of-two : (us : List (Option UnitClause)) (m : ℕ) (c : List ℕ) → is_some (lit_value us m) ≡ false → list_all (λ l. true_lits us (negate l)) c ≡ false →
    status_of (true_lits us) (m ∷ c) ≡ statuses.Idle
status_of-two us m c h other = grind (arith, true_lits-truth us m, true_lits-falsity us m, some-left (true_lits us) m c other)

-- a literal of the list has a known variable
pub known-has : (c : List ℕ) (m n : ℕ) → var_bound c ≤ n → has m c ≡ true → var_of m < n
known-has [] m n h k = absurd (false≢true k)
known-has (l ∷ ls) m n h k = grind (arith, nat_tests, known-has ls m n)

-- no literal is true and one is free
pub record IsUnit (s : ℕ → Bool) (c : List ℕ) (m : ℕ) : Type 0 where
  pub none_true : list_any s c ≡ false
  pub one_free : unfalsified s c ≡ m ∷ []
  pub member : has m c ≡ true
  pub not_true : s m ≡ false
  pub not_false : s (negate m) ≡ false

pub is_unit : (s : ℕ → Bool) (c : List ℕ) (m : ℕ) → status_of s c ≡ statuses.Unit m → IsUnit s c m
is_unit s c m h =
    let none : list_any s c ≡ false = grind arith in let one : unfalsified s c ≡ m ∷ [] = grind arith in
    grind (arith, unit_here s c m none one)

pub unit-known : (us : List (Option UnitClause)) (c : List ℕ) (m n : ℕ) → var_bound c ≤ n → statuses.Unit m ≡ status_of (true_lits us) c → var_of m < n
unit-known us c m n known status = known-has c m n known (is_unit (true_lits us) c m (sym status)).member

-- the literal that alone is free is made true
pub unit-added : (us vs ws : List (Option UnitClause)) (c : List ℕ) (m : ℕ) (u : UnitClause) → var_bound c ≤ length vs →
    statuses.Unit m ≡ status_of (true_lits us) c → true_lits vs ≡ true_lits us → u.value ≡ not (is_negative m) →
    ws ≡ set vs (var_of m) (Some u) → true_lits ws ≡ add_lit m (true_lits us)
unit-added us vs ws c m u known status same v e =
    let free = is_unit (true_lits us) c m (sym status) in
    cc (true_lits-set vs m u (unit-known us c m (length vs) known status) v (ap (λ s. s (negate m)) same ∙ free.not_false))

pub unit-step : (us ws : List (Option UnitClause)) (c : List ℕ) (m : ℕ) → statuses.Unit m ≡ status_of (true_lits us) c →
    true_lits ws ≡ add_lit m (true_lits us) → walk (true_lits us) (c ∷ []) ≡ Some (true_lits ws)
unit-step us ws c m status e = let unit = is_unit (true_lits us) c m (sym status) in rw (unit.none_true, unit.one_free) (cc)

-- its variable has no value
pub unit-none : (us : List (Option UnitClause)) (c : List ℕ) (m : ℕ) → statuses.Unit m ≡ status_of (true_lits us) c → unit_at us (var_of m) ≡ None
unit-none us c m status =
    grind (arith, is_unit (true_lits us) c m (sym status), true_lits-truth us m, true_lits-falsity us m)
