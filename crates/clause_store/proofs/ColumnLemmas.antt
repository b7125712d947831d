-- Three columns as one list.
use Rattle.std.proofs.Common.{◌≡◌, ℕ, zero, suc, ◌<◌, List, [], ◌∷◌, ◌++◌, length, get_or, set, Bool, Option, None, Some, refl, sym, ap, subst, arith}
use Rattle.std.specs.Option.{option_map}
use Rattle.clause_store.specs.declared.clauses.units.Source.{Source}
use Rattle.clause_store.specs.declared.clauses.units.UnitClause.{UnitClause}
use Rattle.clause_store.specs.declared.clauses.units.UnitId.{UnitId}
use Rattle.clause_store.specs.declared.clauses.units.Value.{Value}
use Rattle.clause_store.specs.declared.clauses.units.Value.TheVariants as values
use Rattle.clause_store.specs.Units.{AreEven, id_by, known, unit_at, unit_by, units_by}

tails : (v : Value) (vs : List Value) (s : Source) (ss : List Source) (n : ℕ) (ns : List ℕ) → AreEven (v ∷ vs) (s ∷ ss) (n ∷ ns) → AreEven vs ss ns
tails v vs s ss n ns h = record { sources = omega arith; numbers = omega arith }

pub length-units_by : (vs : List Value) (ss : List Source) (ns : List ℕ) → AreEven vs ss ns → length (units_by vs ss ns) ≡ length vs
length-units_by [] ss ns h = refl
length-units_by (v ∷ vs) (s ∷ ss) (n ∷ ns) h = ap suc (length-units_by vs ss ns (tails v vs s ss n ns h))
length-units_by (v ∷ vs) ss ns h = absurd (omega arith)

pub known-unit_by : (v : Value) (id : UnitId) → option_map (λ (u : UnitClause). u.value) (unit_by v id) ≡ known v
known-unit_by v id = grind arith

pub value-units_by : (vs : List Value) (ss : List Source) (ns : List ℕ) (i : ℕ) → AreEven vs ss ns → known (get_or vs i values.Free) ≡ option_map (λ u. u.value) (unit_at (units_by vs ss ns) i)
value-units_by [] ss ns i h = refl
value-units_by (v ∷ vs) (s ∷ ss) (n ∷ ns) zero h = sym (known-unit_by v _)
value-units_by (v ∷ vs) (s ∷ ss) (n ∷ ns) (suc i) h = value-units_by vs ss ns i (tails v vs s ss n ns h)
value-units_by (v ∷ vs) ss ns i h = absurd (omega arith)

pub unit_at-units_by : (vs : List Value) (ss : List Source) (ns : List ℕ) (i : ℕ) (s : Source) (n : ℕ) → AreEven vs ss ns → i < length vs →
    s ≡ get_or ss i s → n ≡ get_or ns i n → unit_at (units_by vs ss ns) i ≡ unit_by (get_or vs i values.Free) (id_by s n)
unit_at-units_by (v ∷ vs) (t ∷ ss) (m ∷ ns) zero s n h less p q = cc
unit_at-units_by (v ∷ vs) (t ∷ ss) (m ∷ ns) (suc i) s n h less p q = unit_at-units_by vs ss ns i s n (tails v vs t ss m ns h) (omega arith) p q
unit_at-units_by vs ss ns i s n h less p q = absurd (omega arith)

-- one place is written
pub units_by-set : (vs : List Value) (ss : List Source) (ns : List ℕ) (i : ℕ) (v : Value) (s : Source) (n : ℕ) → AreEven vs ss ns →
    units_by (set vs i v) (set ss i s) (set ns i n) ≡ set (units_by vs ss ns) i (unit_by v (id_by s n))
units_by-set [] ss ns i v s n h = refl
units_by-set (w ∷ vs) (t ∷ ss) (m ∷ ns) zero v s n h = refl
units_by-set (w ∷ vs) (t ∷ ss) (m ∷ ns) (suc i) v s n h = cc (units_by-set vs ss ns i v s n (tails w vs t ss m ns h))
units_by-set (w ∷ vs) ss ns i v s n h = absurd (omega arith)

-- one value is dropped
pub units_by-free : (vs : List Value) (ss : List Source) (ns : List ℕ) (i : ℕ) → AreEven vs ss ns → units_by (set vs i values.Free) ss ns ≡ set (units_by vs ss ns) i None
units_by-free [] ss ns i h = refl
units_by-free (w ∷ vs) (t ∷ ss) (m ∷ ns) zero h = refl
units_by-free (w ∷ vs) (t ∷ ss) (m ∷ ns) (suc i) h = cc (units_by-free vs ss ns i (tails w vs t ss m ns h))
units_by-free (w ∷ vs) ss ns i h = absurd (omega arith)

pub units_by-push : (vs : List Value) (ss : List Source) (ns : List ℕ) (v : Value) (s : Source) (n : ℕ) → AreEven vs ss ns →
    units_by (vs ++ v ∷ []) (ss ++ s ∷ []) (ns ++ n ∷ []) ≡ units_by vs ss ns ++ unit_by v (id_by s n) ∷ []
units_by-push [] [] [] v s n h = refl
units_by-push (w ∷ vs) (t ∷ ss) (m ∷ ns) v s n h = cc (units_by-push vs ss ns v s n (tails w vs t ss m ns h))
units_by-push vs ss ns v s n h = absurd (omega arith)

-- a value of which only that is known which a bool says
pub unit_by-known : (v : Value) (b : Bool) (id : UnitId) → known v ≡ Some b → unit_by v id ≡ Some (record { id = id; value = b })
unit_by-known v b id h = grind arith

-- where a value is found, its place is in the list
pub in_range : (us : List (Option UnitClause)) (i : ℕ) (b : Bool) → option_map (λ (u : UnitClause). u.value) (unit_at us i) ≡ Some b → i < length us
in_range [] i b h = absurd (cc)
in_range (u ∷ us) zero b h = omega arith
in_range (u ∷ us) (suc i) b h = let more = in_range us i b h in omega arith

-- a place of the list is one of each column
pub record IsPlace (vs : List Value) (ss : List Source) (ns : List ℕ) (i : ℕ) : Type 0 where
  pub in_values : i < length vs
  pub in_sources : i < length ss
  pub in_numbers : i < length ns

pub is_place : (vs : List Value) (ss : List Source) (ns : List ℕ) (us : List (Option UnitClause)) (i : ℕ) → AreEven vs ss ns → units_by vs ss ns ≡ us → i < length us → IsPlace vs ss ns i
is_place vs ss ns us i h e less =
    let here : i < length vs = subst (λ k. i < k) (cc (length-units_by vs ss ns h)) less in
    record { in_values = here; in_sources = omega arith; in_numbers = omega arith }

-- a value is read with its id
pub unit-read : (vs : List Value) (ss : List Source) (ns : List ℕ) (us : List (Option UnitClause)) (i : ℕ) (b : Bool) (s : Source) (n : ℕ)
    (id : UnitId) → AreEven vs ss ns → units_by vs ss ns ≡ us → option_map (λ (u : UnitClause). u.value) (unit_at us i) ≡ Some b →
    s ≡ get_or ss i s → n ≡ get_or ns i n → id ≡ id_by s n → Some (record { id = id; value = b }) ≡ unit_at us i
unit-read vs ss ns us i b s n id h e v p q is =
    let place = is_place vs ss ns us i h e (in_range us i b v) in
    let found : known (get_or vs i values.Free) ≡ Some b = cc (value-units_by vs ss ns i h) in
    cc (unit_by-known (get_or vs i values.Free) b id found, unit_at-units_by vs ss ns i s n h place.in_values p q)

-- a value is written with its id
pub unit-write : (vs : List Value) (ss : List Source) (ns : List ℕ) (us : List (Option UnitClause)) (i : ℕ) (v : Value) (s : Source) (n : ℕ)
    (u : UnitClause) (o : Option UnitClause) → AreEven vs ss ns → units_by vs ss ns ≡ us → known v ≡ Some u.value → id_by s n ≡ u.id →
    o ≡ Some u → units_by (set vs i v) (set ss i s) (set ns i n) ≡ set us i o
unit-write vs ss ns us i v s n u o h e k id is =
    cc (units_by-set vs ss ns i v s n h, unit_by-known v u.value u.id k)

-- a value is written, and the id stays that is there
pub units_by-given : (vs : List Value) (ss : List Source) (ns : List ℕ) (i : ℕ) (v : Value) (b : Bool) → AreEven vs ss ns → i < length vs →
    known v ≡ Some b → (u : UnitClause) × (u.value ≡ b) × (units_by (set vs i v) ss ns ≡ set (units_by vs ss ns) i (Some u))
units_by-given (w ∷ vs) (t ∷ ss) (m ∷ ns) zero v b h less k = (record { id = id_by t m; value = b }, refl, cc (unit_by-known v b (id_by t m) k))
units_by-given (w ∷ vs) (t ∷ ss) (m ∷ ns) (suc i) v b h less k =
    let g = units_by-given vs ss ns i v b (tails w vs t ss m ns h) (omega arith) k in (g.0, g.1, cc)
units_by-given vs ss ns i v b h less k = absurd (omega arith)
