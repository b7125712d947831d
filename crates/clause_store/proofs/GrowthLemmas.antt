-- Variables made known.
use Rattle.std.proofs.Common.{◌≤◌, ◌≡◌, ℕ, zero, suc, ◌+◌, ◌-◌, ◌*◌, true, List, ◌++◌, length, map, replicate, Option, None, refl, sym, subst, arith, length-append}
use Rattle.std.specs.List.{list_all}
use Rattle.std.specs.Option.{option_map}
use Rattle.std.proofs.lemmas.Grind.{common_steps}
use Rattle.std.proofs.lemmas.List.{append-nil, length-map, length-replicate, map-append}
use Rattle.std.proofs.lemmas.List.Folds.{list_all-append}
use Rattle.checker_rules.specs.KnownVars.{new_known}
use Rattle.checker_rules.specs.State.{Known}
use Rattle.clause_store.specs.declared.clauses.Clauses.{Clauses}
use Rattle.clause_store.specs.declared.clauses.units.UnitClause.{UnitClause}
use Rattle.clause_store.specs.declared.hash.ClauseHasher.{ClauseHasher}
use Rattle.clause_store.specs.Counts.{AreCounts}
use Rattle.clause_store.specs.Growth.{KnowsVars}
use Rattle.clause_store.specs.Store.{IsStore, is_stored_unit}
use Rattle.clause_store.specs.View.{stored_list}
use Rattle.clause_store.specs.StateOf.{stored_unit, stored_units}
use Rattle.clause_store.proofs.HeldLemmas.{counts-known}

map-free : (n : ℕ) → map (option_map stored_unit) (replicate n None) ≡ replicate n None
map-free zero = refl
map-free (suc n) = cc (map-free n)

grown-units : (us : List (Option UnitClause)) (count : ℕ) → stored_units (us ++ replicate (count - length us) None) ≡ stored_units us ++ replicate (count - length (stored_units us)) None
grown-units us count =
    let n = count - length us in cc (map-append (option_map stored_unit) us (replicate n None), map-free n, length-map us (option_map stored_unit))

pub knows_vars : (count : ℕ) (cs : Clauses) (known : List Known) (us : List (Option UnitClause)) (counts : List ℕ) (known' : List Known) → length cs.unit_clauses ≡ length known
    → us ≡ cs.unit_clauses ++ replicate (count - length cs.unit_clauses) None →
    counts ≡ cs.lit_counts ++ replicate (2 * count - length cs.lit_counts) 0 → known' ≡ known ++ replicate (count - length known) new_known
    → KnowsVars count cs known (record cs { unit_clauses = us; lit_counts = counts }) known'
knows_vars count cs known us counts known' same grown counted more = record {
  state = λ st h. rw (grown, more) (cc (grown-units cs.unit_clauses count));
  others = refl;
  units = grown;
  counts = counted;
  names = more;
  same = rw (grown, more) (grind (arith, common_steps, same));
  enough = rw grown (grind (arith, common_steps));
}

-- where they are known already
none-more : {A : Type 0} (x : A) (xs : List A) (n : ℕ) → n ≡ 0 → xs ≡ xs ++ replicate n x
none-more x xs n none = cc (append-nil xs)

pub knows_none : (count : ℕ) (cs : Clauses) (known : List Known) → length cs.unit_clauses ≡ length known → length cs.lit_counts ≡ 2 * length cs.unit_clauses →
    count ≤ length cs.unit_clauses → KnowsVars count cs known cs known
knows_none count cs known same counted enough =
    knows_vars _ cs _ _ _ _ same (none-more None cs.unit_clauses _ (omega arith))
    (none-more 0 cs.lit_counts _ (omega arith)) (none-more new_known known _ (omega arith))

all-free : (n : ℕ) → list_all is_stored_unit (replicate n None) ≡ true
all-free zero = refl
all-free (suc n) = all-free n

all-more : (us : List (Option UnitClause)) (n : ℕ) → list_all is_stored_unit us ≡ true → list_all is_stored_unit (us ++ replicate n None) ≡ true
all-more us n h = grind (arith, list_all-append is_stored_unit us (replicate n None), all-free n)

in_order : (h : ClauseHasher) (cs : Clauses) (us : List (Option UnitClause)) (counts : List ℕ) → IsStore h cs →
    list_all is_stored_unit us ≡ true → AreCounts counts (length us) (stored_list cs) →
    IsStore h (record cs { unit_clauses = us; lit_counts = counts })
in_order h cs us counts k all counted =
    assumption

-- variables made known leave the store in order
pub is_store-known : (count : ℕ) (h : ClauseHasher) (cs cs' : Clauses) (known known' : List Known) → KnowsVars count cs known cs' known' → IsStore h cs → IsStore h cs'
is_store-known count h cs cs' known known' grown k =
    let all = subst (λ (us : List (Option UnitClause)). list_all is_stored_unit us ≡ true) (sym grown.units) (all-more cs.unit_clauses (count - length cs.unit_clauses) k.units) in
    let long : length cs'.unit_clauses ≡ length cs.unit_clauses + (count - length cs.unit_clauses) = rw grown.units (simp (length-append, length-replicate)) in
    subst (IsStore h) (sym grown.others) (in_order h cs cs'.unit_clauses cs'.lit_counts k all
    (counts-known cs.lit_counts cs'.lit_counts (length cs.unit_clauses) (length cs'.unit_clauses) count
    (stored_list cs) k.counts grown.counts long))

-- this many names are known
pub names-enough : (count : ℕ) (cs cs' : Clauses) (known known' : List Known) → KnowsVars count cs known cs' known' → count ≤ length known'
names-enough count cs cs' known known' grown = rw grown.names (grind (arith, common_steps))
