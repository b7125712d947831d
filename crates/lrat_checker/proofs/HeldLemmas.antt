-- The table of a checker's clauses, where the literals are counted and where they are not.
use Rattle.std.proofs.Common.{◌≡◌, ℕ, ◌+◌, ◌-◌, ◌<◌, ◌≤◌, Bool, true, false, cond, eqb, List, Option, Some, None, refl}
use Rattle.std.proofs.Common.{true≢false}
use Rattle.std.proofs.lemmas.Bool.{false≢true}
use Rattle.lrat_rules.specs.Counts.{count_in, count_of}
use Rattle.lrat_rules.specs.Tables.{drop_one, put}
use Rattle.lrat_checker.specs.Counts.{lit_count}
use Rattle.lrat_checker.specs.Held.{table_by}
use Rattle.lrat_checker.specs.Uses.{uses_below}
use Rattle.lrat_checker.specs.declared.counts.LitCounts.{LitCounts}
use Rattle.lrat_checker.proofs.TableLemmas.{table_ext}
use Rattle.lrat_checker.proofs.UseLemmas.{uses_dropped, uses_put}

module _ (f g : ℕ → Option (List ℕ)) (i : ℕ) (old new : LitCounts) where
  -- one more clause
  module _ (c : List ℕ) (change : (k : ℕ) → g k ≡ cond (eqb k i) (Some c) (f k)) (n m : ℕ) where
    put_counted : (b : Bool) → b ≡ true → ((l : ℕ) → lit_count new l ≡ count_of l c + lit_count old l) → table_by g m new b ≡ put i c (table_by f n old true)
    put_counted true e counts = table_ext g (λ k. cond (eqb k i) (Some c) (f k)) (λ l. lit_count new l) (λ l. count_of l c + lit_count old l) change counts
    put_counted false e counts = absurd (false≢true e)

    put_uncounted : (b : Bool) → b ≡ false → f i ≡ None → ((k : ℕ) → n ≤ k → f k ≡ None) → n ≤ m → i < m → table_by g m new b ≡ put i c (table_by f n old false)
    put_uncounted false e free within w v =
        table_ext g (λ k. cond (eqb k i) (Some c) (f k)) (λ l. uses_below g m l) (λ l. count_of l c + uses_below f n l) change (λ l. uses_put f g c i n m l change free within w v)
    put_uncounted true e free within w v = absurd (true≢false e)

    pub put_either : (b e : Bool) → e ≡ b → (b ≡ true → (l : ℕ) → lit_count new l ≡ count_of l c + lit_count old l) → (b ≡ false → (n ≤ m) × (i < m)) → f i ≡ None →
        (b ≡ false → (k : ℕ) → n ≤ k → f k ≡ None) → table_by g m new e ≡ put i c (table_by f n old b)
    put_either true e same counts more free within = put_counted e same (counts refl)
    put_either false e same counts more free within = put_uncounted e same free (within refl) (more refl).0 (more refl).1

  -- without a clause
  module _ (change : (k : ℕ) → g k ≡ cond (eqb k i) None (f k)) (n : ℕ) where
    drop_counted : (b : Bool) → b ≡ true → ((l : ℕ) → lit_count new l ≡ lit_count old l - count_in l (f i)) → table_by g n new b ≡ drop_one i (table_by f n old true)
    drop_counted true e counts = table_ext g (λ k. cond (eqb k i) None (f k)) (λ l. lit_count new l) (λ l. lit_count old l - count_in l (f i)) change counts
    drop_counted false e counts = absurd (false≢true e)

    drop_uncounted : (b : Bool) → b ≡ false → ((k : ℕ) → n ≤ k → f k ≡ None) → table_by g n new b ≡ drop_one i (table_by f n old false)
    drop_uncounted false e within =
        table_ext g (λ k. cond (eqb k i) None (f k)) (λ l. uses_below g n l) (λ l. uses_below f n l - count_in l (f i)) change (λ l. uses_dropped f g i n l change within)
    drop_uncounted true e within = absurd (true≢false e)

    pub drop_either : (b e : Bool) → e ≡ b → (b ≡ true → (l : ℕ) → lit_count new l ≡ lit_count old l - count_in l (f i)) → (b ≡ false → (k : ℕ) → n ≤ k → f k ≡ None) →
        table_by g n new e ≡ drop_one i (table_by f n old b)
    drop_either true e same counts within = drop_counted e same (counts refl)
    drop_either false e same counts within = drop_uncounted e same (within refl)

-- what is counted
pub count_kept : (f : ℕ → Option (List ℕ)) (n : ℕ) (counts : LitCounts) (b : Bool) (l : ℕ) → b ≡ true → lit_count counts l ≡ (table_by f n counts b).counts l
count_kept f n counts true l e = refl
count_kept f n counts false l e = absurd (false≢true e)
