-- An assignment that meets a round and picks it satisfies the formula.
use Rattle.std.proofs.Common.{◌≡◌, ℕ, zero, suc, ◌+◌, ◌<◌, Bool, true, false, not, List, [], ◌∷◌, ◌++◌, refl, ap, ◌∙◌, arith, ◌⊎◌}
use Rattle.std.proofs.lemmas.Bool.{false≢true}
use Rattle.std.proofs.lemmas.List.Folds.{list_all-append}
use Rattle.sat_rules.specs.Clauses.{all_true, clause_true, lit_true, negate}
use Rattle.sat_rules.proofs.Chains.{lit_true-negate}
use Rattle.refutation_rules.specs.Sessions.{lits_true}
use Rattle.refutation_rules.specs.Rounds.{Picks, Round, RoundsFail, encoded_from, guarded, meets, picked, picks}

neg_true : (b : ℕ → Bool) (m : ℕ) → lit_true b m ≡ false → lit_true b (negate m) ≡ true
neg_true b m h = lit_true-negate b m ∙ ap not h

guarded_on : (b : ℕ → Bool) (g : ℕ) (cs : List (List ℕ)) → all_true b cs ≡ true → all_true b (guarded g cs) ≡ true
guarded_on b g [] h = refl
guarded_on b g (c ∷ cs) h = grind (arith, guarded_on b g cs)

guarded_off : (b : ℕ → Bool) (g : ℕ) (cs : List (List ℕ)) → lit_true b (negate g) ≡ true → all_true b (guarded g cs) ≡ true
guarded_off b g [] h = refl
guarded_off b g (c ∷ cs) h = grind (arith, guarded_off b g cs)

picked_on : (b : ℕ → Bool) (p : ℕ) (k : List ℕ) → lits_true b k ≡ true → all_true b (picked p k) ≡ true
picked_on b p [] h = refl
picked_on b p (l ∷ ls) h = grind (arith, picked_on b p ls)

picked_off : (b : ℕ → Bool) (p : ℕ) (k : List ℕ) → lit_true b (negate p) ≡ true → all_true b (picked p k) ≡ true
picked_off b p [] h = refl
picked_off b p (l ∷ ls) h = grind (arith, picked_off b p ls)

-- the clauses of one round, and those of the rounds after it
joined : (b : ℕ → Bool) (g p : ℕ → ℕ) (r : ℕ) (x : Round) (xs : List Round) →
    (lit_true b (negate (p r)) ≡ true) ⊎ (lit_true b (g r) ≡ true) → (lit_true b (negate (g (suc r))) ≡ true) ⊎ (lit_true b (g r) ≡ true) →
    all_true b (guarded (g r) x.clauses) ≡ true → all_true b (picked (p r) x.core) ≡ true → all_true b (encoded_from g p (suc r) xs) ≡ true →
    all_true b (encoded_from g p r (x ∷ xs)) ≡ true
joined b g p r x xs h i j k l = grind (
  arith,
  list_all-append (clause_true b) (picked (p r) x.core) (encoded_from g p (suc r) xs),
  list_all-append (clause_true b) (guarded (g r) x.clauses) (picked (p r) x.core ++ encoded_from g p (suc r) xs),
)

-- the rounds after the picked one are switched off
after_it : (b : ℕ → Bool) (g p : ℕ → ℕ) (d : ℕ) → Picks g p d b → (r : ℕ) (xs : List Round) → d < r → all_true b (encoded_from g p r xs) ≡ true
after_it b g p d t r [] h = refl
after_it b g p d t r (x ∷ xs) h = grind (
  arith,
  t.others r,
  t.off r h,
  t.off (suc r),
  lit_true-negate b (p r),
  lit_true-negate b (g r),
  lit_true-negate b (g (suc r)),
  joined b g p r x xs,
  guarded_off b (g r) x.clauses,
  picked_off b (p r) x.core,
  after_it b g p d t (suc r) xs,
)

-- from round r on, the picked one being the e-th of those left
up_to : (b : ℕ → Bool) (g p : ℕ → ℕ) (d : ℕ) → Picks g p d b → (r e : ℕ) (xs : List Round) → r + e ≡ d → meets b e xs ≡ true →
    (clause_true b (picks p r xs) ≡ true) × (all_true b (encoded_from g p r xs) ≡ true)
up_to b g p d t r e [] h m = absurd (false≢true m)
up_to b g p d t r zero (x ∷ xs) h m = grind (arith, t.on r, t.one, joined b g p r x xs, guarded_on b (g r) x.clauses, picked_on b (p r) x.core, after_it b g p d t (suc r) xs)
up_to b g p d t r (suc e) (x ∷ xs) h m = grind (
  arith,
  t.on r,
  t.others r,
  lit_true-negate b (p r),
  joined b g p r x xs,
  guarded_on b (g r) x.clauses,
  picked_off b (p r) x.core,
  up_to b g p d t (suc r) e xs,
)

pub rounds_fail : RoundsFail
rounds_fail g p rs free refuted d a m =
    let f = free a d m in
    let u = up_to f.0 g p d f.2 0 d rs (omega arith) f.1 in
    grind (arith, refuted f.0, u)
