-- An assignment that fails a claim makes its selector true.
use Rattle.std.proofs.Common.{◌≡◌, ℕ, zero, suc, ◌*◌, ◌+◌, ◌-◌, Bool, true, false, cond, not, nat_lt, List, [], ◌∷◌, ◌++◌, refl, ap, sym, ◌∙◌, arith}
use Rattle.std.specs.List.{list_all}
use Rattle.std.proofs.lemmas.Bool.{and_parts, false_from_ne_true, or_parts, true≢false}
use Rattle.std.proofs.lemmas.List.Folds.{list_all-append}
use Rattle.sat_rules.specs.Clauses.{all_true, clause_true, is_negative, lit_true, var_of}
use Rattle.sat_rules.proofs.Chains.{lit_true-negate}
use Rattle.refutation_rules.specs.Follows.{Follows, FollowsIsAsked, FollowsIsShown, all_before, all_selectors, follow_clauses, selector_clauses, some_selector}

-- whether the clause at this place fails
abbrev fails : (ℕ → Bool) → List (List ℕ) → ℕ → Bool
fails a [] k = false
fails a (d ∷ ds) zero = not (clause_true a d)
fails a (d ∷ ds) (suc k) = fails a ds k

-- the variables before v as they are, and then what fails
selecting : ℕ → (ℕ → Bool) → (ℕ → Bool) → ℕ → Bool
selecting v a e x = cond (nat_lt x v) (a x) (e (x - v))

at_before : (v : ℕ) (a e : ℕ → Bool) (x : ℕ) → nat_lt x v ≡ true → selecting v a e x ≡ a x
unfolding selecting
at_before v a e x h = ap (λ q. cond q (a x) (e (x - v))) h

at_selector : (v : ℕ) (a e : ℕ → Bool) (k : ℕ) → selecting v a e (v + k) ≡ e k
unfolding selecting
at_selector v a e k = let q : v + k - v ≡ k = omega arith in rw q (grind arith)

positive : (b : ℕ → Bool) (v : ℕ) → lit_true b (2 * v) ≡ b v
positive b v = grind arith

before_lit : (v : ℕ) (a e : ℕ → Bool) (l : ℕ) → nat_lt (var_of l) v ≡ true → lit_true (selecting v a e) l ≡ lit_true a l
before_lit v a e l h = ap (λ q. cond (is_negative l) (not q) q) (at_before v a e (var_of l) h)

before_clause : (v : ℕ) (a e : ℕ → Bool) (c : List ℕ) → list_all (λ l. nat_lt (var_of l) v) c ≡ true → clause_true (selecting v a e) c ≡ clause_true a c
before_clause v a e [] h = refl
before_clause v a e (l ∷ ls) h = let q = and_parts (nat_lt (var_of l) v) (list_all (λ l. nat_lt (var_of l) v) ls) h in cc (before_lit v a e l q.0, before_clause v a e ls q.1)

before_all : (v : ℕ) (a e : ℕ → Bool) (cs : List (List ℕ)) → all_before v cs ≡ true → all_true (selecting v a e) cs ≡ all_true a cs
before_all v a e [] h = refl
before_all v a e (c ∷ cs) h = let q = and_parts (list_all (λ l. nat_lt (var_of l) v) c) (all_before v cs) h in cc (before_clause v a e c q.0, before_all v a e cs q.1)

unselected : (b : ℕ → Bool) (w : ℕ) (d : List ℕ) → b w ≡ false → all_true b (selector_clauses w d) ≡ true
unselected b w [] e = refl
unselected b w (l ∷ ls) e = grind (arith, positive b w, lit_true-negate b (2 * w), unselected b w ls e)

all_false : (b : ℕ → Bool) (w : ℕ) (d : List ℕ) → clause_true b d ≡ false → all_true b (selector_clauses w d) ≡ true
all_false b w [] h = refl
all_false b w (l ∷ ls) h = let q = or_parts (lit_true b l) (clause_true b ls) h in grind (arith, q.0, lit_true-negate b l, all_false b w ls q.1)

-- where the selector is true only if the clause fails, these clauses are true
clause_met : (no : Bool) (b : ℕ → Bool) (w : ℕ) (d : List ℕ) → b w ≡ no → no ≡ not (clause_true b d) → all_true b (selector_clauses w d) ≡ true
clause_met false b w d e h = unselected b w d e
clause_met true b w d e h = all_false b w d (grind (arith, h))

selectors_met : (v : ℕ) (a e : ℕ → Bool) (w : ℕ) (ds : List (List ℕ)) → all_before v ds ≡ true → ((k x : ℕ) → x ≡ w + k → selecting v a e x ≡ fails a ds k) → all_true (selecting v a e) (all_selectors w ds) ≡ true
selectors_met v a e w [] h p = refl
selectors_met v a e w (d ∷ ds) h p =
    let q = and_parts (list_all (λ l. nat_lt (var_of l) v) d) (all_before v ds) h in
    let now : selecting v a e w ≡ not (clause_true a d) = p 0 w (omega arith) in
    let one = clause_met (not (clause_true a d)) (selecting v a e) w d now (ap not (sym (before_clause v a e d q.0))) in
    grind (arith, list_all-append (clause_true (selecting v a e)) (selector_clauses w d) (all_selectors (suc w) ds), one, selectors_met v a e (suc w) ds q.1 (λ k x i. p (suc k) x (omega (arith, i))))

none_fails : (b a : ℕ → Bool) (w : ℕ) (ds : List (List ℕ)) → ((k x : ℕ) → x ≡ w + k → b x ≡ fails a ds k) → clause_true b (some_selector w ds) ≡ false → all_true a ds ≡ true
none_fails b a w [] p h = refl
none_fails b a w (d ∷ ds) p h =
    let q = or_parts (lit_true b (2 * w)) (clause_true b (some_selector (suc w) ds)) h in
    let now : b w ≡ not (clause_true a d) = p 0 w (omega arith) in
    grind (arith, now, positive b w, q.0, none_fails b a (suc w) ds (λ k x i. p (suc k) x (omega (arith, i))) q.1)

last_false : (b : ℕ → Bool) (xs ys : List (List ℕ)) (c : List ℕ) → all_true b (xs ++ (ys ++ c ∷ [])) ≡ false → all_true b xs ≡ true → all_true b ys ≡ true → clause_true b c ≡ false
last_false b xs ys c h x y = grind (arith, list_all-append (clause_true b) xs (ys ++ c ∷ []), list_all-append (clause_true b) ys (c ∷ []))

pub follows_is_shown : FollowsIsShown
follows_is_shown v cs ds hc hd refuted a h =
    let e = fails a ds in
    let b = selecting v a e in
    let third : (k x : ℕ) → x ≡ v + k → b x ≡ e k = λ k x q. ap b q ∙ at_selector v a e k in
    none_fails b a v ds third (last_false b cs (all_selectors v ds) (some_selector v ds) (refuted b) (before_all v a e cs hc ∙ h) (selectors_met v a e v ds hd third))

-- ---- and back: a selector that is true makes its clause fail

none_true : (b : ℕ → Bool) (w : ℕ) (d : List ℕ) → b w ≡ true → all_true b (selector_clauses w d) ≡ true → clause_true b d ≡ false
none_true b w [] e h = refl
none_true b w (l ∷ ls) e h = grind (arith, positive b w, lit_true-negate b (2 * w), lit_true-negate b l, none_true b w ls e)

some_true : (b : ℕ → Bool) (w : ℕ) (ds : List (List ℕ)) → all_true b (all_selectors w ds) ≡ true → all_true b ds ≡ true → clause_true b (some_selector w ds) ≡ false
some_true b w [] s h = refl
some_true b w (d ∷ ds) s h =
    grind (arith, positive b w, none_true b w d, list_all-append (clause_true b) (selector_clauses w d) (all_selectors (suc w) ds), some_true b (suc w) ds)

asked_false : (b : ℕ → Bool) (x : ℕ) (cs ds : List (List ℕ)) → Follows cs ds → all_true b (follow_clauses x cs ds) ≡ true → true ≡ false
asked_false b x cs ds follows h =
    let parts = list_all-append (clause_true b) cs (all_selectors x ds ++ some_selector x ds ∷ []) in
    let rest = list_all-append (clause_true b) (all_selectors x ds) (some_selector x ds ∷ []) in
    grind (arith, parts, rest, follows b, some_true b x ds)

pub follows_is_asked : FollowsIsAsked
follows_is_asked x cs ds follows b = false_from_ne_true (all_true b (follow_clauses x cs ds)) (λ h. true≢false (asked_false b x cs ds follows h))
