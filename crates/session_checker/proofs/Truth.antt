-- What is accepted is true: of lemmas, of cores and of models.
use Rattle.std.proofs.Common.{◌≡◌, ℕ, ◌+◌, ◌-◌, ◌*◌, ◌%◌, Bool, true, false, cond, not, ◌&&◌, eqb, List, [], ◌∷◌, filter, Option, Some, None, refl, sym, subst, ap, ◌∙◌, arith, inl, inr}
use Rattle.std.specs.List.{list_any, list_all}
use Rattle.std.proofs.lemmas.Bool.{and_parts, and_from, or_cases, eqb-true, eqb-false, false≢true, both_ways, not-true, cond_both, true_from_ne_false}
use Rattle.sat_rules.specs.Clauses.{Agrees, add_lit, all_true, clause_true, has, is_negative, is_tautology, lit_true, negate, unfalsified, var_of}
use Rattle.sat_rules.specs.Named.{negated_set}
use Rattle.sat_rules.proofs.Chains.{agrees_more, lit_true-negate}
use Rattle.sat_rules.proofs.HintLineFacts.{agrees_negated}
use Rattle.sat_rules.proofs.Members.{all_at, all_from, any_at, any_from, kept_from}
use Rattle.lrat_rules.specs.Causes.{not_unit}
use Rattle.lrat_rules.specs.Propagation.{Ending, by_left, conflict, is_conflict, on_named, propagate, stuck}
use Rattle.lrat_rules.proofs.Propagating.{Sound, sound_is_open}
use Rattle.refutation_rules.specs.Sessions.{Satisfies, all_in, lits_true}
use Rattle.session_checker.specs.Rules.{follows, is_core, is_model, listed, meets}

-- ---- propagation

abbrev TrueAt : (ℕ → Bool) → Option (List ℕ) → Type 0
TrueAt a None = Unit {0}
TrueAt a (Some c) = clause_true a c ≡ true

not_false : (s a : ℕ → Bool) (m : ℕ) → Agrees a s → lit_true a m ≡ true → not (s (negate m)) ≡ true
not_false s a m ag t = grind (arith, lit_true-negate a m, ag (negate m))

any_kept : (q p : ℕ → Bool) (c : List ℕ) (l : ℕ) → has l c ≡ true → p l ≡ true → q l ≡ true → list_any q (filter p c) ≡ true
any_kept q p c l h t y = any_from q (filter p c) l (kept_from p c l h t) y

left_true : (s a : ℕ → Bool) (c : List ℕ) → Agrees a s → clause_true a c ≡ true → clause_true a (unfalsified s c) ≡ true
left_true s a c ag t =
    let m = any_at (lit_true a) c t in
    any_kept (lit_true a) (λ m. not (s (negate m))) c m.0 m.1 (not_false s a m.0 ag m.2) m.2

one_true : (a : ℕ → Bool) (l : ℕ) (ls : List ℕ) → list_all (eqb l) ls ≡ true → clause_true a (l ∷ ls) ≡ true → lit_true a l ≡ true
one_true a l ls same t = elim (or_cases (lit_true a l) (clause_true a ls) t) [
  | inl now ↦ now
  | inr later ↦ let m = any_at (lit_true a) ls later in subst (λ x. lit_true a x ≡ true) (sym (eqb-true l m.0 (all_at (eqb l) ls m.0 same m.1))) m.2
]

left_sound : (s a : ℕ → Bool) (go : (ℕ → Bool) → Ending) → Agrees a s → ((r : ℕ → Bool) → Agrees a r → Sound a (go r)) → (u : List ℕ) →
    clause_true a u ≡ true → Sound a (by_left u conflict (λ l. go (add_lit l s)))
left_sound s a go ag k [] t = false≢true t
left_sound s a go ag k (l ∷ ls) t = cond_both (list_all (eqb l) ls) (go (add_lit l s)) (stuck not_unit) (Sound a) (λ e. k (add_lit l s) (agrees_more s a l ag (one_true a l ls e t))) (λ e. tt)

named_sound : (s a : ℕ → Bool) (go : (ℕ → Bool) → Ending) → Agrees a s → ((r : ℕ → Bool) → Agrees a r → Sound a (go r)) → (o : Option (List ℕ)) → TrueAt a o → Sound a (on_named o s go)
named_sound s a go ag k None t = tt
named_sound s a go ag k (Some c) t = left_sound s a go ag k (unfalsified s c) (left_true s a c ag t)

-- two opposite literals are not both true
not_opposite : (a : ℕ → Bool) (k : List ℕ) → is_tautology k ≡ true → lits_true a k ≡ true → ⊥
not_opposite a k t h =
    let p = any_at (λ l. has (negate l) k) k t in
    let one = all_at (lit_true a) k p.0 h p.1 in
    let other = all_at (lit_true a) k (negate p.0) h p.2 in
    false≢true (sym (lit_true-negate a p.0 ∙ ap not one) ∙ other)

-- an assignment that satisfies the clauses under ids
module _ (f : ℕ → Option (List ℕ)) (a : ℕ → Bool) (ok : (i : ℕ) (d : List ℕ) → f i ≡ Some d → clause_true a d ≡ true) where
  true_at : (i : ℕ) → TrueAt a (f i)
  true_at i = by (f i) refl
    where
      by : (o : Option (List ℕ)) → f i ≡ o → TrueAt a o
      by None e = tt
      by (Some d) e = ok i d e

  propagate_true : (s : ℕ → Bool) (is : List ℕ) → Agrees a s → Sound a (propagate f s is)
  propagate_true s [] ag = ag
  propagate_true s (i ∷ is) ag = named_sound s a (λ r. propagate f r is) ag (λ r g. propagate_true r is g) (f i) (true_at i)

  pub follows_true : (c ids : List ℕ) → follows f c ids ≡ true → clause_true a c ≡ true
  follows_true c ids h = true_from_ne_false (clause_true a c) (λ e. sound_is_open a (propagate f (negated_set c) ids) (propagate_true (negated_set c) ids (agrees_negated a c e)) h)

  agrees_listed : (k : List ℕ) → lits_true a k ≡ true → Agrees a (listed k)
  agrees_listed k t m h = all_at (lit_true a) k m t h

  pub core_fails : (k ids : List ℕ) → is_core f k ids ≡ true → lits_true a k ≡ true → ⊥
  core_fails k ids h t = elim (or_cases (is_tautology k) (is_conflict (propagate f (listed k) ids)) h) [
    | inl o ↦ not_opposite a k o t
    | inr r ↦ sound_is_open a (propagate f (listed k) ids) (propagate_true (listed k) ids (agrees_listed k t)) r
  ]

-- ---- models

-- a part of true literals is true
part_true : (a : ℕ → Bool) (k m : List ℕ) → all_in k m ≡ true → lits_true a m ≡ true → lits_true a k ≡ true
part_true a k m p t = all_from (lit_true a) k (λ l h. all_at (lit_true a) m l t (all_at (λ l. has l m) k l p h))

-- the positive literals of a model are true, and no others
abbrev assignment : List ℕ → ℕ → Bool
assignment m v = has (2 * v) m

model_true : (m : List ℕ) → not (is_tautology m) ≡ true → lits_true (assignment m) m ≡ true
model_true m apart = all_from (lit_true (assignment m)) m (λ l h. at l (is_negative l) refl h)
  where
    at : (l : ℕ) (b : Bool) → is_negative l ≡ b → has l m ≡ true → lit_true (assignment m) l ≡ true
    at l false e h =
        let even = eqb-false (l % 2) 1 e in
        let is : 2 * var_of l ≡ l = omega arith in
        ap (λ (b : Bool). cond b (not (has (2 * var_of l) m)) (has (2 * var_of l) m)) e ∙ ap (λ (k : ℕ). has k m) is ∙ h
    at l true e h =
        let odd = eqb-true (l % 2) 1 e in
        let before : 2 * var_of l ≡ l - 1 = omega arith in
        let is : negate l ≡ l - 1 = ap (λ (b : Bool). cond b (l - 1) (l + 1)) e in
        ap (λ (b : Bool). cond b (not (has (2 * var_of l) m)) (has (2 * var_of l) m)) e
        ∙ ap (λ (k : ℕ). not (has k m)) (before ∙ sym is)
        ∙ absent (has (negate l) m) (λ t. both_ways (is_tautology m) (not-true _ apart) (any_from (λ l. has (negate l) m) m l h t))
      where
        absent : (b : Bool) → (b ≡ true → ⊥) → not b ≡ true
        absent true never = absurd (never refl)
        absent false never = refl

met_true : (a : ℕ → Bool) (m c : List ℕ) → lits_true a m ≡ true → meets m c ≡ true → clause_true a c ≡ true
met_true a m c t h = let p = any_at (λ l. has l m) c h in any_from (lit_true a) c p.0 p.1 (all_at (lit_true a) m p.0 t p.2)

clauses_met : (a : ℕ → Bool) (m : List ℕ) (cs : List (List ℕ)) → lits_true a m ≡ true → list_all (meets m) cs ≡ true → all_true a cs ≡ true
clauses_met a m [] t h = refl
clauses_met a m (c ∷ cs) t h = let p = and_parts (meets m c) (list_all (meets m) cs) h in and_from (clause_true a c) (all_true a cs) (met_true a m c t p.0) (clauses_met a m cs t p.1)

pub model_satisfies : (cs : List (List ℕ)) (assumed m : List ℕ) → is_model cs assumed m ≡ true → Satisfies cs assumed m
model_satisfies cs assumed m h =
    let p = and_parts (not (is_tautology m)) (all_in assumed m && list_all (meets m) cs) h in
    let q = and_parts (all_in assumed m) (list_all (meets m) cs) p.1 in
    let t = model_true m p.0 in
    record {
      found = assignment m;
      clauses_true = clauses_met (assignment m) m cs t q.1;
      assumed_true = part_true (assignment m) assumed m q.0 t;
      values_true = t;
    }
