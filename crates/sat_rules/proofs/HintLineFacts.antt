-- Hints in turn are a chain, and lines from a formula keep to what the formula says.
use Rattle.sat_rules.proofs.Members.{all_at}
use Rattle.std.proofs.Common.{◌≡◌, ℕ, suc, Bool, true, false, cond, ◌||◌, eqb, ltb, List, [], ◌∷◌, Option, Some, None, refl, sym, ap, ◌∙◌, arith}
use Rattle.std.proofs.lemmas.Bool.{eqb-true, and_parts, and_from, false≢true, true≢false, true_from_ne_false}
use Rattle.std.proofs.lemmas.Option.{none-some, cond_some}
use Rattle.sat_rules.specs.Clauses.{Agrees, IsChain, add_lit, all_true, clause_true, has, is_falsified, is_unit_on, negate}
use Rattle.sat_rules.specs.HintLines.{Follows, HintCause, HintLine, HintsDecide, HintsRefute, Listed, adds_clause, after_line, deletes_clauses, drop_ids, hints_cause, id_not_greater, is_empty, list_from, listing, unit_among}
use Rattle.sat_rules.specs.Named.{IsAdmitted, Machine, NamedBy, drop_id, negated_set, put_id}
use Rattle.sat_rules.proofs.Chains.{chains_sound, lit_true-negate}

pub some-same : {A : Type 0} (x y : A) → Some x ≡ Some y → x ≡ y
some-same x y h = (cond_some true x y h).1

-- a clause is unit on one literal alone
unit_is_one : (s : ℕ → Bool) (c : List ℕ) (l k : ℕ) → is_unit_on s c l ≡ true → is_unit_on s c k ≡ true → k ≡ l
unit_is_one s c l k u v = grind (arith, eqb-true k l, all_at (λ m. eqb m l || s (negate m)) c k)

-- what is found is such a literal
pub found_unit : (s : ℕ → Bool) (c ls : List ℕ) (l : ℕ) → unit_among s c ls ≡ Some l → is_unit_on s c l ≡ true
found_unit s c [] l h = absurd (none-some l h)
found_unit s c (m ∷ ms) l h = grind (arith, found_unit s c ms l)

-- where there is one it is found
pub finds_unit : (s : ℕ → Bool) (c ls : List ℕ) (l : ℕ) → is_unit_on s c l ≡ true → has l ls ≡ true → unit_among s c ls ≡ Some l
finds_unit s c [] l u h = absurd (false≢true h)
finds_unit s c (m ∷ ms) l u h = grind (arith, eqb-true l m, unit_is_one s c l m u, finds_unit s c ms l u)

-- hints that are not rejected name a chain
abbrev Chained : (ℕ → Option (List ℕ)) → (ℕ → Bool) → List ℕ → Type 0
Chained f s ids = (cs : List (List ℕ)) × NamedBy f ids cs × IsChain s cs

chained_last : (f : ℕ → Option (List ℕ)) (s : ℕ → Bool) (i : ℕ) (c : List ℕ) → f i ≡ Some c → is_falsified s c ≡ true → Chained f s (i ∷ [])
chained_last f s i c e w = (c ∷ [], (e, tt), w)

chained_next : (f : ℕ → Option (List ℕ)) (s : ℕ → Bool) (i l : ℕ) (c ids : List ℕ) → f i ≡ Some c → unit_among s c c ≡ Some l → Chained f (add_lit l s) ids → Chained f s (i ∷ ids)
chained_next f s i l c ids e k ([], n, w) = absurd w
chained_next f s i l c ids e k (d ∷ ds, n, w) = (c ∷ d ∷ ds, (e, n), (l, found_unit s c c l k, w))

admits : (f : ℕ → Option (List ℕ)) (s : ℕ → Bool) (ids : List ℕ) → hints_cause f s ids ≡ None → Chained f s ids
admits f s [] h = absurd (cc)
admits f s (i ∷ []) h = grind (arith, chained_last f s i)
admits f s (i ∷ j ∷ ids) h = grind (arith, λ (l : ℕ) (c : List ℕ). chained_next f s i l c (j ∷ ids), λ (l : ℕ). admits f (add_lit l s) (j ∷ ids))

-- hints that name a chain are not rejected
pub passes : (f : ℕ → Option (List ℕ)) (s : ℕ → Bool) (ids : List ℕ) (cs : List (List ℕ)) → NamedBy f ids cs → IsChain s cs → hints_cause f s ids ≡ None
passes f s [] [] n w = absurd w
passes f s [] (c ∷ cs) n w = absurd n
passes f s (i ∷ []) [] n w = absurd n
passes f s (i ∷ []) (c ∷ []) n w = rw (n.0, w)
passes f s (i ∷ []) (c ∷ d ∷ cs) n w = absurd n.1
passes f s (i ∷ j ∷ ids) [] n w = absurd n
passes f s (i ∷ j ∷ ids) (c ∷ []) n w = absurd n.1
passes f s (i ∷ j ∷ ids) (c ∷ d ∷ cs) n w =
    rw (n.0, finds_unit s c c w.0 w.1 (and_parts _ _ w.1).0) (passes f (add_lit w.0 s) (j ∷ ids) (d ∷ cs) n.1 w.2)

pub hints_decide : HintsDecide
hints_decide f c ids = record {
  sound = admits f (negated_set c) ids;
  whole = λ h. passes f (negated_set c) ids h.0 h.1 h.2;
}

-- under an assignment that makes a clause false, the negations of its literals are true
pub agrees_negated : (a : ℕ → Bool) (c : List ℕ) → clause_true a c ≡ false → Agrees a (negated_set c)
agrees_negated a [] h m k = absurd (false≢true k)
agrees_negated a (l ∷ ls) h m k = grind (arith, eqb-true m (negate l), lit_true-negate a l, agrees_negated a ls)

-- every clause that the map names is true
abbrev pub AllNamedTrue : (ℕ → Bool) → Machine → Type 0
AllNamedTrue a m = (i : ℕ) (c : List ℕ) → m.named i ≡ Some c → clause_true a c ≡ true

pub named_true : (a : ℕ → Bool) (m : Machine) → AllNamedTrue a m → (ids : List ℕ) (cs : List (List ℕ)) → NamedBy m.named ids cs → all_true a cs ≡ true
named_true a m t [] [] n = refl
named_true a m t [] (c ∷ cs) n = absurd n
named_true a m t (i ∷ ids) [] n = absurd n
named_true a m t (i ∷ ids) (c ∷ cs) n = and_from (clause_true a c) (all_true a cs) (t i c n.0) (named_true a m t ids cs n.1)

-- an admitted clause is true
admitted_true : (a : ℕ → Bool) (m : Machine) (c ids : List ℕ) → AllNamedTrue a m → IsAdmitted m.named c ids → clause_true a c ≡ true
admitted_true a m c ids t h = true_from_ne_false (clause_true a c) (λ e. chains_sound (negated_set c) h.0 h.2 a (agrees_negated a c e) (named_true a m t ids h.0 h.1))

put_true : (a : ℕ → Bool) (m : Machine) (i : ℕ) (c : List ℕ) → AllNamedTrue a m → clause_true a c ≡ true → AllNamedTrue a (put_id i c m)
put_true a m i c t h k d e = grind (arith, t k d)

drop_true : (a : ℕ → Bool) (ids : List ℕ) (m : Machine) → AllNamedTrue a m → AllNamedTrue a (drop_ids ids m)
drop_true a [] m t = t
drop_true a (i ∷ ids) m t = drop_true a ids (drop_id i m) (λ k d e. grind (arith, t k d))

list_true : (a : ℕ → Bool) (cs : List (List ℕ)) (i : ℕ) (m : Machine) → all_true a cs ≡ true → AllNamedTrue a m → AllNamedTrue a (list_from i cs m)
list_true a [] i m h t = t
list_true a (c ∷ cs) i m h t =
    let parts = and_parts (clause_true a c) (all_true a cs) h in
    list_true a cs (suc i) (put_id i c m) parts.1 (put_true a m i c t parts.0)

-- a clause that is true is not empty
not_empty : (a : ℕ → Bool) (c : List ℕ) → clause_true a c ≡ true → is_empty c ≡ false
not_empty a [] h = absurd (false≢true h)
not_empty a (l ∷ ls) h = refl

-- what is rejected for no id is rejected for no hint
accepted : (b : Bool) (x : Option HintCause) → cond b (Some id_not_greater) x ≡ None → x ≡ None
accepted b x h = grind arith

-- lines keep all that is named true, and don't add the empty clause
follows_true : (a : ℕ → Bool) (xs : List HintLine) (h k : Listed) → AllNamedTrue a h.machine → h.added_empty ≡ false → Follows h xs k → k.added_empty ≡ false
follows_true a [] h k t e r = ap (λ (x : Listed). x.added_empty) r ∙ e
follows_true a (adds_clause id c hints ∷ xs) h k t e r =
    let now = admitted_true a h.machine c hints t (admits h.machine.named (negated_set c) hints (accepted (ltb id h.machine.above) _ r.0)) in
    follows_true a xs (after_line h (adds_clause id c hints)) k (put_true a h.machine id c t now) (rw e (not_empty a c now)) r.1
follows_true a (deletes_clauses number ids ∷ xs) h k t e r = follows_true a xs (after_line h (deletes_clauses number ids)) k (drop_true a ids h.machine t) e r.1

pub hints_refute : HintsRefute
hints_refute cs xs k r e a h =
    true≢false (sym e ∙ follows_true a xs (listing cs) k (list_true a cs 1 _ h (λ i c n. absurd (none-some c n))) refl r)
