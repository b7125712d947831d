-- What the hint machine admits is accepted by propagation.
use Rattle.std.proofs.Common.{◌≡◌, ℕ, Bool, true, not, ◌||◌, eqb, List, [], ◌∷◌, map, refl, sym, ◌∙◌, eq-eqb, arith}
use Rattle.std.specs.List.{list_all}
use Rattle.std.proofs.lemmas.Bool.{eqb-true, and_parts, or_right, false≢true}
use Rattle.sat_rules.specs.Clauses.{IsChain, add_lit, has, is_unit_on, negate, unfalsified}
use Rattle.sat_rules.specs.Named.{Item, NamedBy, negated_set}
use Rattle.sat_rules.proofs.Members.{all_at, all_from, has_first, kept_from, kept_in, kept_test}
use Rattle.lrat_rules.specs.Lines.{along, leading}
use Rattle.lrat_rules.specs.Maps.{AdmittedIsRup}
use Rattle.lrat_rules.specs.Propagation.{Ending, by_left, conflict, is_conflict, propagate}
use Rattle.lrat_rules.specs.Stores.{find}
use Rattle.sat_rules.proofs.Chains.{falsified_left}

leading_all : (ids : List ℕ) → leading (map along ids) ≡ ids
leading_all [] = refl
leading_all (i ∷ ids) = cc (leading_all ids)

-- of a unit clause its literal is left
one_left : (go : ℕ → Ending) (l : ℕ) (u : List ℕ) → has l u ≡ true → ((m : ℕ) → has m u ≡ true → m ≡ l) → by_left u conflict go ≡ go l
one_left go l [] h k = absurd (false≢true h)
one_left go l (m ∷ u) h k =
    let same : m ≡ l = k m (has_first m u) in
    rw (all_from (eqb m) u (λ j t. eq-eqb m j (same ∙ sym (k j (or_right (eqb j m) (has j u) t)))), same)

unit_left : (s : ℕ → Bool) (c : List ℕ) (l : ℕ) (go : ℕ → Ending) → is_unit_on s c l ≡ true → by_left (unfalsified s c) conflict go ≡ go l
unit_left s c l go h =
    let p = and_parts (has l c) _ h in
    let q = and_parts (list_all (λ m. eqb m l || s (negate m)) c) _ p.1 in
    let r = and_parts (not (s l)) (not (s (negate l))) q.1 in
    let test = λ (m : ℕ). not (s (negate m)) in
    one_left go l (unfalsified s c) (kept_from test c l p.0 r.1) (λ m t.
    grind (arith, eqb-true m l, all_at (λ m. eqb m l || s (negate m)) c m q.0 (kept_in test c m t), kept_test test c m t))

chain_conflict : (st : List Item) (s : ℕ → Bool) (ids : List ℕ) (cs : List (List ℕ)) → NamedBy (find st) ids cs → IsChain s cs → is_conflict (propagate (find st) s ids) ≡ true
chain_conflict st s [] [] n h = absurd h
chain_conflict st s [] (c ∷ cs) n h = absurd n
chain_conflict st s (i ∷ ids) [] n h = absurd n
chain_conflict st s (i ∷ ids) (c ∷ []) n h = rw (n.0, falsified_left s c h)
chain_conflict st s (i ∷ ids) (c ∷ d ∷ rest) n h = rw (n.0, unit_left s c h.0 (λ l. propagate (find st) (add_lit l s) ids) h.1) (chain_conflict st (add_lit h.0 s) ids (d ∷ rest) n.1 h.2)

pub admitted_is_rup : AdmittedIsRup
admitted_is_rup st c ids h = rw (leading_all ids) (chain_conflict st (negated_set c) ids h.0 h.1 h.2)
