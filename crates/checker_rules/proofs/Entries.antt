-- Stored entries: canonical, by rising ids, each list once.
use Rattle.std.proofs.Common.{◌≡◌, ℕ, suc, ◌+◌, ◌<◌, ◌≤◌, Bool, true, false, not, ◌&&◌, ltb, leb, List, [], ◌∷◌, ◌++◌, map, filter, refl, arith}
use Rattle.std.specs.List.{list_all}
use Rattle.std.proofs.lemmas.Bool.{and_parts, and_from, not-true, leb-true, le-leb, cond_both}
use Rattle.sat_rules.specs.Clauses.{is_canonical, is_tautology}
use Rattle.checker_rules.specs.Canonical.{canonical, insert_lit, same_list, var_bound}
use Rattle.checker_rules.specs.DeleteClause.{is_short}
use Rattle.checker_rules.specs.State.{Stored}
use Rattle.checker_rules.specs.Store.{is_gone, is_stored, lower, new_stored, raise}
use Rattle.checker_rules.specs.WellFormed.{are_apart, ids_rise, is_fine}
use Rattle.checker_rules.proofs.Deletions.{lower-lits}
use Rattle.checker_rules.proofs.PassTest.{any-append}
use Rattle.checker_rules.proofs.Sets.{raise-lits, same_list-eq}
use Rattle.checker_rules.proofs.Stores.{same_list-refl}

-- canonical lists
pub all-insert : (p : ℕ → Bool) (l : ℕ) (c : List ℕ) → p l ≡ true → list_all p c ≡ true → list_all p (insert_lit l c) ≡ true
all-insert p l [] h k = grind arith
all-insert p l (m ∷ c) h k = grind (arith, all-insert p l c)

pub all_above : (l m : ℕ) (c : List ℕ) → l < m → list_all (ltb m) c ≡ true → list_all (ltb l) c ≡ true
all_above l m [] h k = refl
all_above l m (x ∷ c) h k = grind (arith, all_above l m c)

pub insert-canonical : (l : ℕ) (c : List ℕ) → is_canonical c ≡ true → is_canonical (insert_lit l c) ≡ true
insert-canonical l [] h = refl
insert-canonical l (m ∷ c) h = grind (arith, all_above l m c, all-insert (ltb m) l c, insert-canonical l c)

pub canonical-is : (c : List ℕ) → is_canonical (canonical c) ≡ true
canonical-is [] = refl
canonical-is (l ∷ c) = insert-canonical l (canonical c) (canonical-is c)

-- ids
pub rise_low : (a b : ℕ) (es : List Stored) (n : ℕ) → a ≤ b → ids_rise b es n ≡ true → ids_rise a es n ≡ true
rise_low a b [] n h k = grind arith
rise_low a b (e ∷ es) n h k = grind arith

pub rise_next : (a : ℕ) (es : List Stored) (n : ℕ) → ids_rise a es n ≡ true → ids_rise a es (n + 1) ≡ true
rise_next a [] n k = grind arith
rise_next a (e ∷ es) n k = grind (arith, rise_next (suc e.id) es n)

pub rise_push : (a : ℕ) (es : List Stored) (r : Bool) (c : List ℕ) (n : ℕ) → ids_rise a es n ≡ true → ids_rise a (es ++ new_stored r c n ∷ []) (n + 1) ≡ true
rise_push a [] r c n k = grind arith
rise_push a (e ∷ es) r c n k = grind (arith, rise_push (suc e.id) es r c n)

pub rise_filter : (p : Stored → Bool) (a : ℕ) (es : List Stored) (n : ℕ) → ids_rise a es n ≡ true → ids_rise a (filter p es) n ≡ true
rise_filter p a [] n k = k
rise_filter p a (e ∷ es) n k = grind (arith, rise_low a (suc e.id) (filter p es) n, rise_filter p (suc e.id) es n)

pub rise_map : (f : Stored → Stored) → ((e : Stored) → (f e).id ≡ e.id) → (a : ℕ) (es : List Stored) (n : ℕ) → ids_rise a (map f es) n ≡ ids_rise a es n
rise_map f same a [] n = refl
rise_map f same a (e ∷ es) n = grind (arith, same e, rise_map f same (suc e.id) es n)

-- each list once
pub stored_map : (f : Stored → Stored) → ((e : Stored) → (f e).lits ≡ e.lits) → (c : List ℕ) (es : List Stored) → is_stored c (map f es) ≡ is_stored c es
stored_map f same c [] = refl
stored_map f same c (e ∷ es) = grind (arith, same e, stored_map f same c es)

pub apart_map : (f : Stored → Stored) → ((e : Stored) → (f e).lits ≡ e.lits) → (es : List Stored) → are_apart (map f es) ≡ are_apart es
apart_map f same [] = refl
apart_map f same (e ∷ es) = grind (arith, same e, stored_map f same e.lits es, apart_map f same es)

pub stored_filter : (p : Stored → Bool) (c : List ℕ) (es : List Stored) → is_stored c es ≡ false → is_stored c (filter p es) ≡ false
stored_filter p c [] h = h
stored_filter p c (e ∷ es) h = grind (arith, stored_filter p c es)

pub apart_filter : (p : Stored → Bool) (es : List Stored) → are_apart es ≡ true → are_apart (filter p es) ≡ true
apart_filter p [] h = h
apart_filter p (e ∷ es) h = grind (arith, stored_filter p e.lits es, apart_filter p es)

pub same_list-sym : (c d : List ℕ) → same_list c d ≡ false → same_list d c ≡ false
same_list-sym c d h = grind (arith, same_list-eq d c, same_list-refl d)

pub apart_push : (es : List Stored) (e : Stored) → are_apart es ≡ true → is_stored e.lits es ≡ false → are_apart (es ++ e ∷ []) ≡ true
apart_push [] e h k = refl
apart_push (x ∷ es) e h k = grind (arith, any-append (λ y. same_list y.lits x.lits) es (e ∷ []), same_list-sym x.lits e.lits, apart_push es e)

-- the entries
four : (a b c d e : Bool) → (a && (not b && (not c && (not d && e)))) ≡ true → d ≡ false
four a b c d e h = grind arith

pub not_gone : (n : ℕ) (e : Stored) → is_fine n e ≡ true → is_gone e ≡ false
not_gone n e h = four (is_canonical e.lits) (is_tautology e.lits) (is_short e.lits) (is_gone e) (leb (var_bound e.lits) n) h

five : (a b c d e g f : Bool) → g ≡ false → (e ≡ true → f ≡ true) → (a && (not b && (not c && (not d && e)))) ≡ true → (a && (not b && (not c && (not g && f)))) ≡ true
five a b c d e g f gone h k = grind arith

-- an entry with the same list and a copy is as fine
fine_as : (n k : ℕ) (e d : Stored) → n ≤ k → d.lits ≡ e.lits → is_gone d ≡ false → is_fine n e ≡ true → is_fine k d ≡ true
fine_as n k e d h same g f =
    rw same (five (is_canonical e.lits) (is_tautology e.lits) (is_short e.lits) (is_gone e) (leb (var_bound e.lits) n) (is_gone d)
    (leb (var_bound e.lits) k) g (λ t. le-leb (var_bound e.lits) k (let w = leb-true (var_bound e.lits) n t in omega arith)) f)

pub fine_more : (n k : ℕ) (es : List Stored) → n ≤ k → list_all (is_fine n) es ≡ true → list_all (is_fine k) es ≡ true
fine_more n k [] h f = refl
fine_more n k (e ∷ es) h f =
    let q = and_parts (is_fine n e) (list_all (is_fine n) es) f in
    and_from (is_fine k e) _ (fine_as n k e e h refl (not_gone n e q.0) q.0) (fine_more n k es h q.1)

pub raise_gone : (r : Bool) (c : List ℕ) (e : Stored) → is_gone e ≡ false → is_gone (raise r c e) ≡ false
raise_gone r c e h = grind arith

pub fine_raise : (n : ℕ) (r : Bool) (c : List ℕ) (es : List Stored) → list_all (is_fine n) es ≡ true → list_all (is_fine n) (map (raise r c) es) ≡ true
fine_raise n r c [] h = refl
fine_raise n r c (e ∷ es) h =
    let q = and_parts (is_fine n e) (list_all (is_fine n) es) h in
    and_from (is_fine n (raise r c e)) _ (fine_as n n e (raise r c e) (omega arith) (raise-lits r c e) (raise_gone r c e (not_gone n e q.0)) q.0) (fine_raise n r c es q.1)

pub fine_delete : (n : ℕ) (r : Bool) (c : List ℕ) (es : List Stored) → list_all (is_fine n) es ≡ true → list_all (is_fine n) (filter (λ e. not (is_gone e)) (map (lower r c) es)) ≡ true
fine_delete n r c [] h = refl
fine_delete n r c (e ∷ es) h =
    let q = and_parts (is_fine n e) (list_all (is_fine n) es) h in
    let rest = fine_delete n r c es q.1 in
    cond_both (not (is_gone (lower r c e))) _ _ (λ l. list_all (is_fine n) l ≡ true)
    (λ g. and_from (is_fine n (lower r c e)) _ (fine_as n n e (lower r c e) (omega arith) (lower-lits r c e) (not-true _ g) q.0) rest) (λ g. rest)

pub raise_id : (r : Bool) (c : List ℕ) (e : Stored) → (raise r c e).id ≡ e.id
raise_id r c e = grind arith

pub lower_id : (r : Bool) (c : List ℕ) (e : Stored) → (lower r c e).id ≡ e.id
lower_id r c e = grind arith
