-- Literals by which clauses were met, when they are still true and when one of them changes.
use Rattle.std.proofs.Common.{◌≡◌, ℕ, suc, zero, ◌+◌, ◌<◌, ◌≤◌, Bool, true, false, cond, List, [], ◌∷◌, ◌++◌, length, get_or, take, drop, set, Option, Some, None, Result, Ok, Err, OnOk, OnErr, refl, sym, ap, ◌∙◌, arith, add-zero, add-one}
use Rattle.std.proofs.lemmas.Bool.{and_parts, and_from, false≢true}
use Rattle.std.proofs.lemmas.List.{drop-drop, drop_all, drop_more, set_split, take_all}
use Rattle.std.specs.List.{find, list_any}
use Rattle.sat_rules.specs.Clauses.{has}
use Rattle.sat_rules.proofs.Members.{any_from, has_first}
use Rattle.session_checker.specs.Meeting.{are_members, true_run, with_at}
use Rattle.session_checker.specs.Refusals.{Refusal, clause_cause, misses_clause}

pub members_more : (ls : List ℕ) (cs : List (List ℕ)) (c : List ℕ) → are_members ls cs ≡ true → are_members ls (cs ++ c ∷ []) ≡ true
members_more [] cs c h = refl
members_more (l ∷ ls) [] c h = absurd (false≢true h)
members_more (l ∷ ls) (d ∷ cs) c h = let p = and_parts (has l d) (are_members ls cs) h in and_from (has l d) (are_members ls (cs ++ c ∷ [])) p.0 (members_more ls cs c p.1)

-- after a clause was added, or there was no memory for it
pub members_added : {T E : Type 0} (ls : List ℕ) (old new : List (List ℕ)) (c : List ℕ) (r : Result T E) → are_members ls old ≡ true →
    OnOk r (new ≡ old ++ c ∷ []) → OnErr r (new ≡ old) → are_members ls new ≡ true
members_added ls old new c (Ok v) h ok err = ap (are_members ls) ok ∙ members_more ls old c h
members_added ls old new c (Err e) h ok err = ap (are_members ls) err ∙ h

pub members_drop : (n : ℕ) (ls : List ℕ) (cs : List (List ℕ)) → are_members ls cs ≡ true → are_members (drop n ls) (drop n cs) ≡ true
members_drop zero ls cs h = h
members_drop (suc n) [] cs h = refl
members_drop (suc n) (l ∷ ls) [] h = absurd (false≢true h)
members_drop (suc n) (l ∷ ls) (c ∷ cs) h = members_drop n ls cs (and_parts (has l c) (are_members ls cs) h).1

pub members_put : (k l : ℕ) (ls : List ℕ) (cs : List (List ℕ)) → are_members ls cs ≡ true → k ≤ length ls → k < length cs → has l (get_or cs k []) ≡ true → are_members (with_at k l ls) cs ≡ true
members_put k l ls [] h next within member = absurd (omega arith)
members_put zero l [] (c ∷ cs) h next within member = and_from (has l c) true member refl
members_put (suc k) l [] (c ∷ cs) h next within member = absurd (omega arith)
members_put zero l (m ∷ ls) (c ∷ cs) h next within member = and_from (has l c) (are_members ls cs) member (and_parts (has m c) (are_members ls cs) h).1
members_put (suc k) l (m ∷ ls) (c ∷ cs) h next within member =
    let p = and_parts (has m c) (are_members ls cs) h in
    and_from (has m c) (are_members (with_at k l ls) cs) p.0 (members_put k l ls cs p.1 (omega arith) (omega arith) member)

-- one that is written, one after all
pub put_set : (k l : ℕ) (ls : List ℕ) → k < length ls → set ls k l ≡ with_at k l ls
put_set k l ls h = set_split ls k l h

pub put_push : (k l : ℕ) (ls : List ℕ) → length ls ≡ k → ls ++ l ∷ [] ≡ with_at k l ls
put_push k l ls e = rw (take_all k ls (omega arith), drop_all (suc k) ls (omega arith)) refl

-- after a literal was put after all, or there was no memory for it
pub members_pushed : (pushed : Bool) (k l : ℕ) (ls new : List ℕ) (cs : List (List ℕ)) → are_members ls cs ≡ true → new ≡ cond pushed (ls ++ l ∷ []) ls → length ls ≡ k →
    k < length cs → has l (get_or cs k []) ≡ true → are_members new cs ≡ true
members_pushed true k l ls new cs h is e within member =
    ap (λ (ms : List ℕ). are_members ms cs) (is ∙ put_push k l ls e) ∙ members_put k l ls cs h (omega (arith, e)) within member
members_pushed false k l ls new cs h is e within member = ap (λ (ms : List ℕ). are_members ms cs) is ∙ h

-- the clauses of literals that are true are met
run_met : (s : ℕ → Bool) (ls : List ℕ) (cs : List (List ℕ)) (n : ℕ) → are_members ls cs ≡ true → clause_cause (n + true_run s ls) s (drop (true_run s ls) cs) ≡ clause_cause n s cs
run_met s [] cs n h = ap (λ (k : ℕ). clause_cause k s cs) (add-zero n)
run_met s (l ∷ ls) [] n h = absurd (false≢true h)
run_met s (l ∷ ls) (c ∷ cs) n h = by (s l) refl (run_met s ls cs (suc n) (and_parts (has l c) (are_members ls cs) h).1)
  where
    by : (b : Bool) → s l ≡ b → clause_cause (suc n + true_run s ls) s (drop (true_run s ls) cs) ≡ clause_cause (suc n) s cs →
        clause_cause (n + true_run s (l ∷ ls)) s (drop (true_run s (l ∷ ls)) (c ∷ cs)) ≡ clause_cause n s (c ∷ cs)
    by false e rest = rw e (ap (λ (k : ℕ). clause_cause k s (c ∷ cs)) (add-zero n))
    by true e rest =
        let r = true_run s ls in
        let next : n + suc r ≡ suc n + r = omega arith in
        rw (e, any_from s c l (and_parts (has l c) (are_members ls cs) h).0 e) (ap (λ (k : ℕ). clause_cause k s (drop r cs)) next ∙ rest)

pub run_from : (s : ℕ → Bool) (ls : List ℕ) (cs : List (List ℕ)) (n m : ℕ) → are_members ls cs ≡ true → m ≡ n + true_run s (drop n ls) →
    clause_cause (suc m) s (drop m cs) ≡ clause_cause (suc n) s (drop n cs)
run_from s ls cs n m h e =
    let r = true_run s (drop n ls) in
    let next : suc (n + r) ≡ suc n + r = omega arith in
    ap (λ (k : ℕ). clause_cause (suc k) s (drop k cs)) e ∙ ap (λ (k : ℕ). clause_cause k s (drop (n + r) cs)) next
    ∙ ap (clause_cause (suc n + r) s) (sym (drop-drop r n cs)) ∙ run_met s (drop n ls) (drop n cs) (suc n) (members_drop n ls cs h)

-- a literal that is found
pub find_none : (s : ℕ → Bool) (c : List ℕ) → find s c ≡ None → list_any s c ≡ false
find_none s [] e = refl
find_none s (l ∷ c) e = grind (arith, find_none s c, e)

pub find_in : (s : ℕ → Bool) (c : List ℕ) (l : ℕ) → find s c ≡ Some l → has l c ≡ true
find_in s [] l e = grind (arith, e)
find_in s (m ∷ c) l e = grind (arith, find_in s c l, has_first m c, e)

pub find_true : (s : ℕ → Bool) (c : List ℕ) (l : ℕ) → find s c ≡ Some l → s l ≡ true
find_true s [] l e = grind (arith, e)
find_true s (m ∷ c) l e = grind (arith, find_true s c l, e)

-- the clause of a number is not met, or is met, or there is none: the cause is the same from the next one on
pub unmet_here : (s : ℕ → Bool) (cs : List (List ℕ)) (n : ℕ) (r : Option Refusal) → n < length cs → list_any s (get_or cs n []) ≡ false →
    clause_cause (suc n) s (drop n cs) ≡ r → Some (misses_clause (n + 1)) ≡ r
unmet_here s cs n r h e t =
    let at : drop n cs ≡ get_or cs n [] ∷ drop (n + 1) cs = drop_more cs n [] h in
    let here : clause_cause (suc n) s (get_or cs n [] ∷ drop (n + 1) cs) ≡ Some (misses_clause (suc n)) = rw e refl in
    ap (λ (k : ℕ). Some (misses_clause k)) (add-one n) ∙ sym here ∙ sym (ap (clause_cause (suc n) s) at) ∙ t

pub met_here : (s : ℕ → Bool) (cs : List (List ℕ)) (n : ℕ) (r : Option Refusal) → n < length cs → list_any s (get_or cs n []) ≡ true →
    clause_cause (suc n) s (drop n cs) ≡ r → clause_cause (suc (n + 1)) s (drop (n + 1) cs) ≡ r
met_here s cs n r h e t =
    let at : drop n cs ≡ get_or cs n [] ∷ drop (n + 1) cs = drop_more cs n [] h in
    let here : clause_cause (suc n) s (get_or cs n [] ∷ drop (n + 1) cs) ≡ clause_cause (suc (suc n)) s (drop (n + 1) cs) = rw e refl in
    ap (λ (k : ℕ). clause_cause (suc k) s (drop (n + 1) cs)) (add-one n) ∙ sym here ∙ sym (ap (clause_cause (suc n) s) at) ∙ t

pub all_met : (s : ℕ → Bool) (cs : List (List ℕ)) (n : ℕ) (r : Option Refusal) → length cs ≤ n → clause_cause (suc n) s (drop n cs) ≡ r → None ≡ r
all_met s cs n r h t = sym (ap (clause_cause (suc n) s) (drop_all n cs h)) ∙ t
