use Rattle.std.proofs.Common.{◌≡◌, ℕ, ◌+◌, ◌<◌, Bool, eqb, List, [], ◌∷◌, ◌++◌, append-nil, length, take, get_or, map, All, refl, ap, ◌∙◌, subst, arith}
use Rattle.std.specs.List.{filter}
use Rattle.std.proofs.lemmas.List.{take_all, take_more}
use Rattle.std.proofs.lemmas.List.Elements.{All-filter, filter-append}
use Rattle.std.proofs.lemmas.Bool.Decides.{nat_tests}
use Rattle.checker_rules.specs.State.{Stored}
use Rattle.clause_store.specs.declared.clauses.Clause.{Clause}
use Rattle.clause_store.specs.Buckets.{has_hash}
use Rattle.clause_store.specs.Lits.{IsWithin, lits_of}
use Rattle.clause_store.specs.StateOf.{hash_of}
use Rattle.clause_store.specs.View.{stored_of}
use Rattle.clause_store.proofs.clauses.rebuild.rebuild.Goals as goal

map-filter : (f : Clause → Stored) (p : Stored → Bool) (xs : List Clause) → map f (filter (λ x. p (f x)) xs) ≡ filter p (map f xs)
map-filter f p [] = refl
map-filter f p (x ∷ xs) = grind (arith, map-filter f p xs)

pub returns-clause-buckets : goal.returns-clause-buckets
returns-clause-buckets c k =
    let h = hash_of c.args.hasher.now in let b = c.args.buffer.now in let all = c.args.all.now in
    cc (c.loop-clause.invariant k, take_all c.loop-clause.clause-index all (omega arith), map-filter (stored_of b) (λ e. eqb (h e.lits) k) all)

pub returns-clause-within : goal.returns-clause-within
returns-clause-within c k =
    let h = hash_of c.args.hasher.now in let b = c.args.buffer.now in let all = c.args.all.now in
    subst (All (λ d. IsWithin d.lits b)) (cc (c.loop-clause.invariant k, take_all c.loop-clause.clause-index all (omega arith)))
    (All-filter (has_hash h b k) (λ d. IsWithin d.lits b) all c.requires.within)

-- one clause more is in the bucket of its hash
bucket-step : (f : Clause → ℕ) (all : List Clause) (i : ℕ) (x : Clause) (old new : ℕ → List Clause) (hash : ℕ) → i < length all →
    x ≡ get_or all i x → hash ≡ f x → ((k : ℕ) → old k ≡ filter (λ c. eqb (f c) k) (take i all))
    → new hash ≡ old hash ++ x ∷ [] → ((k : ℕ) → (k ≡ hash → ⊥) → new k ≡ old k) → (k : ℕ) → new k ≡ filter (λ c. eqb (f c) k) (take (i + 1) all)
bucket-step f all i x old new hash less is at same pushed others k =
    let p : Clause → Bool = λ c. eqb (f c) k in
    grind (arith, nat_tests, take_more all i x less, same k, others k, append-nil, filter-append p (take i all) (x ∷ []))

pub loop-clause-preserved : goal.loop-clause-preserved
loop-clause-preserved c =
    let h = hash_of c.args.hasher.now in let b = c.args.buffer.now in
    bucket-step (λ d. h (lits_of d.lits b)) _ _ _
    _ _ _
    c.loop-clause-test.true c.clause-item.is (c.clause_hash-hash.ensures ∙ ap h c.slice-lits.ensures) c.loop-clause.invariant c.in_ok-push_clause.ensures.pushed c.in_ok-push_clause.ensures.others
