use Rattle.std.proofs.Common.{◌≡◌, ◌++◌, append-nil, rules, sym, ap, ◌∙◌, subst}
use Rattle.std.specs.List.{flat_map}
use Rattle.std.specs.List.Sorted.{IsNonDecreasingBy, IsPermutation}
use Rattle.std.specs.HashMap.{values}
use Rattle.std.proofs.lemmas.List.Sorted.{IsNonDecreasingBy-from_sort_by_key}
use Rattle.clause_store.specs.declared.clauses.Clause.{Clause}
use Rattle.clause_store.specs.Buckets.{clauses_of}
use Rattle.clause_store.proofs.GatheredLemmas.{gathered, gathered_within}
use Rattle.clause_store.proofs.clauses.rebuild.gather.Goals as goal

pub returns-clause-within : goal.returns-clause-within
returns-clause-within c h es f =
    let xs = c.loop-bucket.all.items in
    let all : xs ≡ flat_map clauses_of (values c.args.clauses.now.buckets) =
    sym (append-nil xs) ∙ ap (λ it. xs ++ flat_map clauses_of it) (sym c.in-None.ensures.steps.0) ∙ c.loop-bucket.invariant in
    gathered_within h _ es f c.values-bucket-items.ensures.unique _
    (rw (← all) c.sort_unstable_by_key.ensures.permutation)

pub returns-clause-list : goal.returns-clause-list
returns-clause-list c h es f =
    let xs = c.loop-bucket.all.items in
    let all : xs ≡ flat_map clauses_of (values c.args.clauses.now.buckets) =
    sym (append-nil xs) ∙ ap (λ it. xs ++ flat_map clauses_of it) (sym c.in-None.ensures.steps.0) ∙ c.loop-bucket.invariant in
    let up : IsNonDecreasingBy (λ (x : Clause). x.id) c.sort_unstable_by_key.new.self.items =
    IsNonDecreasingBy-from_sort_by_key (λ (x : Clause). x.id) _ c.sort_unstable_by_key.ensures.sorted (λ a r q k. search rules) in
    gathered h c.args.clauses.now es f c.values-bucket-items.ensures.unique c.sort_unstable_by_key.new.self.items
    (subst (λ ys. IsPermutation ys c.sort_unstable_by_key.new.self.items) all c.sort_unstable_by_key.ensures.permutation) up
