use Rattle.std.proofs.Common.{◌≡◌, ◌∷◌, ◌++◌, [], ℕ, List, length, map, All, append-nil, append_assoc, rules, sym, ap, ◌∙◌, subst, arith, refl}
use Rattle.std.specs.HashMap.{values}
use Rattle.std.specs.List.{flat_map}
use Rattle.std.proofs.lemmas.List.{map-append}
use Rattle.std.proofs.lemmas.List.Concat.{flat_map-append}
use Rattle.checker_rules.specs.LiveLiterals.{live_literals}
use Rattle.clause_store.specs.declared.clauses.buckets.Bucket.{Bucket}
use Rattle.clause_store.specs.declared.clauses.Clause.{Clause}
use Rattle.clause_store.specs.Buckets.{clauses_of}
use Rattle.clause_store.specs.Lits.{IsWithin, in_buffer}
use Rattle.clause_store.specs.Moved.{all_in_buffer, walked}
use Rattle.clause_store.specs.View.{stored_list, stored_of}
use Rattle.clause_store.proofs.GatheredLemmas.{all_within, in_other_order}
use Rattle.clause_store.proofs.MoveLemmas.{All-first, All-second, all_used-is, live_literals-append, live_literals-order}
use Rattle.clause_store.proofs.clauses.collect.copy_lits.Goals as goal

-- where nothing is left, all was copied
copied_all : (b xs all : List ℕ) (left : List Bucket) → left ≡ [] → xs ++ all_in_buffer b (flat_map clauses_of left) ≡ all → xs ≡ all
copied_all b xs all left none so = cc (append-nil xs)

pub loop-bucket-init : goal.loop-bucket-init
loop-bucket-init c =
    let cs = c.args.clauses.now in let b = cs.literal_buffer.items in let left = c.into_iter-bucket-iterator.result in
    let it : left ≡ values cs.buckets = search rules in
    let none = c.in_ok-new.ensures.items in
    record {
      copied = rw (none, it) refl;
      used = grind arith;
      within = rw it (all_within b cs.buckets c.values-bucket-items.ensures.unique c.requires.1.within);
    }

pub copy_bucket-requires : goal.copy_bucket-requires
copy_bucket-requires c =
    let b = c.args.clauses.now.literal_buffer.items in let x = c.in-Some.bucket.now in
    subst (λ u. All (λ (d : Clause). IsWithin d.lits u) (clauses_of x)) (sym c.as_slice-buffer.ensures.value)
    (All-first (λ (d : Clause). IsWithin d.lits b) (clauses_of x) _
    (subst (λ bs. All (λ (d : Clause). IsWithin d.lits b) (flat_map clauses_of bs)) c.in-Some.ensures.steps c.loop-bucket.invariant.within))

pub loop-bucket-preserved : goal.loop-bucket-preserved
loop-bucket-preserved c =
    let b = c.args.clauses.now.literal_buffer.items in let x = c.in-Some.bucket.now in let rest = c.next.new.self in
    let l = c.loop-bucket in let v = l.invariant in let e = c.in_ok-copy_bucket.ensures in
    let step : l.bucket-iterator ≡ x ∷ rest = c.in-Some.ensures.steps in
    let cs = clauses_of x in let ds = flat_map clauses_of rest in
    let f : Clause → List ℕ = λ (d : Clause). in_buffer b d.lits in
    let old = l.new.items in
    let read = c.as_slice-buffer.ensures.value in
    let parts : all_in_buffer b (flat_map clauses_of l.bucket-iterator) ≡ all_in_buffer b cs ++ all_in_buffer b ds = rw step (flat_map-append f cs ds) in
    record {
      copied = cc (parts, rw read at e.copied, append_assoc old (all_in_buffer b cs) (all_in_buffer b ds), v.copied);
      used = grind (arith, step, read, e.used, map-append (stored_of b) cs ds, live_literals-append (map (stored_of b) cs) (map (stored_of b) ds), v.used);
      within = All-second (λ (d : Clause). IsWithin d.lits b) cs ds
          (subst (λ bs. All (λ (d : Clause). IsWithin d.lits b) (flat_map clauses_of bs)) step v.within);
    }

pub returns-clause-copied : goal.returns-clause-copied
returns-clause-copied c = copied_all _ _ _ _ c.in-None.ensures.steps.0 c.loop-bucket.invariant.copied

pub returns-clause-used : goal.returns-clause-used
returns-clause-used c =
    let cs = c.args.clauses.now in let b = cs.literal_buffer.items in let l = c.loop-bucket in
    let none : live_literals (map (stored_of b) (flat_map clauses_of l.bucket-iterator)) ≡ 0 = ap (λ bs. live_literals (map (stored_of b) (flat_map clauses_of bs))) c.in-None.ensures.steps.0 in
    let all = live_literals-order (stored_list cs) (map (stored_of b) (walked cs.buckets))
    (in_other_order c.requires.0 cs (stored_list cs) c.requires.1 c.values-bucket-items.ensures.unique) in
    omega (arith, l.invariant.used, none, all)

pub returns-clause-count : goal.returns-clause-count
returns-clause-count c =
    let cs = c.args.clauses.now in let b = cs.literal_buffer.items in
    ap length (copied_all b _ _ _ c.in-None.ensures.steps.0 c.loop-bucket.invariant.copied)
    ∙ all_used-is b (walked cs.buckets) (all_within b cs.buckets c.values-bucket-items.ensures.unique c.requires.1.within)
