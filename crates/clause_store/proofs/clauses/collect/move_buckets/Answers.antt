use Rattle.std.proofs.Common.{◌≡◌, ◌∷◌, ◌+◌, ◌++◌, ◌<◌, ◌^◌, ℕ, List, map, rules, sym, ap, ◌∙◌, subst, arith}
use Rattle.std.specs.List.{flat_map}
use Rattle.std.proofs.lemmas.List.{map-append}
use Rattle.std.proofs.lemmas.List.Concat.{flat_map-append}
use Rattle.clause_store.specs.declared.clauses.buckets.Bucket.{Bucket}
use Rattle.clause_store.specs.Buckets.{clauses_of}
use Rattle.clause_store.specs.Moved.{all_in_buffer, all_used, walked}
use Rattle.clause_store.proofs.GatheredLemmas.{all_within}
use Rattle.clause_store.proofs.MoveLemmas.{all_used-append, clauses_in, end-before, retained}
use Rattle.clause_store.proofs.clauses.collect.move_buckets.Goals as goal

-- a bucket and those before it have no more literals in the buffer than all
used_before : (es before after : List (ℕ × Bucket)) (k : ℕ) (v : Bucket) → es ≡ before ++ (k, v) ∷ after →
    (n : ℕ) × (all_used (clauses_in es) ≡ all_used (clauses_in before) + (all_used (clauses_of v) + n))
used_before es before after k v split =
    let values = ap (map (λ (e : ℕ × Bucket). e.1)) split ∙ map-append (λ (e : ℕ × Bucket). e.1) before ((k, v) ∷ after) in
    let all : clauses_in es ≡ clauses_in before ++ (clauses_of v ++ clauses_in after) =
    ap (flat_map clauses_of) values ∙ flat_map-append clauses_of (map (λ (e : ℕ × Bucket). e.1) before) (map (λ (e : ℕ × Bucket). e.1) ((k, v) ∷ after)) in (
      all_used (clauses_in after),
      ap all_used all ∙ all_used-append (clauses_in before) (clauses_of v ++ clauses_in after)
          ∙ ap (λ n. all_used (clauses_in before) + n) (all_used-append (clauses_of v) (clauses_in after)),
    )

pub retain-requires : goal.retain-requires
retain-requires c = record {
  at = λ before after f k v split ran.
      let end = end-before _ (λ g. g.0) (λ g j u b w g' t. (search rules, search rules, search rules)) before _ f ran in
      let room = used_before c.args.buckets.now.entries before after k v split in
      let all : all_used (clauses_in c.args.buckets.now.entries) < 2 ^ 64 = c.requires in
      let fits : f.0 + all_used (clauses_of v) < 2 ^ 64 = omega (arith, end, room.1, all) in
      λ p q key value. subst (λ b. f.0 + all_used (clauses_of b) < 2 ^ 64) (sym value) fits;
}

pub returns-clause-same : goal.returns-clause-same
returns-clause-same c buffer k within =
    let m = c.args.buckets.now in
    (retained _ (λ f. f.0) (λ f k v b w f' t. (search rules, search rules, search rules)) buffer (all_in_buffer buffer (walked m)) m.entries c.retain.new.self.entries _
    c.retain.ensures.filtered (all_within buffer m c.retain.ensures.was_unique within) (search rules) k).0

pub returns-clause-within : goal.returns-clause-within
returns-clause-within c buffer within k =
    let m = c.args.buckets.now in
    (retained _ (λ f. f.0) (λ f k v b w f' t. (search rules, search rules, search rules)) buffer (all_in_buffer buffer (walked m)) m.entries c.retain.new.self.entries _
    c.retain.ensures.filtered (all_within buffer m c.retain.ensures.was_unique within) (search rules) k).1
