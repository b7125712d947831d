use Rattle.std.proofs.Common.{◌≡◌, ◌<◌, ◌≤◌, Bool, false, ℕ, List, None, Some, map, ◌∙◌, subst}
use Rattle.checker_rules.specs.Store.{count_limit, count_of, is_stored, raise}
use Rattle.clause_store.specs.declared.clauses.Clauses.{Clauses}
use Rattle.clause_store.specs.declared.hash.ClauseHasher.{ClauseHasher}
use Rattle.clause_store.specs.Buckets.{Buckets}
use Rattle.clause_store.specs.Edits.{IsRaised}
use Rattle.clause_store.specs.Found.{found_in}
use Rattle.clause_store.specs.StateOf.{hash_of, state_of}
use Rattle.clause_store.specs.Store.{AnswersStore, IsStore, Stores}
use Rattle.clause_store.specs.View.{stored_in, stored_list}
use Rattle.clause_store.proofs.EditLemmas.{files-raised, files-same, is_store-by, stored_list-is}
use Rattle.clause_store.proofs.FoundLemmas.{raise-absent}
use Rattle.clause_store.proofs.HeldLemmas.{counts-raised}
use Rattle.clause_store.proofs.AnswerLemmas.{absent_from, answers-pushed, is_store-answered, long-full, long-stands, state_of-buckets}
use Rattle.clause_store.proofs.StoreLemmas.{are_apart-bucket, count_of-bucket, found_in-bucket}
use Rattle.clause_store.proofs.clauses.store.store_long.Goals as goal

raised_store : (h : ClauseHasher) (cs : Clauses) (m : Buckets) (r : Bool) (c : List ℕ) → IsStore h cs →
    IsRaised cs.literal_buffer.items (hash_of h c) r c cs.buckets m → IsStore h (record cs { buckets = m })
raised_store h cs m r c s p = is_store-by h _ _
    (files-raised h cs _ m r c s.filed p) s.garbage s.units
    (counts-raised _ _ r c _ s.counts)

-- nothing is raised where the clause is not stored
record IsUnraised (h : ClauseHasher) (cs : Clauses) (m : Buckets) (r : Bool) (c : List ℕ) : Type 0 where
  new : is_stored c (stored_list cs) ≡ false
  same : stored_list (record cs { buckets = m }) ≡ stored_list cs
  store : IsStore h (record cs { buckets = m })

unraised : (h : ClauseHasher) (cs : Clauses) (m : Buckets) (r : Bool) (c : List ℕ) → IsStore h cs → IsRaised cs.literal_buffer.items (hash_of h c) r c cs.buckets m →
    None ≡ found_in c (stored_in cs.literal_buffer.items cs.buckets (hash_of h c)) → IsUnraised h cs m r c
unraised h cs m r c s p none =
    let new = absent_from c _ (none ∙ found_in-bucket h cs (stored_list cs) s.filed c) in
    record { new = new; same = stored_list-is h _ _ (files-raised h cs _ m r c s.filed p) ∙ raise-absent c r _ new; store = raised_store h cs m r c s p }

pub raise_clause-requires-clause-apart : goal.raise_clause-requires-clause-apart
raise_clause-requires-clause-apart c =
    let h = c.args.hasher.now in let cs = c.args.clauses.now in
    rw (c.as_slice-buffer.ensures.value, c.clause_hash-hash.ensures) (are_apart-bucket h cs (stored_list cs) c.requires.store.filed (hash_of h c.args.lits.now))

pub returns-in-Ok-Some-clause-answer : goal.returns-in-Ok-Some-clause-answer
returns-in-Ok-Some-clause-answer c st known =
    let h = c.args.hasher.now in let cs = c.args.clauses.now in let ls = c.args.lits.now in let r = c.args.redundant in let m = c.raise_clause.new.buckets in
    let s = state_of st h cs known in let p = c.in-Ok-Some.ensures in let e = c.as_slice-buffer.ensures.value in let f = c.clause_hash-hash.ensures in
    let id = c.in-Ok-Some.id in let n = c.in-Ok-Some.irredundant in
    let raised = rw (e, f) at p.raised in
    let found : Some (id, n) ≡ found_in ls (stored_list cs) = cc (rw (e, f) at p.found, found_in-bucket h cs (stored_list cs) c.requires.store.filed ls) in
    let few : count_of r ls (stored_list cs) < count_limit = rw (← count_of-bucket h cs (stored_list cs) c.requires.store.filed r ls) (rw (e, f) at p.room) in
    subst (λ t. Stores ls r s t id c.raised_as.result)
    (cc (state_of-buckets st h cs known m (map (raise r ls) (stored_list cs))
    (stored_list-is h (record cs { buckets = m }) (map (raise r ls) (stored_list cs))
    (files-raised h cs (stored_list cs) m r ls c.requires.store.filed raised))))
    (subst (λ x. Stores ls r s (record s { clauses = map (raise r ls) s.clauses }) id x) (cc) (long-stands ls r s id n c.requires.long found few))

pub returns-in-Ok-Some-clause-store : goal.returns-in-Ok-Some-clause-store
returns-in-Ok-Some-clause-store c =
    let h = c.args.hasher.now in let cs = c.args.clauses.now in let ls = c.args.lits.now in let r = c.args.redundant in let m = c.raise_clause.new.buckets in
    raised_store h cs m r ls c.requires.store (rw (← c.as_slice-buffer.ensures.value, ← c.clause_hash-hash.ensures) c.in-Ok-Some.ensures.raised)

pub returns-in-Ok-None-clause-answer : goal.returns-in-Ok-None-clause-answer
returns-in-Ok-None-clause-answer c st known =
    let h = c.args.hasher.now in let cs = c.args.clauses.now in let ls = c.args.lits.now in let r = c.args.redundant in let m = c.raise_clause.new.buckets in
    let x : Clauses = record cs { buckets = m } in let e = c.as_slice-buffer.ensures.value in let f = c.clause_hash-hash.ensures in
    let u = unraised h cs m r ls c.requires.store (rw (e, f) at c.in-Ok-None.ensures.raised) (cc (rw (e, f) at c.in-Ok-None.ensures.found)) in
    subst (λ t. AnswersStore c.push_new.result ls r t (state_of st h c.push_new.new.clauses known)) (state_of-buckets st h cs _ m _ u.same)
    (answers-pushed h x _ ls r c.requires.long u.store (cc (u.new, u.same)) st _ _ (rw f at c.push_new.ensures))

pub returns-in-Ok-None-clause-store : goal.returns-in-Ok-None-clause-store
returns-in-Ok-None-clause-store c =
    let h = c.args.hasher.now in let cs = c.args.clauses.now in let ls = c.args.lits.now in let r = c.args.redundant in let m = c.raise_clause.new.buckets in
    let x : Clauses = record cs { buckets = m } in let e = c.as_slice-buffer.ensures.value in let f = c.clause_hash-hash.ensures in
    let u = unraised h cs m r ls c.requires.store (rw (e, f) at c.in-Ok-None.ensures.raised) (cc (rw (e, f) at c.in-Ok-None.ensures.found)) in
    is_store-answered h x _ ls r c.requires.long u.store (cc (u.new, u.same)) _ (rw f at c.push_new.ensures)

pub returns-in-Err-clause-answer : goal.returns-in-Err-clause-answer
returns-in-Err-clause-answer c st known =
    let h = c.args.hasher.now in let cs = c.args.clauses.now in let ls = c.args.lits.now in let r = c.args.redundant in let m = c.raise_clause.new.buckets in
    let many : count_limit ≤ count_of r ls (stored_list cs) = rw (← count_of-bucket h cs (stored_list cs) c.requires.store.filed r ls)
    (rw (c.as_slice-buffer.ensures.value, c.clause_hash-hash.ensures) at c.in-Err.ensures.exhausted) in (
      long-full ls r _ c.requires.long many,
      state_of-buckets st h cs _ m _
          (stored_list-is h _ _
          (files-same h cs _ m c.requires.store.filed c.in-Err.ensures.unchanged)),
    )

pub returns-in-Err-clause-store : goal.returns-in-Err-clause-store
returns-in-Err-clause-store c =
    let h = c.args.hasher.now in let cs = c.args.clauses.now in let m = c.raise_clause.new.buckets in let s = c.requires.store in
    is_store-by h _ _ (files-same h cs _ m s.filed c.in-Err.ensures.unchanged) s.garbage s.units s.counts
