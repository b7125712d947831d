use Rattle.std.proofs.Common.{◌≡◌, ◌+◌, ℕ, Bool, true, false, cond, List, sym, ap, ◌∙◌, arith}
use Rattle.std.proofs.lemmas.Result.{err_from_is_err_and}
use Rattle.checker_rules.specs.LiveLiterals.{live_of}
use Rattle.checker_rules.specs.Store.{count_of, is_stored}
use Rattle.clause_store.specs.declared.clauses.Clauses.{Clauses}
use Rattle.clause_store.specs.declared.clauses.lower.Left.{Left}
use Rattle.clause_store.specs.declared.hash.ClauseHasher.{ClauseHasher}
use Rattle.clause_store.specs.Buckets.{Buckets}
use Rattle.clause_store.specs.Lowered.{IsLeft, IsLowered, is_gone}
use Rattle.clause_store.specs.StateOf.{hash_of}
use Rattle.clause_store.specs.Store.{IsIndexed}
use Rattle.clause_store.specs.View.{stored_list}
use Rattle.clause_store.proofs.DeleteLemmas.{counts-kept, counts-lowered, files-counts, files-lowered, held-stored, is_last, last_of, left-bucket, missing-bucket, stored_with-copy, whole-bucket}
use Rattle.clause_store.proofs.StoreLemmas.{are_apart-bucket}
use Rattle.clause_store.proofs.clauses.delete.take_copy.Goals as goal

-- what is known once a copy is taken from the bucket of the clause
record IsTaken (h : ClauseHasher) (cs : Clauses) (r : Bool) (ls : List ℕ) (m : Buckets) (left : Left) : Type 0 where
  lowered : IsLowered cs.literal_buffer.items (hash_of h ls) r ls cs.buckets m left
  is_left : IsLeft r ls (stored_list cs) left
  stored : is_stored ls (stored_list cs) ≡ true
  last : is_last r (count_of false ls (stored_list cs)) (count_of true ls (stored_list cs)) ≡ is_gone left

taken : (h : ClauseHasher) (cs : Clauses) (r : Bool) (ls : List ℕ) (m : Buckets) (left : Left) (b : List ℕ) (k : ℕ) → IsIndexed h cs (stored_list cs) →
    b ≡ cs.literal_buffer.items → k ≡ hash_of h ls → IsLowered b k r ls cs.buckets m left → IsTaken h cs r ls m left
taken h cs r ls m left b k f e q p =
    let lowered = rw (e, q) at p in let rest = left-bucket h cs (stored_list cs) f r ls left lowered.is_left in
    record { lowered = lowered; is_left = rest; stored = stored_with-copy r ls (stored_list cs) rest.copy; last = last_of r ls (stored_list cs) left rest }

pub lower_clause-requires-clause-apart : goal.lower_clause-requires-clause-apart
lower_clause-requires-clause-apart c =
    let h = c.args.hasher.now in let cs = c.args.clauses.now in
    rw (c.as_slice-buffer.ensures.value, c.clause_hash-hash.ensures) (are_apart-bucket h cs (stored_list cs) c.requires.filed (hash_of h c.args.lits.now))

pub lower_clause-requires-clause-whole : goal.lower_clause-requires-clause-whole
lower_clause-requires-clause-whole c =
    let h = c.args.hasher.now in let cs = c.args.clauses.now in
    rw (c.as_slice-buffer.ensures.value, c.clause_hash-hash.ensures) (whole-bucket h cs (stored_list cs) c.requires.filed (hash_of h c.args.lits.now))

pub returns-in_err-left-clause-missing : goal.returns-in_err-left-clause-missing
returns-in_err-left-clause-missing c =
    let cs = c.args.clauses.now in let ls = c.args.lits.now in let r = c.args.redundant in
    let q = err_from_is_err_and c.from_residual.result c.from_residual.ensures.1 in
    rw (q.1, q.2) (missing-bucket c.args.hasher.now cs (stored_list cs) c.requires.filed r ls c.in_err-left.field-0.0
    (rw (c.as_slice-buffer.ensures.value, c.clause_hash-hash.ensures) at c.in_err-left.ensures.missing))

pub returns-then-is_gone-clause-left : goal.returns-then-is_gone-clause-left
returns-then-is_gone-clause-left c =
    (taken _ _ _ _ _ _ _ _ c.requires.filed c.as_slice-buffer.ensures.value c.clause_hash-hash.ensures c.in_ok-left.ensures.lowered).is_left

pub lower-requires-clause-held : goal.lower-requires-clause-held
lower-requires-clause-held c =
    let f = c.requires.filed in let t = taken _ _ _ _ _ _ _ _ f c.as_slice-buffer.ensures.value c.clause_hash-hash.ensures c.in_ok-left.ensures.lowered in
    held-stored _ _ _ _ _ c.requires.counts f.apart f.whole t.stored (t.last ∙ sym c.is_gone.ensures ∙ c.if-is_gone.true)

pub returns-then-is_gone-clause-counts : goal.returns-then-is_gone-clause-counts
returns-then-is_gone-clause-counts c =
    let f = c.requires.filed in let t = taken _ _ _ _ _ _ _ _ f c.as_slice-buffer.ensures.value c.clause_hash-hash.ensures c.in_ok-left.ensures.lowered in
    counts-lowered _ _ _ _ _ c.requires.counts f.apart f.whole t.stored _ (t.last ∙ sym c.is_gone.ensures ∙ c.if-is_gone.true) c.lower.ensures.held c.lower.ensures.known

pub returns-else-is_gone-clause-counts : goal.returns-else-is_gone-clause-counts
returns-else-is_gone-clause-counts c =
    let f = c.requires.filed in let t = taken _ _ _ _ _ _ _ _ f c.as_slice-buffer.ensures.value c.clause_hash-hash.ensures c.in_ok-left.ensures.lowered in
    counts-kept _ _ _ _ _ c.requires.counts f.apart f.whole t.stored (t.last ∙ sym c.is_gone.ensures ∙ c.if-is_gone.false)

pub returns-then-is_gone-clause-filed : goal.returns-then-is_gone-clause-filed
returns-then-is_gone-clause-filed c =
    let f = c.requires.filed in let t = taken _ _ _ _ _ _ _ _ f c.as_slice-buffer.ensures.value c.clause_hash-hash.ensures c.in_ok-left.ensures.lowered in
    let cs = c.args.clauses.now in let last = t.last ∙ sym c.is_gone.ensures ∙ c.if-is_gone.true in
    files-counts _ (record cs { buckets = c.lower_clause.new.buckets; garbage_size = cs.garbage_size + c.buffer_size.result }) _ _
    (files-lowered _ cs _ _ _ _ _ _ f t.lowered t.stored (ap (λ n. cs.garbage_size + n) (c.buffer_size.ensures ∙ sym (ap (λ b. cond b (live_of c.args.lits.now) 0) last))))

pub returns-else-is_gone-clause-left : goal.returns-else-is_gone-clause-left
returns-else-is_gone-clause-left c =
    (taken _ _ _ _ _ _ _ _ c.requires.filed c.as_slice-buffer.ensures.value c.clause_hash-hash.ensures c.in_ok-left.ensures.lowered).is_left

pub returns-else-is_gone-clause-filed : goal.returns-else-is_gone-clause-filed
returns-else-is_gone-clause-filed c =
    let f = c.requires.filed in let t = taken _ _ _ _ _ _ _ _ f c.as_slice-buffer.ensures.value c.clause_hash-hash.ensures c.in_ok-left.ensures.lowered in
    let kept = t.last ∙ sym c.is_gone.ensures ∙ c.if-is_gone.false in
    files-lowered _ c.args.clauses.now _ _ _ _ _ _ f t.lowered t.stored (omega (arith, ap (λ b. cond b (live_of c.args.lits.now) 0) kept))
