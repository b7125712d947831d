use Rattle.std.proofs.Common.{◌≡◌, ◌<◌, ◌≤◌, ℕ, List, All, sym, subst}
use Rattle.checker_rules.specs.Buckets.{of_hash}
use Rattle.checker_rules.specs.State.{Stored}
use Rattle.clause_store.specs.declared.clauses.Clause.{Clause}
use Rattle.clause_store.specs.declared.clauses.Clauses.{Clauses}
use Rattle.clause_store.specs.Buckets.{AreWithin, Buckets}
use Rattle.clause_store.specs.Lits.{IsWithin}
use Rattle.clause_store.specs.declared.hash.ClauseHasher.{ClauseHasher}
use Rattle.clause_store.specs.Store.{IsIndexed}
use Rattle.clause_store.specs.StateOf.{hash_of}
use Rattle.clause_store.specs.View.{stored_in, stored_list}
use Rattle.clause_store.proofs.EditLemmas.{stored_list-is}
use Rattle.clause_store.proofs.MoveLemmas.{rebuilt_by}
use Rattle.clause_store.proofs.clauses.rebuild.rebuild_buckets.Goals as goal

pub rebuild-requires-clause-within : goal.rebuild-requires-clause-within
rebuild-requires-clause-within c =
    let s = c.requires.filed in
    rw c.deref-2.ensures.value (subst (All (λ (d : Clause). IsWithin d.lits c.args.clauses.now.literal_buffer.items)) (sym c.deref.ensures.value)
    (c.in_ok-all.ensures.within s.0 (stored_list c.args.clauses.now) s.1))

-- what does not hang on the buckets stays
files : (h g : ClauseHasher) (cs : Clauses) (m : Buckets) (es : List Stored) → 0 < h.hash_bits → h.hash_bits ≤ 64 → IsIndexed g cs es →
    AreWithin cs.literal_buffer.items m → ((k : ℕ) → stored_in cs.literal_buffer.items m k ≡ of_hash (hash_of h) k es) →
    IsIndexed h (record cs { buckets = m }) es
files h g cs m es low high f within here = assumption

rebuilt : (c : goal.After-drop-all-2) → IsIndexed c.args.hasher.now (record c.args.clauses.now { buckets = c.in_ok-clauses.field-0 }) (stored_list c.args.clauses.now)
rebuilt c =
    let h = c.args.hasher.now in let cs = c.args.clauses.now in let s = c.requires.filed in let m = c.in_ok-clauses.field-0 in let e = c.in_ok-clauses.ensures in
    files h s.0 cs m _ c.requires.some_bits c.requires.bits s.1 (rw (← c.deref-2.ensures.value) e.within)
    (rebuilt_by _ m _ _ _ _ _
    c.deref-2.ensures.value c.deref.ensures.value (c.in_ok-all.ensures.list s.0 (stored_list cs) s.1) e.buckets)

pub returns-clause-filed : goal.returns-clause-filed
returns-clause-filed c =
    let cs : Clauses = record c.args.clauses.now { buckets = c.in_ok-clauses.field-0 } in
    rw (stored_list-is c.args.hasher.now cs (stored_list c.args.clauses.now) (rebuilt c)) (rebuilt c)

pub returns-clause-list : goal.returns-clause-list
returns-clause-list c = stored_list-is _ _ _ (rebuilt c)
