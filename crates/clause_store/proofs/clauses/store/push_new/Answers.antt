use Rattle.std.proofs.Common.{◌≡◌, ◌*◌, ◌≤◌, ◌∷◌, ◌++◌, [], ℕ, length, take, ap, subst, arith}
use Rattle.checker_rules.specs.Canonical.{var_bound}
use Rattle.checker_rules.specs.Store.{new_stored}
use Rattle.clause_store.specs.Buckets.{clauses_at, first_copy_of}
use Rattle.clause_store.specs.Lits.{IsWithin}
use Rattle.clause_store.specs.View.{stored_of}
use Rattle.clause_store.proofs.MoveLemmas.{stored_in-others, stored_in-pushed, within-pushed}
use Rattle.clause_store.proofs.clauses.store.push_new.Goals as goal

pub raise-requires-clause-known : goal.raise-requires-clause-known
raise-requires-clause-known c =
    let same : ◌≡◌ c.take_id.new.self.lit_counts c.args.clauses.now.lit_counts = cc (c.in-Some.ensures.taken) in
    subst (λ counts. 2 * var_bound c.args.lits.now ≤ length counts) (cc) c.requires.known

pub returns : goal.returns
returns c =
    let cs = c.args.clauses.now in let x = c.take_id.new.self in let old = cs.literal_buffer.items in let new = c.new.new.buffer.items in
    let m = cs.buckets in let n = c.push_clause.new.buckets in let hash = c.args.hash in let r = c.args.redundant in
    let e = c.in_ok-kept.ensures in let p = c.in_ok-push_clause.ensures in
    let same_buffer : x.literal_buffer.items ≡ old = simp (c.in-Some.ensures.taken) in
    let same_buckets : x.buckets ≡ m = cc (c.in-Some.ensures.taken) in
    let same_counts : ◌≡◌ x.lit_counts cs.lit_counts = cc (c.in-Some.ensures.taken) in
    let kept : take (length old) new ≡ old = rw (← same_buffer) e.kept in
    let longer : length old ≤ length new = let q = ap length same_buffer in omega arith in
    let d = first_copy_of r c.in-Some.id c.in_ok-kept.kept in
    let here : IsWithin d.lits new = e.within in
    let pushed : clauses_at n hash ≡ clauses_at m hash ++ d ∷ [] = cc in
    let others : (k : ℕ) → (k ≡ hash → ⊥) → clauses_at n k ≡ clauses_at m k = λ k ne. cc (p.others k ne) in
    let stored : stored_of new d ≡ new_stored r c.args.lits.now cs.next_clause_id = cc (e.ok, c.in-Some.ensures.id.1) in (
      c.in-Some.ensures.id.0,
      cc (c.in-Some.ensures.id.1),
      record {
        here = cc (stored_in-pushed old new kept m n hash d c.requires.within longer here pushed others);
        others = stored_in-others old new kept m n _ d c.requires.within longer here pushed others;
        within = within-pushed old new kept m n _ d c.requires.within longer here pushed others;
        used = cc (e.used);
        next = cc (c.in-Some.ensures.taken);
        garbage = cc (c.in-Some.ensures.taken);
        held = rw (← same_counts) c.in_ok-raise.ensures.held;
        counted = cc (c.in_ok-raise.ensures.known, same_counts);
        units = cc (c.in-Some.ensures.taken);
        conflict = cc (c.in-Some.ensures.taken);
      },
    )
