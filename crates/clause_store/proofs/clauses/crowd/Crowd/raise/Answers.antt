use Rattle.std.proofs.Common.{ap, sym, arith}
use Rattle.clause_store.specs.Lits.{IsWithin}
use Rattle.clause_store.proofs.BucketLemmas.{count_limit-some, placed-count, placed-found, placed-raised, placed-within, raised-within}
use Rattle.clause_store.proofs.CrowdLemmas.{All-stands, placed-counts}
use Rattle.clause_store.proofs.FoundLemmas.{count_of-absent, found_in-absent, raise-absent}
use Rattle.clause_store.proofs.clauses.crowd.Crowd.raise.Goals as goal

pub returns-in_default-clause-found : goal.returns-in_default-clause-found
returns-in_default-clause-found c = sym (found_in-absent c.args.lits.now _ c.in_default.ensures.missing)

pub returns-in_default-clause-raised : goal.returns-in_default-clause-raised
returns-in_default-clause-raised c = cc (c.find.ensures.same, raise-absent c.args.lits.now c.args.redundant _ c.in_default.ensures.missing)

pub returns-in_default-clause-room : goal.returns-in_default-clause-room
returns-in_default-clause-room c = rw (count_of-absent c.args.lits.now c.args.redundant _ c.in_default.ensures.missing) count_limit-some

pub returns-in-Some-raise-clause-found : goal.returns-in-Some-raise-clause-found
returns-in-Some-raise-clause-found c = sym (placed-found _ _ _ _ _ c.in-Some.ensures.placed c.requires.apart)

pub returns-in-Some-raise-clause-raised : goal.returns-in-Some-raise-clause-raised
returns-in-Some-raise-clause-raised c =
    cc (c.find.ensures.same, c.in-Some-raise.ensures.1, placed-raised _ _ _ _ _ c.in-Some.ensures.placed c.requires.apart c.args.redundant)

pub returns-in-Some-raise-clause-within : goal.returns-in-Some-raise-clause-within
returns-in-Some-raise-clause-within c =
    let b = c.args.buffer.now in let ps = c.args.self.now.places.items in let i = c.in-Some.at in let d = c.in-Some.clause in let p = c.in-Some.ensures.placed in
    let inside : IsWithin c.in-Some-raise.more.lits b = rw c.in-Some-raise.ensures.1 (raised-within b c.args.redundant d (All-stands (λ e. IsWithin e.lits b) ps i d c.requires.within p.within p.here)) in
    rw c.find.ensures.same (placed-within b c.args.lits.now ps i d p c.requires.apart c.in-Some-raise.more c.requires.within inside)

pub returns-in-Some-raise-clause-room : goal.returns-in-Some-raise-clause-room
returns-in-Some-raise-clause-room c = rw (placed-count _ _ _ _ _ c.in-Some.ensures.placed c.requires.apart c.args.redundant) c.in-Some-raise.ensures.0

pub returns-in-None-clause-exhausted : goal.returns-in-None-clause-exhausted
returns-in-None-clause-exhausted c =
    rw (placed-count _ _ _ _ _ c.in-Some.ensures.placed c.requires.apart c.args.redundant) (omega (arith, c.in-None.ensures))

pub invariant_of-self : goal.invariant_of-self
invariant_of-self c =
    let x = c.find.new.self in let p = placed-counts _ _ _ x.places.items _ _ c.in-Some-raise.more c.in-Some.ensures.placed (ap (λ v. v.items) c.find.ensures.same) in
    record { counted = omega (arith, p.0, p.1, x.counted); half = omega (arith, p.0, x.half); few_notes = omega (arith, p.0, x.few_notes) }
