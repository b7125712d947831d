use Rattle.std.proofs.Common.{sym, subst, ◌∙◌}
use Rattle.clause_store.specs.Crowds.{IsPlaced}
use Rattle.clause_store.proofs.FoundLemmas.{count_of-absent}
use Rattle.clause_store.proofs.BucketLemmas.{placed-count}
use Rattle.clause_store.proofs.clauses.crowd.Crowd.copies.Goals as goal

pub returns-in-Some : goal.returns-in-Some
returns-in-Some c =
    let b = c.args.buffer.now in let ls = c.args.lits.now in let i = c.in-Some.field-0-0 in let d = c.in-Some.clause in
    let p = subst (λ ps. IsPlaced b ls ps i d) c.deref.ensures.value c.in-Some.ensures.placed in
    c.copies_of.ensures ∙ sym (placed-count b ls c.args.self.now.places.items i d p c.requires.apart c.args.redundant)

pub returns-in-None : goal.returns-in-None
returns-in-None c = sym (count_of-absent c.args.lits.now c.args.redundant _ (rw c.deref.ensures.value at c.in-None.ensures.missing))
