use Rattle.std.proofs.Common.{◌≡◌, ◌∙◌, ap, true, false, arith}
use Rattle.clause_store.specs.Buckets.{copies_of}
use Rattle.clause_store.specs.Lits.{IsWithin}
use Rattle.clause_store.specs.Lowered.{is_gone, left_of}
use Rattle.clause_store.proofs.CrowdLemmas.{All-stands, placed-counts}
use Rattle.clause_store.proofs.BucketLemmas.{lowered-goes, lowered-stays, lowered-within, placed-count, placed-stored}
use Rattle.clause_store.proofs.clauses.crowd.Crowd.lower.Goals as goal

pub returns-in_default-lower-clause-missing : goal.returns-in_default-lower-clause-missing
returns-in_default-lower-clause-missing c =
    let p = c.in-Some.ensures.placed in let none : copies_of c.args.redundant c.in-Some.clause ≡ 0 = omega (arith, c.in_default-lower.ensures) in
    (placed-stored _ _ _ _ _ p c.requires.apart, placed-count _ _ _ _ _ p c.requires.apart c.args.redundant ∙ none)

pub returns-then-is_gone-clause-lowered : goal.returns-then-is_gone-clause-lowered
returns-then-is_gone-clause-lowered c =
    let gone : is_gone (left_of c.in-Some-lower.less) ≡ true = cc (c.left_of-left.ensures, c.is_gone.ensures, c.if-is_gone.true) in
    rw (c.leave.ensures, c.find.ensures.same, c.left_of-left.ensures)
    (lowered-goes _ _ _ _ _ c.in-Some.ensures.placed c.requires.apart _ _ c.in-Some-lower.ensures.1 c.in-Some-lower.ensures.0 c.requires.within c.requires.whole gone)

pub returns-else-is_gone-clause-lowered : goal.returns-else-is_gone-clause-lowered
returns-else-is_gone-clause-lowered c =
    let b = c.args.buffer.now in let ls = c.args.lits.now in let ps = c.args.self.now.places.items in let i = c.in-Some.at in let d = c.in-Some.clause in let p = c.in-Some.ensures.placed in
    let less = c.in-Some-lower.less in
    let kept : is_gone (left_of less) ≡ false = cc (c.left_of-left.ensures, c.is_gone.ensures, c.if-is_gone.false) in
    let inside : IsWithin less.lits b = rw c.in-Some-lower.ensures.1 (lowered-within b c.args.redundant d (All-stands (λ e. IsWithin e.lits b) ps i d c.requires.within p.within p.here)) in
    rw (c.find.ensures.same, c.left_of-left.ensures)
    (lowered-stays b ls ps i d p c.requires.apart c.args.redundant less c.in-Some-lower.ensures.1 c.in-Some-lower.ensures.0 c.requires.within c.requires.whole kept inside)

pub invariant_of-self : goal.invariant_of-self
invariant_of-self c =
    let x = c.find.new.self in let p = placed-counts _ _ _ x.places.items _ _ c.in-Some-lower.less c.in-Some.ensures.placed (ap (λ v. v.items) c.find.ensures.same) in
    record { counted = omega (arith, p.0, p.1, x.counted); half = omega (arith, p.0, x.half); few_notes = omega (arith, p.0, x.few_notes) }
