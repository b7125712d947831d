use Rattle.std.proofs.Common.{arith, length, nat_eq, refl, ap, ap₂}
use Rattle.std.specs.HashSet.{contains}
use Rattle.clause_table.specs.Named.{clause_of}
use Rattle.lrat_to_proof.specs.Holding.{hold_from}
use Rattle.lrat_to_proof.proofs.HoldingLemmas.{holds_more, holds_nothing}
use Rattle.lrat_to_proof.proofs.holding.Holding.new.Goals as goal

pub loop-clause-init : goal.loop-clause-init
loop-clause-init c =
    let none = holds_nothing (clause_of c.in_ok-new.field-0) (contains nat_eq c.new-2.result) (contains nat_eq c.new-3.result) c.in_ok-new.ensures.none (λ m. rw c.new-3.ensures.empty refl) in
    let gives = c.into_iter-clause-iterator.ensures.into_iter_gives in
    (ap₂ (hold_from 1) gives none, omega (arith, ap length gives), omega arith)

pub loop-clause-preserved : goal.loop-clause-preserved
loop-clause-preserved c =
    let steps = c.in-Some.ensures.steps in
    let put = rw (c.deref.ensures.value, c.in_ok-copy_canonical.ensures.items) at c.in_ok-put.ensures in
    (holds_more _ _ _ _ _ _ _ steps c.loop-clause.invariant.0 put, omega (arith, ap length steps), omega arith)
