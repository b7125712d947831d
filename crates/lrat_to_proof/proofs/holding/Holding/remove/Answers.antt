use Rattle.std.proofs.Common.{◌==◌, refl, arith}
use Rattle.std.proofs.lemmas.Bool.Decides.{nat_tests}
use Rattle.lrat_to_proof.specs.Standing.{is_derived}
use Rattle.clause_table.specs.Named.{clause_of}
use Rattle.lrat_to_proof.proofs.HoldingLemmas.{entries_drop, holding_ext}
use Rattle.lrat_to_proof.proofs.holding.Holding.remove.Goals as goal

pub returns : goal.returns
returns c =
    let old = c.args.self.now in
    holding_ext _ _ _ _ _ _
    (λ k. rw (c.collect_garbage.ensures.same k, c.remove-2.ensures.removed k)
    (entries_drop (k == c.args.id) _ (is_derived old k) (clause_of old.clauses k) (λ apart. let kept = c.remove.ensures.updates.0 k in grind (arith, nat_tests))))
    refl refl
