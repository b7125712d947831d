use Rattle.std.proofs.Common.{ap, ◌∙◌}
use Rattle.sat_rules.specs.Named.{negated_set}
use Rattle.lrat_rules.specs.Propagation.{propagate}
use Rattle.clause_table.specs.Named.{clause_of}
use Rattle.session_checker.specs.Refusals.{hints_cause}
use Rattle.session_checker.proofs.Following.{derived_follows}
use Rattle.session_checker.proofs.checker.SessionChecker.derive.Goals as goal

pub invariant_of-self-2 : goal.invariant_of-self-2
invariant_of-self-2 c =
    let before = c.judge.new.self in
    record {
      sound = derived_follows before.given.clauses (clause_of before.named) (clause_of c.store.new.named) c.args.id c.args.lemma.now c.args.hints.now c.in_ok-store.ensures.put
          (ap (λ n. hints_cause (propagate (clause_of n) (negated_set c.args.lemma.now) c.args.hints.now)) c.in_ok-judge.ensures.named ∙ c.in_ok-judge.ensures.ok) before.sound;
    }
