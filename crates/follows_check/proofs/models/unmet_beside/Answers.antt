use Rattle.std.proofs.Common.{arith}
use Rattle.follows_check.specs.Minimal.{truth_in}
use Rattle.follows_check.proofs.Needed.{all_met}
use Rattle.follows_check.proofs.models.unmet_beside.Goals as goal

pub returns : goal.returns
returns c = λ none.
    all_met (truth_in c.args.values.now) c.args.place c.loop-index.index c.loop-index.clauses c.args.formula.now (omega (arith, c.loop-index-test.false, c.len-index-end.ensures)) c.loop-index.invariant.counted
    c.loop-index.invariant.met
