use Rattle.std.proofs.Common.{refl}
use Rattle.follows_check.specs.Minimal.{truth_in}
use Rattle.follows_check.proofs.Needed.{needed_more}
use Rattle.follows_check.proofs.models.check_models.Goals as goal

pub loop-index-preserved : goal.loop-index-preserved
loop-index-preserved g c = needed_more c.args.formula.now c.loop-index.index (truth_in c.assign.new.self) c.loop-index.invariant (c.in-None.ensures refl)
