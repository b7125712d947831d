use Rattle.std.proofs.Common.{arith, ◌^◌, ◌<◌}
use Rattle.std.proofs.lemmas.Grind.{common_steps}
use Rattle.std.proofs.lemmas.List.{take_all}
use Rattle.std.proofs.lemmas.List.Elements.{All-more}
use Rattle.lrat_text.specs.Grammar.{hint_of}
use Rattle.sat_output.specs.LratBytes.{hint_id}
use Rattle.sat_output.proofs.binary.push_hints.Goals as goal

pub loop-hint-preserved : goal.loop-hint-preserved
loop-hint-preserved c = record {
  pushed = grind (arith, common_steps);
  small = All-more (λ hint. hint_id (hint_of hint) < 2 ^ 63) c.args.hints.now c.loop-hint.hint-index _ c.loop-hint-test.true c.loop-hint.invariant.small c.in_ok-push_hint.ensures.small;
}

pub returns-clause-small : goal.returns-clause-small
returns-clause-small c = rw (take_all c.loop-hint.hint-index c.args.hints.now c.loop-hint-test.false) at c.loop-hint.invariant.small
