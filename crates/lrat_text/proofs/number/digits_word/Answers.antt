use Rattle.std.proofs.Common.{arith}
use Rattle.lrat_text.proofs.FirstNumberLemmas.{space_after}
use Rattle.lrat_text.proofs.number.digits_word.Goals as goal

pub returns-then-end-eq32 : goal.returns-then-end-eq32
returns-then-end-eq32 c =
    space_after c.args.bytes.now c.leading_digits-value.result.1 c.leading_digits-value.result.0 c.requires c.leading_digits-value.ensures (omega (arith, c.if-len-eq0.false)) c.if-end-eq32.true
