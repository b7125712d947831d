use Rattle.std.proofs.Common.{◌<◌, ◌≤◌, length, sym, ◌∙◌, arith}
use Rattle.lrat_binary.proofs.TellLemmas.{byte_later, byte_told, none_left}
use Rattle.lrat_binary.proofs.telling.are_doubled.Goals as goal

pub returns-in-Told : goal.returns-in-Told
returns-in-Told c =
    let lt : c.loop-byte.byte-index < length c.args.first.now = omega arith in
    sym (byte_told c.args.next c.args.first.now c.loop-byte.byte-index c.loop-byte.sight c.in-Told.answer lt c.in-Told.ensures) ∙ c.loop-byte.invariant

pub loop-byte-preserved : goal.loop-byte-preserved
loop-byte-preserved c =
    let lt : c.loop-byte.byte-index < length c.args.first.now = omega arith in
    sym (byte_later c.args.next c.args.first.now c.loop-byte.byte-index c.loop-byte.sight c.in-Later.later lt c.in-Later.ensures) ∙ c.loop-byte.invariant

pub returns : goal.returns
returns c =
    let le : length c.args.first.now ≤ c.loop-byte.byte-index = omega arith in
    sym (none_left c.args.next c.args.first.now c.loop-byte.byte-index c.loop-byte.sight le) ∙ c.loop-byte.invariant
