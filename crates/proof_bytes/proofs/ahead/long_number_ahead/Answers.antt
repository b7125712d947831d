use Rattle.std.proofs.Common.{arith}
use Rattle.proof_bytes.proofs.Groups.{groups, nine, ten}
use Rattle.proof_bytes.proofs.ahead.long_number_ahead.Goals as goal

pub joined_groups-value-requires : goal.joined_groups-value-requires
joined_groups-value-requires c = groups c.args.bytes.now (λ i. let b = c.type_inv.bytes i in omega arith) c.from_le_bytes-front.result c.from_le_bytes-front.ensures c.if-front.false

pub returns-then-ninth-lt128-clause-read : goal.returns-then-ninth-lt128-clause-read
returns-then-ninth-lt128-clause-read c =
    nine c.args.bytes.now (λ i. let b = c.type_inv.bytes i in omega arith) c.from_le_bytes-front.result c.from_le_bytes-front.ensures
    c.if-front.false c.if-bytes-lt-LONGEST_NUMBER.false c.joined_groups-value.result c.joined_groups-value.ensures.joined
    c.if-ninth-eq0.false c.if-ninth-lt128.true

pub returns-clause-read : goal.returns-clause-read
returns-clause-read c = ten c.args.bytes.now (λ i. let b = c.type_inv.bytes i in
    omega arith) c.from_le_bytes-front.result c.from_le_bytes-front.ensures c.if-front.false c.if-bytes-lt-LONGEST_NUMBER.false c.joined_groups-value.result
    c.joined_groups-value.ensures.joined c.if-ninth-lt128.false c.if-bytes-ne1.false
