use Rattle.std.proofs.Common.{rules, arith}
use Rattle.std.proofs.lemmas.List.{drop_all}
use Rattle.drat_text.proofs.Takings.{source_none}
use Rattle.drat_text.proofs.bytes.Bytes.next_byte.Goals as goal

pub returns-in-Err-clause-byte : goal.returns-in-Err-clause-byte
returns-in-Err-clause-byte g c = rw c.from.ensures
    (source_none _ _ c.next_byte.new.self _ c.in-Err.reason
    (drop_all c.args.self.now.taken c.args.self.now.front.items (omega (arith, c.if-self-len.false, c.args.self.now.front.ok.0, c.len.ensures)))
    c.in-Err.ensures.byte (λ e. search rules))
