use Rattle.drat_text.specs.Taking.{source_of, unread_bytes}
use Rattle.drat_text.proofs.LookLemmas.{first_told, looked_on, none_text}
use Rattle.drat_text.proofs.reader.look.Goals as goal

pub returns-in_default-clause-format : goal.returns-in_default-clause-format
returns-in_default-clause-format g c =
    let peeked = rw c.in_default.is at c.in_ok-first.ensures.peek in
    (peeked.0, none_text g.G.Grammar.rules (unread_bytes g.R.Read.remaining c.args.bytes.now) peeked.1)

pub returns-in-Some-first_tells-clause-format : goal.returns-in-Some-first_tells-clause-format
returns-in-Some-first_tells-clause-format g c =
    let peeked = rw c.in-Some.is at c.in_ok-first.ensures.peek in
    (peeked.0, first_told g.G.Grammar.rules (unread_bytes g.R.Read.remaining c.args.bytes.now) c.in-Some.first _ peeked.1 c.in-Some-first_tells.ensures)

pub returns-in-None-clause-format : goal.returns-in-None-clause-format
returns-in-None-clause-format g c =
    let peeked = rw c.in-Some.is at c.in_ok-first.ensures.peek in
    looked_on g.G.Grammar.rules _ _ _ c.in-Some.first (source_of c.look_on.new.self) c.look_on.result peeked.0 peeked.1 c.in-None.ensures c.look_on.ensures.format
