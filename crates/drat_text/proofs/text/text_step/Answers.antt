use Rattle.drat_text.specs.Taking.{source_of, unread_bytes, by_byte}
use Rattle.drat_text.specs.declared.bytes.Format.TheVariants.{Text}
use Rattle.drat_text.specs.Proofs.{outcome_in}
use Rattle.drat_text.proofs.NumberLemmas.{says_on, outside_bare, outside_letter, outside_none}
use Rattle.drat_text.proofs.Takings.{error_is, leads_as, stopped_on}
use Rattle.drat_text.proofs.text.text_step.Goals as goal

pub returns-in_err-first-clause-read : goal.returns-in_err-first-clause-read
returns-in_err-first-clause-read g c = rw (error_is _ _ c.from_residual.ensures.1) c.in_err-first.ensures.read

pub returns-in_err-first_number-clause-read : goal.returns-in_err-first_number-clause-read
returns-in_err-first_number-clause-read g c =
    let G = g.G.Grammar in let d = c.begin.new.self in
    rw (error_is _ _ c.from_residual-in_err-first_number.ensures.1) (stopped_on G.rules Text _ (source_of c.next_number.new.bytes) _
    (leads_as c.in_ok-first.ensures.read (outside_letter G.rules c.in_ok-first.first (G.slot_of d) c.in_ok-first.ensures.first (rw c.if-begin.true at c.begin.ensures)))
    (c.in_err-first_number.ensures.read (G.slot_of d)))

pub returns-then-begin-clause-read : goal.returns-then-begin-clause-read
returns-then-begin-clause-read g c =
    let G = g.G.Grammar in let d = c.begin.new.self in let n = c.in_ok-first_number.first_number in
    c.numbers.ensures.read (outcome_in G.rules Text) (unread_bytes g.R.Read.remaining c.args.bytes.now)
    (says_on G.rules _ (G.rules.said (G.slot_of d) n.negative n.value) n.last
    (leads_as c.in_ok-first.ensures.read (outside_letter G.rules c.in_ok-first.first (G.slot_of d) c.in_ok-first.ensures.first (rw c.if-begin.true at c.begin.ensures)))
    (c.in_ok-first_number.ensures.read (G.slot_of d)))

pub returns-then-not-begin_bare-clause-read : goal.returns-then-not-begin_bare-clause-read
returns-then-not-begin_bare-clause-read g c =
    let G = g.G.Grammar in
    by_byte (leads_as c.in_ok-first.ensures.read
    (outside_none G.rules c.in_ok-first.first c.in_ok-first.ensures.first (rw c.if-begin.false at c.begin.ensures) (rw c.if-not-begin_bare.true at c.begin_bare.ensures)))

pub returns-in_err-first_number-2-clause-read : goal.returns-in_err-first_number-2-clause-read
returns-in_err-first_number-2-clause-read g c =
    let G = g.G.Grammar in let d = c.begin_bare.new.self in
    rw (error_is _ _ c.from_residual-in_err-first_number-2.ensures.1) (stopped_on G.rules Text _ (source_of c.number.new.bytes) _
    (leads_as c.in_ok-first.ensures.read
    (outside_bare G.rules c.in_ok-first.first (G.slot_of d) c.in_ok-first.ensures.first (rw c.if-begin.false at c.begin.ensures) (rw c.if-not-begin_bare.false at c.begin_bare.ensures)))
    (c.in_err-first_number-2.ensures.read (G.slot_of d)))

pub returns-clause-read : goal.returns-clause-read
returns-clause-read g c =
    let G = g.G.Grammar in let d = c.begin_bare.new.self in let n = c.in_ok-first_number-2.first_number in
    c.numbers-2.ensures.read (outcome_in G.rules Text) (unread_bytes g.R.Read.remaining c.args.bytes.now)
    (says_on G.rules _ (G.rules.said (G.slot_of d) n.negative n.value) n.last
    (leads_as c.in_ok-first.ensures.read
    (outside_bare G.rules c.in_ok-first.first (G.slot_of d) c.in_ok-first.ensures.first (rw c.if-begin.false at c.begin.ensures) (rw c.if-not-begin_bare.false at c.begin_bare.ensures)))
    (c.in_ok-first_number-2.ensures.read (G.slot_of d)))
