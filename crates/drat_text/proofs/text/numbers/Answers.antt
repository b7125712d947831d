use Rattle.std.proofs.Common.{rules}
use Rattle.drat_text.specs.Taking.{source_of}
use Rattle.drat_text.specs.declared.bytes.Format.TheVariants.{Text}
use Rattle.drat_text.proofs.NumberLemmas.{ended, faulty, going, says_on, unfinished}
use Rattle.drat_text.proofs.Takings.{error_is, stopped_on}
use Rattle.drat_text.proofs.text.numbers.Goals as goal

pub returns-in_err-found-clause-read : goal.returns-in_err-found-clause-read
returns-in_err-found-clause-read g c = λ before all said.
    let n = c.numbers.number in let G = g.G.Grammar in
    rw (error_is _ _ c.from_residual.ensures.1) (faulty G.rules (G.step_of c.take.new.self) (G.slot_of c.take.new.self) (G.rules.said (G.slot_of c.numbers.draft) n.negative n.value)
    _ _ _ n.last (source_of c.numbers.bytes) _ (c.numbers.invariant.read before all said) c.in_err-found.ensures)

pub returns-in-Some-clause-read : goal.returns-in-Some-clause-read
returns-in-Some-clause-read g c = λ before all said.
    let n = c.numbers.number in let G = g.G.Grammar in
    ended G.rules (G.step_of c.take.new.self) (G.slot_of c.take.new.self) (G.rules.said (G.slot_of c.numbers.draft) n.negative n.value)
    _ _ _ n.last c.in-Some.found (c.numbers.invariant.read before all said) (rw c.in-Some.is at c.in_ok-found.ensures)

pub returns-then-last-clause-read : goal.returns-then-last-clause-read
returns-then-last-clause-read g c = λ before all said.
    let n = c.numbers.number in let G = g.G.Grammar in
    unfinished G.rules (G.step_of c.take.new.self) (G.slot_of c.take.new.self) (G.rules.said (G.slot_of c.numbers.draft) n.negative n.value)
    n.last c.if-last.true (c.numbers.invariant.read before all said) (rw c.in_default.is at c.in_ok-found.ensures)

pub returns-in_err-number-clause-read : goal.returns-in_err-number-clause-read
returns-in_err-number-clause-read g c = λ before all said.
    let n = c.numbers.number in let G = g.G.Grammar in
    rw (error_is _ _ c.from_residual-in_err-number.ensures.1) (stopped_on G.rules Text _ (source_of c.next_number.new.bytes) _
    (going G.rules (G.step_of c.take.new.self) (G.slot_of c.take.new.self) (G.rules.said (G.slot_of c.numbers.draft) n.negative n.value)
    n.last c.if-last.false (c.numbers.invariant.read before all said) (rw c.in_default.is at c.in_ok-found.ensures))
    (c.in_err-number.ensures.read (G.slot_of c.take.new.self)))

pub numbers-preserved : goal.numbers-preserved
numbers-preserved g c =
    let n = c.numbers.number in let next = c.in_ok-number.number in let G = g.G.Grammar in
    record {
      room = search rules;
      read = λ before all said. says_on G.rules _ (G.rules.said (G.slot_of c.take.new.self) next.negative next.value) next.last
          (going G.rules (G.step_of c.take.new.self) (G.slot_of c.take.new.self) (G.rules.said (G.slot_of c.numbers.draft) n.negative n.value)
          n.last c.if-last.false (c.numbers.invariant.read before all said) (rw c.in_default.is at c.in_ok-found.ensures))
          (c.in_ok-number.ensures.read (G.slot_of c.take.new.self));
    }
