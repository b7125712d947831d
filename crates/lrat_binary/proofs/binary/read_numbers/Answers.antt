use Rattle.std.proofs.Common.{Ok, Err, rules}
use Rattle.drat_text.specs.Places.{ninth_last}
use Rattle.lrat_binary.specs.Drafts.{line_of, slot_of}
use Rattle.lrat_binary.specs.Places.{Gives, Goes, Within, said}
use Rattle.drat_text.specs.Taking.{source_of}
use Rattle.lrat_binary.proofs.CodeLemmas.{code_read}
use Rattle.lrat_binary.proofs.DraftLemmas.{code_faulty}
use Rattle.sat_formula.proofs.Exits.{error_is}
use Rattle.sat_formula.proofs.Readings.{leads_nil, leads_on}
use Rattle.lrat_binary.proofs.Takings.{on_as, stopped_on}
use Rattle.lrat_binary.proofs.binary.read_numbers.Goals as goal

pub numbers-init : goal.numbers-init
numbers-init g c = record { room = search rules; read = λ before. leads_nil _ _ }

pub read_code-requires : goal.read_code-requires
read_code-requires g c = ninth_last

pub returns-in_err-number-clause-read : goal.returns-in_err-number-clause-read
returns-in_err-number-clause-read g c = λ before.
    rw (error_is _ _ c.from_residual.ensures.1)
    (stopped_on _ c.args.ids before (source_of c.read_code.new.bytes) _ (c.numbers.invariant.read before)
    (code_read c.args.ids before (slot_of c.numbers.draft) _ _ (source_of c.read_code.new.bytes) (Err _) c.in_err-number.ensures.read))

pub returns-in_err-head-clause-read : goal.returns-in_err-head-clause-read
returns-in_err-head-clause-read g c = λ before.
    rw (error_is _ _ c.from_residual-in_err-head.ensures.1)
    (stopped_on _ c.args.ids before (source_of c.read_code.new.bytes) _ (c.numbers.invariant.read before)
    (code_faulty c.args.ids before c.take.new.self (said c.args.ids (slot_of c.numbers.draft) c.in_ok-number.number) (source_of c.read_code.new.bytes) _
    (code_read c.args.ids before (slot_of c.numbers.draft) _ _ (source_of c.read_code.new.bytes) (Ok c.in_ok-number.number) c.in_ok-number.ensures.read) c.in_err-head.ensures))

pub returns-in-Some-clause-read : goal.returns-in-Some-clause-read
returns-in-Some-clause-read g c = λ before.
    leads_on (c.numbers.invariant.read before)
    (on_as c.args.ids before {d = said c.args.ids (slot_of c.numbers.draft) c.in_ok-number.number} {e = Gives (line_of c.take.new.self c.in-Some.head)}
    (code_read c.args.ids before (slot_of c.numbers.draft) _ _ (source_of c.read_code.new.bytes) (Ok c.in_ok-number.number) c.in_ok-number.ensures.read) (rw c.in-Some.is at c.in_ok-head.ensures))

pub numbers-preserved : goal.numbers-preserved
numbers-preserved g c = record {
  room = search rules;
  read = λ before.
      leads_on (c.numbers.invariant.read before)
      (on_as c.args.ids before {d = said c.args.ids (slot_of c.numbers.draft) c.in_ok-number.number} {e = Goes (Within (slot_of c.take.new.self))}
      (code_read c.args.ids before (slot_of c.numbers.draft) _ _ (source_of c.read_code.new.bytes) (Ok c.in_ok-number.number) c.in_ok-number.ensures.read) (rw c.in_default.is at c.in_ok-head.ensures));
}
