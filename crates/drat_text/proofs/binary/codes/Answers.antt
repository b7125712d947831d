use Rattle.std.proofs.Common.{Ok, Err, rules, false}
use Rattle.drat_text.specs.Taking.{source_of}
use Rattle.drat_text.specs.declared.bytes.Format.TheVariants.{Binary}
use Rattle.drat_text.specs.Places.{Gives, Goes, Within, coded}
use Rattle.drat_text.proofs.CodeLemmas.{code_read}
use Rattle.drat_text.proofs.NumberLemmas.{code_faulty}
use Rattle.drat_text.proofs.Takings.{error_is, given_on, leads_nil, leads_on, on_as, stopped_on}
use Rattle.drat_text.proofs.binary.codes.Goals as goal

pub codes-init : goal.codes-init
codes-init g c = record { room = search rules; read = leads_nil _ _ }

pub returns-in_err-code-clause-read : goal.returns-in_err-code-clause-read
returns-in_err-code-clause-read g c =
    let G = g.G.Grammar in
    rw (error_is _ _ c.from_residual.ensures.1)
    (stopped_on G.rules Binary _ (source_of c.read_code.new.bytes) _ c.codes.invariant.read (code_read G.rules (G.slot_of c.codes.draft) _ _ _ (source_of c.read_code.new.bytes) (Err _) c.last_weight.ensures.is c.in_err-code.ensures.read))

pub returns-in_err-found-clause-read : goal.returns-in_err-found-clause-read
returns-in_err-found-clause-read g c =
    let G = g.G.Grammar in let d = c.take_code.new.draft in
    rw (error_is _ _ c.from_residual-in_err-found.ensures.1) (stopped_on G.rules Binary _ (source_of c.read_code.new.bytes) _ c.codes.invariant.read
    (code_faulty G.rules (G.step_of d) (G.slot_of d) (coded G.rules (G.slot_of c.codes.draft) c.in_ok-code.code) (source_of c.read_code.new.bytes) _
    (code_read G.rules (G.slot_of c.codes.draft) _ _ _ (source_of c.read_code.new.bytes) (Ok c.in_ok-code.code) c.last_weight.ensures.is c.in_ok-code.ensures.read) c.in_err-found.ensures))

pub returns-in-Some-clause-read : goal.returns-in-Some-clause-read
returns-in-Some-clause-read g c =
    let G = g.G.Grammar in let d = c.take_code.new.draft in let n = coded G.rules (G.slot_of c.codes.draft) c.in_ok-code.code in
    given_on G.rules Binary _ (G.step_of d c.in-Some.found) false c.codes.invariant.read
    (on_as G.rules Binary {d = n} {e = Gives (G.step_of d c.in-Some.found)} (code_read G.rules (G.slot_of c.codes.draft) _ _ _ (source_of c.read_code.new.bytes) (Ok c.in_ok-code.code) c.last_weight.ensures.is c.in_ok-code.ensures.read) (rw c.in-Some.is at c.in_ok-found.ensures))

pub codes-preserved : goal.codes-preserved
codes-preserved g c =
    let G = g.G.Grammar in let d = c.take_code.new.draft in let n = coded G.rules (G.slot_of c.codes.draft) c.in_ok-code.code in
    record {
      room = search rules;
      read = leads_on c.codes.invariant.read
          (on_as G.rules Binary {d = n} {e = Goes (Within (G.slot_of d))} (code_read G.rules (G.slot_of c.codes.draft) _ _ _ (source_of c.read_code.new.bytes) (Ok c.in_ok-code.code) c.last_weight.ensures.is c.in_ok-code.ensures.read) (rw c.in_default.is at c.in_ok-found.ensures));
    }
