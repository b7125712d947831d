use Rattle.std.proofs.Common.{[]}
use Rattle.std.specs.Prelude.{IfErr}
use Rattle.std.proofs.lemmas.Bool.{false≢true}
use Rattle.sat_formula.proofs.Exits.{exits}
use Rattle.sat_formula.proofs.Readings.{leads_nil}
use Rattle.sat_formula.proofs.Sources.{room_falls, room_less}
use Rattle.answer_text.specs.Reading.{FailsBy}
use Rattle.answer_text.specs.automaton.Places.{after}
use Rattle.answer_text.proofs.ConsistencyLemmas.{taken_consistent}
use Rattle.answer_text.proofs.ReadingLemmas.{byte_on, ends_ill, ends_well, fails_taken}
use Rattle.answer_text.proofs.reader.read_answer.Goals as goal

pub bytes-init : goal.bytes-init
bytes-init g c = record {
  room = (_, c.limited-source.ensures.room);
  read = record {
    lits = [];
    apart = λ m t n. false≢true t;
    has = c.new-literals.ensures;
    leads = rw (c.limited-source.ensures.bytes, c.start-spot.ensures) (leads_nil _ _);
  };
}

pub bytes-preserved : goal.bytes-preserved
bytes-preserved g c =
    let so_far = c.bytes.invariant.read in
    let w = c.in_ok-spot-in-Ok.ensures so_far.lits so_far.has in
    let room = room_less _ _ _ c.in-Ok.ensures.room c.bytes.invariant.room.1 in
    record {
      room = (room.0, room.1);
      read = record {
        lits = w.0;
        apart = taken_consistent so_far.lits _ (after c.bytes.spot c.in-Ok.byte) w.0 _ so_far.apart w.1;
        has = w.2;
        leads = byte_on _ _ _ so_far.lits _ c.in-Ok.byte w.0 _ so_far.leads c.in-Ok.ensures.byte w.1;
      };
    }

pub bytes-smaller : goal.bytes-smaller
bytes-smaller g c = room_falls _ _ _ c.in-Ok.ensures.room c.bytes.invariant.room.1

pub returns-in_err-spot-in-Ok-clause-fault : goal.returns-in_err-spot-in-Ok-clause-fault
returns-in_err-spot-in-Ok-clause-fault g c =
    let so_far = c.bytes.invariant.read in
    exits (λ r. IfErr r (FailsBy (g.R.Read.remaining c.args.answer))) _ _ c.from_residual.ensures.1
    (fails_taken _ _ _ so_far.lits _ c.in-Ok.byte c.take.new.literals _ so_far.leads c.in-Ok.ensures.byte (c.in_err-spot-in-Ok.ensures so_far.lits so_far.has))

pub returns-in-Err-End-clause-lists : goal.returns-in-Err-End-clause-lists
returns-in-Err-End-clause-lists g c =
    let so_far = c.bytes.invariant.read in
    ends_well _ _ _ so_far.lits _ _ so_far.apart so_far.leads c.in-Err-End.ensures.byte.kept (c.in-Err-End.ensures.byte.at_end c.in-Err-End.field-0-is)
    (c.in_ok-end-in-Err-End.ensures so_far.lits so_far.has)

pub returns-in_err-end-in-Err-End-clause-fault : goal.returns-in_err-end-in-Err-End-clause-fault
returns-in_err-end-in-Err-End-clause-fault g c =
    let so_far = c.bytes.invariant.read in
    exits (λ r. IfErr r (FailsBy (g.R.Read.remaining c.args.answer))) _ _ c.from_residual-in_err-end-in-Err-End.ensures.1
    (ends_ill _ _ _ so_far.lits _ _ so_far.leads c.in-Err-End.ensures.byte.kept (c.in-Err-End.ensures.byte.at_end c.in-Err-End.field-0-is)
    (c.in_err-end-in-Err-End.ensures so_far.lits so_far.has))
