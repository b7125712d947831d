use Rattle.std.specs.Prelude.{IfErr}
use Rattle.sat_formula.proofs.Exits.{exits}
use Rattle.sat_formula.proofs.Readings.{leads_nil}
use Rattle.sat_formula.proofs.Sources.{room_falls, room_less}
use Rattle.stimulus_text.specs.Faults.{FailsBy}
use Rattle.stimulus_text.proofs.ReadingLemmas.{byte_on, ends_ill, ends_well, fails_taken}
use Rattle.stimulus_text.proofs.reader.read_stimulus.Goals as goal

pub bytes-init : goal.bytes-init
bytes-init g c = record {
  room = (_, c.limited-source.ensures.room);
  read = rw (c.limited-source.ensures.bytes, c.new-told.ensures, c.start-spot.ensures) (leads_nil _ _);
}

pub bytes-preserved : goal.bytes-preserved
bytes-preserved g c =
    let room = room_less _ _ _ c.in-Ok.ensures.room c.bytes.invariant.room.1 in
    record {
      room = (room.0, room.1);
      read = byte_on c.args.shape _ _ _ _ _ c.in-Ok.byte _ _ c.bytes.invariant.read c.in-Ok.ensures.byte c.in_ok-spot-in-Ok.ensures;
    }

pub bytes-smaller : goal.bytes-smaller
bytes-smaller g c = room_falls _ _ _ c.in-Ok.ensures.room c.bytes.invariant.room.1

pub returns-in_err-spot-in-Ok-clause-fault : goal.returns-in_err-spot-in-Ok-clause-fault
returns-in_err-spot-in-Ok-clause-fault g c =
    exits (λ r. IfErr r (FailsBy c.args.shape (g.R.Read.remaining c.args.text))) _ _ c.from_residual.ensures.1
    (fails_taken c.args.shape _ _ _ _ _ c.in-Ok.byte c.take.new.told _ c.bytes.invariant.read c.in-Ok.ensures.byte c.in_err-spot-in-Ok.ensures)

pub returns-in-Err-End-clause-reads : goal.returns-in-Err-End-clause-reads
returns-in-Err-End-clause-reads g c =
    ends_well c.args.shape _ _ _ _ _ c.in_ok-end-in-Err-End.field-0 c.bytes.invariant.read c.in-Err-End.ensures.byte.kept
    (c.in-Err-End.ensures.byte.at_end c.in-Err-End.field-0-is) c.in_ok-end-in-Err-End.ensures

pub returns-in_err-end-in-Err-End-clause-fault : goal.returns-in_err-end-in-Err-End-clause-fault
returns-in_err-end-in-Err-End-clause-fault g c =
    exits (λ r. IfErr r (FailsBy c.args.shape (g.R.Read.remaining c.args.text))) _ _ c.from_residual-in_err-end-in-Err-End.ensures.1
    (ends_ill c.args.shape _ _ _ _ _ _ c.bytes.invariant.read c.in-Err-End.ensures.byte.kept (c.in-Err-End.ensures.byte.at_end c.in-Err-End.field-0-is)
    c.in_err-end-in-Err-End.ensures)
