use Rattle.std.proofs.Common.{rules}
use Rattle.drat_text.specs.Taking.{unread_bytes}
use Rattle.session_text.specs.Content.{content_of}
use Rattle.session_text.specs.NextLine.{Answers}
use Rattle.session_text.specs.automaton.Texts.{ending_at}
use Rattle.sat_formula.proofs.Exits.{exits}
use Rattle.session_text.proofs.ReadingLemmas.{answers_end, answers_fault, byte_fails, byte_goes, byte_says, ends_by, text_ends}
use Rattle.session_text.proofs.reader.SessionReader.next_line.Goals as goal

pub returns-in_err-kind-in-Ok-clause-reads : goal.returns-in_err-kind-in-Ok-clause-reads
returns-in_err-kind-in-Ok-clause-reads g c =
    exits (λ r. Answers g.R.Read.remaining c.args.self.now (record { bytes = c.next_byte.new.self; lists = c.take.new.lists; spot = c.take.new.spot }) r) _ _ c.from_residual.ensures.1
    (answers_fault g.R.Read.remaining c.args.self.now (record { bytes = c.next_byte.new.self; lists = c.take.new.lists; spot = c.take.new.spot }) _
    (byte_fails (unread_bytes g.R.Read.remaining c.next_byte.new.self) (content_of c.bytes.self.lists) c.bytes.self.spot c.in-Ok.byte (content_of c.take.new.lists) c.take.new.spot
    _ c.bytes.invariant.read c.in-Ok.ensures.byte c.in_err-kind-in-Ok.ensures))

pub returns-in-Some-clause-reads : goal.returns-in-Some-clause-reads
returns-in-Some-clause-reads g c = (
  byte_says _ _ c.in-Ok.byte _ _ c.in-Some.kind c.bytes.invariant.read c.in-Ok.ensures.byte (rw c.in-Some.is at c.in_ok-kind-in-Ok.ensures),
  search rules,
)

pub bytes-preserved : goal.bytes-preserved
bytes-preserved g c = record {
  room = search rules;
  read = byte_goes _ _ c.in-Ok.byte _ _ c.bytes.invariant.read c.in-Ok.ensures.byte (rw c.in_default.is at c.in_ok-kind-in-Ok.ensures);
}

pub returns-in-Err-End-clause-reads : goal.returns-in-Err-End-clause-reads
returns-in-Err-End-clause-reads g c =
    answers_end g.R.Read.remaining c.args.self.now (record { bytes = c.next_byte.new.self; lists = c.bytes.self.lists; spot = c.bytes.self.spot }) c.end.result
    (ends_by (unread_bytes g.R.Read.remaining c.next_byte.new.self) (ending_at c.bytes.self.spot) c.end.result
    (text_ends (unread_bytes g.R.Read.remaining c.next_byte.new.self) (content_of c.bytes.self.lists) c.bytes.self.spot c.bytes.invariant.read
    (rw c.in-Err-End.field-0-is at c.in-Err-End.ensures.byte)) c.end.ensures)
