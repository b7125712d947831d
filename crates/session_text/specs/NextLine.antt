-- What a call for the next line answers.
--     bytes_left, room_left, spot_of, content_read, line_number      what a caller knows of a reader
--     Answers      what the call answers
use Rattle.std.specs.Prelude.{◌≡◌, ℕ, ◌<◌, ◌-◌, List, [], Option, Some, None, Result, Ok, Err, IfSome}
use Rattle.drat_text.specs.Taking.{EndsAll, Leads, room_in, unread_bytes}
use Rattle.session_text.specs.declared.fault.TextKind.{TextKind}
use Rattle.sat_formula.specs.declared.read_fault.LineNumber.{LineNumber}
use Rattle.sat_formula.specs.declared.read_fault.ReadFault.{ReadFault}
use Rattle.sat_formula.specs.declared.read_fault.ReadFault.TheVariants as faults
use Rattle.session_text.specs.declared.line.LineKind.{LineKind}
use Rattle.session_text.specs.declared.reader.SessionReader.{SessionReader}
use Rattle.session_text.specs.declared.spot.Spot.{Spot}
use Rattle.session_text.specs.Content.{Content, content_of, no_content}
use Rattle.session_text.specs.Outcomes.{Ended, Faulty, Line, Outcome, with_line}
use Rattle.session_text.specs.automaton.Texts.{outcome_at}

module _ {R : Type 0} where
  -- the bytes that are still to come, where the reader beneath tells them
  abbrev pub bytes_left : (R → Option (List ℕ)) → SessionReader R → Option (List ℕ)
  bytes_left remaining r = unread_bytes remaining r.bytes

  -- how many more bytes it takes at most
  abbrev pub room_left : SessionReader R → ℕ
  room_left r = room_in r.bytes

  -- where the reading is
  abbrev pub spot_of : SessionReader R → Spot
  spot_of r = r.spot

  -- what stands in the line that was read last
  abbrev pub content_read : SessionReader R → Content
  content_read r = content_of r.lists

  -- its number
  abbrev pub line_number : SessionReader R → ℕ
  line_number r = r.spot.line - 1

  -- what the bytes to come say
  abbrev pub left_to_say : SessionReader R → List ℕ → Outcome
  left_to_say r bytes = outcome_at no_content r.spot bytes

  -- the line of this kind that was read last
  abbrev pub line_read : SessionReader R → LineKind → Line
  line_read r kind = record { kind = kind; content = content_read r }

  -- the next line of the text, its end or its fault; a failed read and running out of memory can come anywhere
  abbrev pub Answers : (R → Option (List ℕ)) → SessionReader R → SessionReader R →
      Result (Option LineKind) (ReadFault LineNumber TextKind) → Type 0
  Answers remaining old new (Ok (Some kind)) =
      Leads (bytes_left remaining old) (bytes_left remaining new) (left_to_say old)
      (λ more. with_line (line_read new kind) (left_to_say new more))
      × (room_left new < room_left old)
  Answers remaining old new (Ok None) =
      EndsAll (bytes_left remaining old) (bytes_left remaining new) (left_to_say old) ([], Ended)
  Answers remaining old new (Err (faults.Read e)) = Unit {0}
  Answers remaining old new (Err (faults.Wrong at kind)) =
      IfSome (bytes_left remaining old) (λ bytes. left_to_say old bytes ≡ ([], Faulty at.0 kind))
  Answers remaining old new (Err faults.OutOfMemory) = Unit {0}
