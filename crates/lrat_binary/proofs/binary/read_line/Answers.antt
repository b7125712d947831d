use Rattle.std.proofs.Common.{ℕ, Ok, Err, refl}
use Rattle.lrat_binary.specs.Places.{Outside}
use Rattle.drat_text.specs.Taking.{source_of}
use Rattle.lrat_binary.proofs.DraftLemmas.{letter_on, line_on}
use Rattle.sat_formula.proofs.Exits.{error_is}
use Rattle.sat_formula.proofs.Readings.{leads_nil}
use Rattle.lrat_binary.proofs.Takings.{no_byte}
use Rattle.lrat_binary.proofs.binary.read_line.Goals as goal

pub returns-in_err-letter-clause-read : goal.returns-in_err-letter-clause-read
returns-in_err-letter-clause-read g c = λ before.
    rw (error_is _ _ c.from_residual.ensures.1)
    (no_byte c.args.ids before Outside _ (source_of c.next_byte.new.self) _ refl (leads_nil _ _) c.in_err-letter.ensures.byte)

pub returns-in_err-begin-clause-read : goal.returns-in_err-begin-clause-read
returns-in_err-begin-clause-read g c = λ before.
    rw (error_is _ _ c.from_residual-in_err-begin.ensures.1)
    (letter_on c.args.ids before {X = ℕ} _ c.in_ok-letter.letter (source_of c.next_byte.new.self) c.begin.new.self (Err _) (leads_nil _ _) c.in_ok-letter.ensures.byte c.in_err-begin.ensures)

pub returns-clause-read : goal.returns-clause-read
returns-clause-read g c = λ before.
    line_on c.args.ids before _ c.read_numbers.new.draft (source_of c.read_numbers.new.bytes) c.read_numbers.result
    (letter_on c.args.ids before _ c.in_ok-letter.letter (source_of c.next_byte.new.self) c.begin.new.self (Ok c.in_ok-begin.field-0) (leads_nil _ _) c.in_ok-letter.ensures.byte c.in_ok-begin.ensures)
    (c.read_numbers.ensures.read before)
