-- The grammar of binary lines, a byte after the other: `a` id literals 0 hints 0, and `d` ids 0. A number has seven bits a byte, the low ones first, and ends with a byte below 128.
use Rattle.std.specs.Prelude.{ℕ, ◌^◌, List, [], ◌∷◌, ◌++◌, map, Option, Some, None, Result, Ok, Err, ◌==◌, if◌then◌else◌}
use Rattle.lrat_rules.specs.Lines.{Line, adds, deletes}
use Rattle.drat_text.specs.Codes.{Code, Partial, TooLong, Whole, code_after}
use Rattle.drat_text.specs.declared.fault.DratKind.{DratKind}
use Rattle.drat_text.specs.declared.fault.DratKind.TheVariants.{Malformed, NumberTooLarge}
use Rattle.lrat_text.specs.declared.line.Hint.{Hint}
use Rattle.lrat_text.specs.Grammar.{hint_of}
use Rattle.lrat_binary.specs.declared.ids.Ids.{Ids}
use Rattle.lrat_binary.specs.Numbers.{lit_said, hint_said, id_said}

-- `a`, with which a line begins that adds a clause
abbrev pub letter_a : ℕ
letter_a = 97

-- `d`, with which a line begins that deletes clauses
abbrev pub letter_d : ℕ
letter_d = 100

-- what is due next: the id of a clause; a literal of this clause, after these; a hint of it, after these; an id that is deleted, after these
pub data Slot : Type 0 where
  IdDue : Slot
  LitDue : ℕ → List ℕ → Slot
  HintDue : ℕ → List ℕ → List Hint → Slot
  DeletedDue : List ℕ → Slot

-- between lines, between the numbers of a line, or in a number of it after groups of this value, before one of this weight
pub data Place : Type 0 where
  Outside : Place
  Within : Slot → Place
  InNumber : Slot → ℕ → ℕ → Place

-- what one byte does: the reading continues, a line ends, or nothing more is read
pub data After : Type 0 where
  Goes : Place → After
  Gives : Line → After
  Stops : DratKind → After

-- ---- numbers

-- the id of a clause
abbrev pub clause_id : Result (Option ℕ) DratKind → After
clause_id (Ok None) = Stops Malformed
clause_id (Ok (Some id)) = Goes (Within (LitDue id []))
clause_id (Err kind) = Stops kind

-- a literal, or the end of the clause
abbrev pub lit_in : ℕ → List ℕ → Result (Option ℕ) DratKind → After
lit_in id lits (Ok None) = Goes (Within (HintDue id lits []))
lit_in id lits (Ok (Some lit)) = Goes (Within (LitDue id (lits ++ lit ∷ [])))
lit_in id lits (Err kind) = Stops kind

-- a hint, or the end of the line
abbrev pub hint_in : ℕ → List ℕ → List Hint → Result (Option Hint) DratKind → After
hint_in id lits hints (Ok None) = Gives (adds id lits (map hint_of hints))
hint_in id lits hints (Ok (Some hint)) = Goes (Within (HintDue id lits (hints ++ hint ∷ [])))
hint_in id lits hints (Err kind) = Stops kind

-- an id that is deleted, or the end of the line
abbrev pub deleted_in : List ℕ → Result (Option ℕ) DratKind → After
deleted_in deleted (Ok None) = Gives (deletes deleted)
deleted_in deleted (Ok (Some id)) = Goes (Within (DeletedDue (deleted ++ id ∷ [])))
deleted_in deleted (Err kind) = Stops kind

-- a number of this value
abbrev pub said : Ids → Slot → ℕ → After
said ids IdDue v = clause_id (id_said ids v)
said ids (LitDue id lits) v = lit_in id lits (lit_said v)
said ids (HintDue id lits hints) v = hint_in id lits hints (hint_said v)
said ids (DeletedDue deleted) v = deleted_in deleted (id_said ids v)

-- ---- bytes

-- the bytes of a number, by what they say
abbrev pub code_does : Ids → Slot → Code → After
code_does ids slot (Partial v weight) = Goes (InNumber slot v weight)
code_does ids slot (Whole n) = said ids slot n
code_does ids slot TooLong = Stops NumberTooLarge

-- one byte of them, of this weight, after groups of this value; no number has more than nine bytes
abbrev pub group : Ids → Slot → ℕ → ℕ → ℕ → After
group ids slot v weight b = code_does ids slot (code_after (2 ^ 56) v weight b)

-- a line's first byte
abbrev pub begun : ℕ → After
begun b =
    if b == letter_a then Goes (Within IdDue)
    else (if b == letter_d then Goes (Within (DeletedDue [])) else Stops Malformed)

-- one byte, at each place
abbrev pub after : Ids → Place → ℕ → After
after ids Outside b = begun b
after ids (Within slot) b = group ids slot 0 1 b
after ids (InNumber slot v weight) b = group ids slot v weight b
