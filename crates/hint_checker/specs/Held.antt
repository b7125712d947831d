-- What the parts of a checker of hints say.
--     IsSmall x, HoldsLittle c      the stored clauses take little room that no clause uses
--     held_by x, holds c      what is held, and what a checker holds until its first fault
use Rattle.std.specs.Prelude.{suc, if◌then◌else◌, Option, Some, None}
use Rattle.sat_rules.specs.HintLines.{Listed}
use Rattle.clause_table.specs.Named.{TakesLittle, clause_of}
use Rattle.hint_checker.specs.declared.checker.HintChecker.{HintChecker}
use Rattle.hint_checker.specs.declared.listing.Listing.{Listing}

-- the clauses, the greatest id, and whether the empty clause was added
abbrev pub held_by : Listing → Listed
held_by x = record {
  machine = record { named = clause_of x.clauses; above = suc x.greatest };
  added_empty = x.added_empty;
}

-- what a checker holds until its first fault
abbrev pub holds : HintChecker → Option Listed
holds c = if c.faulted then None else Some (held_by c.held)

-- the clauses take little room that no clause uses
abbrev pub IsSmall : Listing → Type 0
IsSmall x = TakesLittle x.clauses

-- so it is in a checker
abbrev pub HoldsLittle : HintChecker → Type 0
HoldsLittle c = IsSmall c.held
