-- What a checker holds.
--     named_by c, given_by c      the clause of each id;  the clauses that were given, in their order
--     HoldsLittle c      the buffer of literals has little that belongs to no clause
use Rattle.std.specs.Prelude.{ℕ, List, Option}
use Rattle.clause_table.specs.Named.{TakesLittle, clause_of}
use Rattle.session_checker.specs.declared.checker.SessionChecker.{SessionChecker}

-- the clause of each id
abbrev pub named_by : SessionChecker → ℕ → Option (List ℕ)
named_by c = clause_of c.named

-- the clauses that were given, in their order
abbrev pub given_by : SessionChecker → List (List ℕ)
given_by c = c.given.clauses

-- the buffer of literals has little that belongs to no clause
abbrev pub HoldsLittle : SessionChecker → Type 0
HoldsLittle c = TakesLittle c.named
