use Rattle.std.proofs.Common.{ℕ, List}
use Rattle.sat_formula.specs.DimacsReader.{bytes_left}
use Rattle.sat_formula.proofs.Telling.{HasTold}
use Rattle.sat_formula.proofs.clauses.read_clauses.Given as goal

-- the clauses that the reader gave were taken
abbrev pub invariant-clauses : goal.invariant-clauses
invariant-clauses g l = (clauses : List (List ℕ)) × (lines : List ℕ) × HasTold g.F.Read.remaining l.initial.reader clauses lines l.reader
    × g.S.ClauseSink.has_taken l.fn.sink clauses lines l.sink

abbrev pub decreases-clauses : goal.decreases-clauses
decreases-clauses g l = bytes_left l.reader
