use Rattle.varisat_checker.specs.Shown.{listeners, state}
use Rattle.varisat_checker.proofs.DeliveredAdds.{AddedDelivered}
use Rattle.varisat_checker.proofs.checker.CheckerOf.add_formula.Given as goal

abbrev pub invariant-clauses : goal.invariant-clauses
invariant-clauses g l = AddedDelivered g.P.ProofProcessor g.T.ProofTranscriptProcessor (state l.fn.self) l.fn.formula
    (state l.self) l.clause-iterator (listeners l.fn.self) (listeners l.self)
