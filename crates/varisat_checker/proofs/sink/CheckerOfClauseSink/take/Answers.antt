use Rattle.varisat_checker.proofs.ReadDelivered.{takes-added}
use Rattle.varisat_checker.proofs.sink.CheckerOfClauseSink.take.Goals as goal

pub returns : goal.returns
returns g c = λ first clauses lines p number place.
    takes-added p _ _ _ c.add_clause.result (c.add_clause.ensures.step p.so_far.running) (c.add_clause.ensures.delivered p.so_far.running)
