use Rattle.varisat_checker.specs.Shown.{state}
use Rattle.varisat_checker.proofs.ReadDelivered.{added-none, text-ends, text-fault, text-rejected}
use Rattle.varisat_checker.proofs.checker.CheckerOf.add_dimacs_cnf_with_lie.Goals as goal

pub read_clauses-requires : goal.read_clauses-requires
unfolding state
read_clauses-requires g c = record { fresh = added-none c.if-self.false }

pub returns-in-Ok-clause-text : goal.returns-in-Ok-clause-text
unfolding state
returns-in-Ok-clause-text g c = λ running.
    text-ends (c.args.self.now.entails running) (c.args.self.now.kept running).form _ _ _ c.in-Ok.ensures.whole

pub returns-in-Err-Text-clause-text : goal.returns-in-Err-Text-clause-text
unfolding state
returns-in-Err-Text-clause-text g c = λ running.
    rw c.text_fault.ensures.listeners
    (text-fault (c.args.self.now.entails running) (c.args.self.now.kept running).form _ _ _ c.in-Err-Text.ensures.some _ c.in-Err-Text.field-0-is
    (rw c.in-Err-Text.field-0-is at c.text_fault.ensures.fault))

pub returns-in-Err-Sink-clause-text : goal.returns-in-Err-Sink-clause-text
unfolding state
returns-in-Err-Sink-clause-text g c = λ running.
    rw c.in-Err-Sink.field-0-is
    (text-rejected (c.args.self.now.entails running) (c.args.self.now.kept running).form _ _ _ c.in-Err-Sink.ensures.some _ c.in-Err-Sink.field-0-is)
