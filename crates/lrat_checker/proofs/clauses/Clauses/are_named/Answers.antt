use Rattle.sat_rules.specs.Named.{NamedBy}
use Rattle.lrat_checker.specs.Held.{table_of}
use Rattle.lrat_checker.proofs.NameLemmas.{named_end}
use Rattle.lrat_checker.proofs.clauses.Clauses.are_named.Goals as goal

pub returns : goal.returns
returns c =
    let t = table_of c.args.self.now in
    rw c.is_empty.ensures (named_end t.named (NamedBy t.named c.args.ids.now c.args.wanted.now) c.loop-clause.left.now c.loop-clause.clause-iterator c.loop-clause.invariant c.in-None.ensures.steps.0)
