use Rattle.std.proofs.Common.{IsTrue}
use Rattle.lrat_rules.specs.Stores.{find}
use Rattle.refutation_rules.proofs.Joining.{piece_carries}
use Rattle.lrat_checker.specs.Held.{table_of}
use Rattle.lrat_checker.proofs.NameLemmas.{named_as}
use Rattle.lrat_checker.proofs.checker.LratChecker.holds.Goals as goal

-- the ids name the clauses in the table, and so they do in the store
pub returns-clause-stored : goal.returns-clause-stored
returns-clause-stored c formula lines ready =
    named_as (IsTrue c.are_named.result) (table_of c.args.self.now.clauses).named (find ready.accepted.store) c.args.ids.now c.args.wanted.now ready.table.named c.are_named.ensures

pub returns-clause-carries : goal.returns-clause-carries
returns-clause-carries c formula lines ready held =
    piece_carries formula c.args.wanted.now c.args.ids.now ready.accepted.store lines ready.accepted.ran ((returns-clause-stored c formula lines ready).0 held)
