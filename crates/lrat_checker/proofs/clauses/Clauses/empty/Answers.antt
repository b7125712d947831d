use Rattle.std.proofs.Common.{None, refl}
use Rattle.clause_table.specs.Named.{clause_of}
use Rattle.lrat_checker.proofs.TableLemmas.{table_ext}
use Rattle.lrat_checker.proofs.clauses.Clauses.empty.Goals as goal

pub returns-clause-table : goal.returns-clause-table
returns-clause-table c = table_ext (clause_of c.in_ok-new.field-0) (λ i. None) (λ l. 0) (λ l. 0) c.in_ok-new.ensures.none (λ l. refl)
