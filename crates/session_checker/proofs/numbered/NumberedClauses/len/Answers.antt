use Rattle.std.proofs.Common.{sym}
use Rattle.clause_table.specs.Named.{clause_of}
use Rattle.session_checker.proofs.NumberingLemmas.{first_len}
use Rattle.session_checker.proofs.numbered.NumberedClauses.len.Goals as goal

pub returns : goal.returns
returns c = rw (← c.self.view_is) (sym (first_len (clause_of c.self.inside.clauses) c.self.inside.count))
