use Rattle.model_check.proofs.VerdictLemmas.{still_first, same_line}
use Rattle.model_check.proofs.clauses.after_clause.Goals as goal

pub returns-in-NotVerified : goal.returns-in-NotVerified
returns-in-NotVerified c = λ clauses lines so_far place on. let is = c.in-NotVerified.is in let was = rw is at so_far in rw is (still_first _ clauses _ _ was.0, same_line lines _ _ _ was.1)
