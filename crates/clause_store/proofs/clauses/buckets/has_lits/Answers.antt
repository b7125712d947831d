use Rattle.clause_store.proofs.FoundLemmas.{same_list-bytes_eq}
use Rattle.clause_store.proofs.clauses.buckets.has_lits.Goals as goal

pub returns : goal.returns
returns c = cc (c.eq.ensures, same_list-bytes_eq c.slice.result.now c.args.lits.now, c.slice.ensures)
