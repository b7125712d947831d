use Rattle.std.proofs.Common.{suc}
use Rattle.checker_steps.proofs.Common.{on_ok_weaker, index_of, IsStore, is_store-known}
use Rattle.checker_steps.proofs.EmissionLemmas.{unless-memory}
use Rattle.checker_steps.proofs.variables.ensure_sampling_var.Goals as goal

pub returns-clause-store : goal.returns-clause-store
returns-clause-store c = λ h store.
    unless-memory (IsStore h c.ensure_var.new.clauses) c.ensure_var.result
    (on_ok_weaker c.ensure_var.result (λ grown. is_store-known (suc (index_of c.args.var)) h _ _ _ _ grown store) c.ensure_var.ensures.known)
    c.ensure_var.ensures.memory
