use Rattle.checker_steps.proofs.Common.{common_steps, Known}
use Rattle.std.proofs.Common.{◌≡◌, ℕ, List, Option, None, [], arith}
use Rattle.clause_store.specs.declared.clauses.DeleteClauseResult.{DeleteClauseResult}
use Rattle.clause_store.specs.declared.clauses.DeleteClauseResult.TheVariants.{Unchanged, Removed}
use Rattle.checker_steps.specs.DeletionSteps.{deletion_steps}
use Rattle.checker_steps.proofs.EmissionLemmas.{all-one}
use Rattle.checker_steps.proofs.DeliveryLemmas.{ran-none}
use Rattle.checker_steps.proofs.steps.delete_clause.emit_deletion.Goals as goal

kept_redundant : (names : List Known) (did : DeleteClauseResult) (id : ℕ) (c : List ℕ) → (did ≡ Removed → ⊥) → deletion_steps names None did id c ≡ []
kept_redundant names did id c gone = grind arith

unchanged : (names : List Known) (implying : Option ℕ) (id : ℕ) (c : List ℕ) → deletion_steps names implying Unchanged id c ≡ []
unchanged names implying id c = grind arith

pub returns-in-None-Removed : goal.returns-in-None-Removed
returns-in-None-Removed g c =
    rw (c.in-None-Removed.is-0, c.in-None-Removed.is-1) (all-one g.P.ProofProcessor g.T.ProofTranscriptProcessor _ _ _ c.emit_delete_clause.result c.emit_delete_clause.ensures)

pub returns-in-Some-Removed : goal.returns-in-Some-Removed
returns-in-Some-Removed g c =
    rw (c.in-Some-Removed.is-0, c.in-Some-Removed.is-1) (all-one g.P.ProofProcessor g.T.ProofTranscriptProcessor _ _ _ c.emit_delete_at_clause.result c.emit_delete_at_clause.ensures)

pub returns-in-Some-NewlyRedundant : goal.returns-in-Some-NewlyRedundant
returns-in-Some-NewlyRedundant g c = grind (arith, common_steps, all-one)

pub returns-in_default : goal.returns-in_default
returns-in_default g c =
    rw (c.in_default.is-0, kept_redundant c.args.variables.now c.args.did c.args.id c.args.clause.now c.in_default.not-Removed-1)
    (ran-none g.P.ProofProcessor g.T.ProofTranscriptProcessor _)

pub returns-in_default-2 : goal.returns-in_default-2
returns-in_default-2 g c =
    rw (c.in_default.is-1, unchanged c.args.variables.now c.args.implying c.args.id c.args.clause.now)
    (ran-none g.P.ProofProcessor g.T.ProofTranscriptProcessor _)
