use Rattle.std.proofs.Common.{sym, ◌∙◌, arith}
use Rattle.checker_steps.proofs.Common.{state_of}
use Rattle.checker_steps.proofs.AddClauseLemmas.{cause-ids, cause-none, cause-sampling, id-left}
use Rattle.checker_steps.proofs.steps.add_clause.early_cause.Goals as goal

pub returns-then-some_not_sampling : goal.returns-then-some_not_sampling
returns-then-some_not_sampling c st h =
    let a = c.args in
    sym (cause-sampling (state_of st h a.clauses.now a.variables.now) a.clause.now
    (sym c.if-some_not_sampling.true ∙ c.some_not_sampling.ensures st h a.clauses.now))

pub returns-then-clauses : goal.returns-then-clauses
returns-then-clauses c st h =
    let a = c.args in
    sym (cause-ids (state_of st h a.clauses.now a.variables.now) a.clause.now
    (sym c.if-some_not_sampling.false ∙ c.some_not_sampling.ensures st h a.clauses.now) c.if-clauses.true)

pub returns : goal.returns
returns c st h =
    let a = c.args in
    cause-none (state_of st h a.clauses.now a.variables.now) a.clause.now
    (sym c.if-some_not_sampling.false ∙ c.some_not_sampling.ensures st h a.clauses.now)
    (id-left a.clauses.now.next_clause_id (omega arith) c.if-clauses.false)
