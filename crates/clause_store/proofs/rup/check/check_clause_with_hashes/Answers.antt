use Rattle.clause_store.specs.declared.rup.Answer.TheVariants.{Passed, NoClauseForHash, Failed}
use Rattle.clause_store.specs.StateOf.{state_of}
use Rattle.clause_store.proofs.CheckLemmas.{ready-answers, ready-form, ready-known, ready-trace}
use Rattle.clause_store.proofs.rup.check.check_clause_with_hashes.Goals as goal

pub check_clause-requires-clause-all_known : goal.check_clause-requires-clause-all_known
check_clause-requires-clause-all_known c =
    let st = c.args.state.now in let h = c.make_ready.new.hasher in let cs = c.make_ready.new.clauses in let known = c.make_ready.new.variables in
    let s = state_of st c.args.hasher.now c.args.clauses.now c.args.variables.now in
    let form = ready-form s _ _ c.requires.kept.form c.in_ok-make_ready.ensures.state in
    rw c.as_slice.ensures.value (ready-known st h cs known c.in_ok-make_ready.ensures.store form)

pub returns-in-Passed-clause-answer : goal.returns-in-Passed-clause-answer
returns-in-Passed-clause-answer c =
    ready-answers c.args.state.now c.make_ready.new.hasher c.make_ready.new.clauses c.make_ready.new.variables _ _ _ _ Passed _ (state_of c.args.state.now c.args.hasher.now c.args.clauses.now c.args.variables.now)
    c.in_ok-make_ready.ensures.store c.requires.kept.form c.in_ok-make_ready.ensures.state c.requires.no_tautology c.as_slice.ensures.value c.in_ok-answer.ensures.answer c.in_ok-answer.ensures.units c.in-Passed.is

pub returns-in-Passed-clause-trace : goal.returns-in-Passed-clause-trace
returns-in-Passed-clause-trace c = λ traced.
    let s = state_of c.args.state.now c.args.hasher.now c.args.clauses.now c.args.variables.now in
    ready-trace c.args.state.now c.make_ready.new.hasher c.make_ready.new.clauses c.make_ready.new.variables _
    _ _ _ _ _
    _ s c.in_ok-make_ready.ensures.store c.in_ok-make_ready.ensures.state c.as_slice.ensures.value c.in-Passed.is traced
    c.in_ok-answer.ensures.trace_ids

pub returns-in-NoClauseForHash-clause-answer : goal.returns-in-NoClauseForHash-clause-answer
returns-in-NoClauseForHash-clause-answer c =
    ready-answers c.args.state.now c.make_ready.new.hasher c.make_ready.new.clauses c.make_ready.new.variables _ _ _ _ NoClauseForHash _ (state_of c.args.state.now c.args.hasher.now c.args.clauses.now c.args.variables.now)
    c.in_ok-make_ready.ensures.store c.requires.kept.form c.in_ok-make_ready.ensures.state c.requires.no_tautology c.as_slice.ensures.value c.in_ok-answer.ensures.answer c.in_ok-answer.ensures.units c.in-NoClauseForHash.is

pub returns-in-Failed-clause-answer : goal.returns-in-Failed-clause-answer
returns-in-Failed-clause-answer c =
    ready-answers c.args.state.now c.make_ready.new.hasher c.make_ready.new.clauses c.make_ready.new.variables _ _ _ _ Failed _ (state_of c.args.state.now c.args.hasher.now c.args.clauses.now c.args.variables.now)
    c.in_ok-make_ready.ensures.store c.requires.kept.form c.in_ok-make_ready.ensures.state c.requires.no_tautology c.as_slice.ensures.value c.in_ok-answer.ensures.answer c.in_ok-answer.ensures.units c.in-Failed.is
