use Rattle.std.proofs.Common.{sym, ap, ◌∙◌}
use Rattle.std.specs.Option.{option_map}
use Rattle.clause_table.specs.Values.{among}
use Rattle.session_checker.specs.Held.{given_by}
use Rattle.session_checker.specs.declared.given.GivenClauses.{GivenClauses}
use Rattle.session_checker.specs.Refusals.{clause_cause, misses_clause}
use Rattle.session_checker.proofs.Judging.{model_by_clauses, model_holds, model_misses, model_opposite}
use Rattle.session_checker.proofs.checker.SessionChecker.satisfies.Goals as goal

pub returns-then-are_opposite-clause-refused : goal.returns-then-are_opposite-clause-refused
returns-then-are_opposite-clause-refused c =
    model_opposite (given_by c.args.self.now) c.args.assumed.now c.args.model.now (among c.assume.new.self.values) c.in_ok-assume.ensures.values (sym c.are_opposite.ensures ∙ c.if-are_opposite.true)

pub returns-then-not-are_true-clause-refused : goal.returns-then-not-are_true-clause-refused
returns-then-not-are_true-clause-refused c =
    model_misses (given_by c.args.self.now) c.args.assumed.now c.args.model.now (among c.assume.new.self.values) c.in_ok-assume.ensures.values (sym c.are_opposite.ensures ∙ c.if-are_opposite.false)
    (sym c.are_true.ensures ∙ c.if-not-are_true.true)

pub returns-in-Some-clause-refused : goal.returns-in-Some-clause-refused
returns-in-Some-clause-refused c =
    model_by_clauses (given_by c.args.self.now) c.args.assumed.now c.args.model.now (among c.assume.new.self.values) c.in_ok-assume.ensures.values (sym c.are_opposite.ensures ∙ c.if-are_opposite.false)
    (sym c.are_true.ensures ∙ c.if-not-are_true.false)
    ∙ sym (c.in_ok-unmet.ensures.unmet ∙ ap (λ (g : GivenClauses). clause_cause 1 (among c.assume.new.self.values) g.clauses) c.in_ok-assume.ensures.given) ∙ ap (option_map misses_clause) c.in-Some.is

pub returns-in-None-clause-ok : goal.returns-in-None-clause-ok
returns-in-None-clause-ok c =
    model_by_clauses (given_by c.args.self.now) c.args.assumed.now c.args.model.now (among c.assume.new.self.values) c.in_ok-assume.ensures.values (sym c.are_opposite.ensures ∙ c.if-are_opposite.false)
    (sym c.are_true.ensures ∙ c.if-not-are_true.false)
    ∙ sym (c.in_ok-unmet.ensures.unmet ∙ ap (λ (g : GivenClauses). clause_cause 1 (among c.assume.new.self.values) g.clauses) c.in_ok-assume.ensures.given) ∙ ap (option_map misses_clause) c.in-None.is

pub returns-in-None-clause-satisfies : goal.returns-in-None-clause-satisfies
returns-in-None-clause-satisfies c =
    model_holds (given_by c.args.self.now) c.args.assumed.now c.args.model.now
    (model_by_clauses (given_by c.args.self.now) c.args.assumed.now c.args.model.now (among c.assume.new.self.values) c.in_ok-assume.ensures.values (sym c.are_opposite.ensures ∙ c.if-are_opposite.false)
    (sym c.are_true.ensures ∙ c.if-not-are_true.false)
    ∙ sym (c.in_ok-unmet.ensures.unmet ∙ ap (λ (g : GivenClauses). clause_cause 1 (among c.assume.new.self.values) g.clauses) c.in_ok-assume.ensures.given) ∙ ap (option_map misses_clause) c.in-None.is)
