use Rattle.std.proofs.Common.{sym, ap, ◌∙◌}
use Rattle.std.proofs.lemmas.Result.{on_ok_weaker}
use Rattle.clause_table.specs.Named.{clause_of}
use Rattle.clause_table.specs.Values.{among}
use Rattle.session_checker.specs.Held.{given_by, named_by}
use Rattle.session_checker.proofs.Judging.{core_by_hints, core_fails_over, core_opposite}
use Rattle.session_checker.proofs.checker.SessionChecker.fails.Goals as goal

pub returns-then-are_opposite-clause-ok : goal.returns-then-are_opposite-clause-ok
returns-then-are_opposite-clause-ok c =
    core_opposite (named_by c.args.self.now) c.args.assumed.now c.args.core.now c.args.hints.now (among c.assume.new.self.values) c.in_ok-assume.ensures.values
    (sym c.are_true.ensures ∙ c.if-not-are_true.false) (among c.assume-2.new.self.values) c.in_ok-assume-2.ensures.values (sym c.are_opposite.ensures ∙ c.if-are_opposite.true)

pub returns-then-are_opposite-clause-fails : goal.returns-then-are_opposite-clause-fails
returns-then-are_opposite-clause-fails c =
    core_fails_over (given_by c.args.self.now) (named_by c.args.self.now) c.args.assumed.now c.args.core.now c.args.hints.now c.args.self.now.sound
    (core_opposite (named_by c.args.self.now) c.args.assumed.now c.args.core.now c.args.hints.now (among c.assume.new.self.values) c.in_ok-assume.ensures.values
    (sym c.are_true.ensures ∙ c.if-not-are_true.false) (among c.assume-2.new.self.values) c.in_ok-assume-2.ensures.values (sym c.are_opposite.ensures ∙ c.if-are_opposite.true))

pub returns-clause-refused : goal.returns-clause-refused
returns-clause-refused c =
    rw (core_by_hints (named_by c.args.self.now) c.args.assumed.now c.args.core.now c.args.hints.now (among c.assume.new.self.values) c.in_ok-assume.ensures.values
    (sym c.are_true.ensures ∙ c.if-not-are_true.false) (among c.assume-2.new.self.values) c.in_ok-assume-2.ensures.values (clause_of c.assume-2.new.self.named)
    (ap clause_of (c.in_ok-assume-2.ensures.named ∙ c.in_ok-assume.ensures.named)) (sym c.are_opposite.ensures ∙ c.if-are_opposite.false)) c.refute.ensures.refused

pub returns-clause-fails : goal.returns-clause-fails
returns-clause-fails c = on_ok_weaker c.refute.result (λ none.
    core_fails_over (given_by c.args.self.now) (named_by c.args.self.now) c.args.assumed.now c.args.core.now c.args.hints.now c.args.self.now.sound
    (core_by_hints (named_by c.args.self.now) c.args.assumed.now c.args.core.now c.args.hints.now (among c.assume.new.self.values) c.in_ok-assume.ensures.values
    (sym c.are_true.ensures ∙ c.if-not-are_true.false) (among c.assume-2.new.self.values) c.in_ok-assume-2.ensures.values (clause_of c.assume-2.new.self.named)
    (ap clause_of (c.in_ok-assume-2.ensures.named ∙ c.in_ok-assume.ensures.named)) (sym c.are_opposite.ensures ∙ c.if-are_opposite.false) ∙ none)) c.refute.ensures.ok
