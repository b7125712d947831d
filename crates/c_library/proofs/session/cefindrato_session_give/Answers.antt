use Rattle.std.proofs.Common.{◌∷◌, ◌++◌, [], ap, sym, ◌∙◌}
use Rattle.std.specs.Option.{option_map}
use Rattle.handles.specs.Numbers.{lits_of}
use Rattle.c_library.proofs.AcceptedCalls.{accepted}
use Rattle.c_library.proofs.session.cefindrato_session_give.Goals as goal

pub returns-clause-given : goal.returns-clause-given
returns-clause-given c = λ cs was is. accepted c.give.result _ (sym c.of.ensures.status ∙ is) c.give.ensures.given
    ∙ ap (option_map (λ cs. cs ++ lits_of c.args.clause.now ∷ [])) was

pub returns-clause-run : goal.returns-clause-run
returns-clause-run c = (c.give.result, (c.of.ensures.status, c.of.ensures.cause, c.of.ensures.clause), ((c.give.ensures.ok, c.give.ensures.refused), c.give.ensures.given, c.give.ensures.named, c.give.ensures.kept_given, c.give.ensures.kept))
