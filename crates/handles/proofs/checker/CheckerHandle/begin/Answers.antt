use Rattle.std.proofs.Common.{◌∙◌, [], ap, Option, subst, sym}
use Rattle.std.specs.Option.{option_map}
use Rattle.checker_parts.specs.Answers.{IsFold}
use Rattle.handles.specs.CheckerStates.{HasState, state_in}
use Rattle.handles.specs.declared.checker_ported.Ported.{Ported}
use Rattle.handles.proofs.CheckerCallLemmas.{starts_fold}
use Rattle.handles.proofs.checker.CheckerHandle.begin.Goals as goal

pub returns-clause-folds : goal.returns-clause-folds
returns-clause-folds c = subst (λ (o : Option Ported). HasState (option_map state_in o) (λ s. IsFold [] s)) (sym c.put.ensures)
    (starts_fold _ (ap (λ (p : Ported). state_in p) c.in_ok-checker.ensures.ok ∙ c.new.ensures))
