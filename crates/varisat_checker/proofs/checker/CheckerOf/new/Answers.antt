use Rattle.std.proofs.Common.{sym, subst}
use Rattle.varisat_checker.proofs.Common.{EntailsRedundant, State}
use Rattle.checker_rules.proofs.Runs.{new_good}
use Rattle.varisat_checker.proofs.checker.CheckerOf.new.Goals as goal

pub invariant_of-result-clause-entails : goal.invariant_of-result-clause-entails
invariant_of-result-clause-entails g c = λ running. subst (λ (s : State). EntailsRedundant s) (sym c.new.ensures.state) new_good
