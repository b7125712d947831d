use Rattle.std.proofs.lemmas.Grind.{common_steps}
use Rattle.std.proofs.Common.{arith}
use Rattle.checker_parts.proofs.Columns.{columns_mode, known_by-mode, within}
use Rattle.checker_parts.proofs.variables.Variables.set_mode.Goals as goal

pub index_mut-requires : goal.index_mut-requires
index_mut-requires c = omega (arith, within _ _ _ _ _ _ c.self.invariant c.self.view_is c.index.ensures.value c.requires, c.self.invariant.modes, c.self.inside.modes.ok.0)

pub invariant_of-self : goal.invariant_of-self
invariant_of-self c = columns_mode _ _ _ _ _ c.self.invariant (within _ _ _ _ _ _ c.self.invariant c.self.view_is c.index.ensures.value c.requires)

pub returns : goal.returns
returns c = grind (arith, common_steps, known_by-mode)
