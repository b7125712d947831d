use Rattle.std.proofs.lemmas.Grind.{common_steps}
use Rattle.std.proofs.Common.{arith}
use Rattle.std.proofs.lemmas.List.{length-set}
use Rattle.checker_parts.proofs.Columns.{known_by-name, length-known_by, name_of-some, within}
use Rattle.checker_parts.proofs.Marks.{marked_name}
use Rattle.checker_parts.proofs.variables.Variables.set_name.Goals as goal

pub index_mut-requires : goal.index_mut-requires
index_mut-requires c = omega (arith, within _ _ _ _ _ _ c.self.invariant c.self.view_is c.index-name.ensures.value c.requires.in_range, c.self.invariant.taken, c.self.inside.taken.ok.0)

pub index_mut-requires-2 : goal.index_mut-requires-2
index_mut-requires-2 c = omega (arith, within _ _ _ _ _ _ c.self.invariant c.self.view_is c.index.ensures.value c.requires.known, c.self.inside.names.ok.0)

pub invariant_of-self : goal.invariant_of-self
invariant_of-self c = grind (arith, common_steps, within, length-set, known_by-name, marked_name, length-known_by, name_of-some)

pub returns : goal.returns
returns c = grind (arith, common_steps, known_by-name, name_of-some)
