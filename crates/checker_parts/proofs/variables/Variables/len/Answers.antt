use Rattle.std.proofs.Common.{length, sym, ap, ◌∙◌}
use Rattle.checker_parts.proofs.Columns.{length-known_by}
use Rattle.checker_parts.proofs.variables.Variables.len.Goals as goal

pub returns : goal.returns
returns c = c.len.ensures ∙ c.self.inside.names.ok.0 ∙ sym (length-known_by _ _ c.self.invariant.modes) ∙ ap length c.self.view_is
