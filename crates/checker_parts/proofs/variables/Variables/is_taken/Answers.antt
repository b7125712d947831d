use Rattle.std.proofs.Common.{◌≡◌, ◌∙◌, false, get_or, ap, sym, arith}
use Rattle.std.proofs.lemmas.Grind.{common_steps}
use Rattle.std.proofs.lemmas.List.{get_or_past}
use Rattle.checker_parts.specs.Names.{is_taken}
use Rattle.checker_parts.specs.Variables.{known_by}
use Rattle.checker_parts.proofs.Marks.{taken-mark}
use Rattle.checker_parts.proofs.variables.Variables.is_taken.Goals as goal

pub returns-in-Some-clause-value : goal.returns-in-Some-clause-value
returns-in-Some-clause-value c =
    let read : c.in-Some.taken.now ≡ get_or c.self.inside.taken.items c.index.result false = grind (arith, common_steps) in
    read ∙ sym (taken-mark (known_by c.self.inside.names.items c.self.inside.modes.items) c.self.inside.taken.items c.index.result c.self.invariant.marked)
    ∙ ap (λ ks. is_taken ks c.index.result) c.self.view_is ∙ ap (λ n. is_taken c.args.self.now n) c.index.ensures.value

pub returns-in-None-clause-value : goal.returns-in-None-clause-value
returns-in-None-clause-value c = grind (arith, common_steps, get_or_past, taken-mark)
