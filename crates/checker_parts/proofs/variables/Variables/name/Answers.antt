use Rattle.std.proofs.lemmas.List.{get_or_past}
use Rattle.std.proofs.Common.{◌≡◌, ◌<◌, ◌∙◌, List, get_or, length, ap, sym, arith}
use Rattle.std.proofs.lemmas.Grind.{common_steps}
use Rattle.checker_rules.specs.State.{Known}
use Rattle.checker_rules.specs.Transcript.{known_at}
use Rattle.checker_parts.specs.Variables.{name_of}
use Rattle.checker_parts.specs.declared.variables.SamplingMode.TheVariants.{Sample}
use Rattle.checker_parts.proofs.Columns.{known_at-known_by, name_of-read, length-known_by}
use Rattle.checker_parts.proofs.variables.Variables.name.Goals as goal

pub returns-in_err-get : goal.returns-in_err-get
returns-in_err-get c = grind (arith, common_steps, get_or_past, length-known_by)

pub returns : goal.returns
returns c =
    let n = c.in_ok-get.field-0.now in
    let read : n ≡ get_or c.self.inside.names.items c.args.index n = grind (arith, common_steps) in
    let less : c.args.index < length c.self.inside.names.items = grind (arith, common_steps) in
    name_of-read _ n c.from_index.ensures ∙ ap name_of read
    ∙ sym (ap (λ (k : Known). k.name) (known_at-known_by c.self.inside.names.items c.self.inside.modes.items c.args.index n Sample c.self.invariant.modes less))
    ∙ ap (λ (ks : List Known). (known_at ks c.args.index).name) c.self.view_is
