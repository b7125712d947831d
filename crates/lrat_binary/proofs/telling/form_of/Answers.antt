use Rattle.std.proofs.Common.{◌≡◌, ℕ, List, take, ap, ◌∙◌}
use Rattle.std.proofs.lemmas.List.{take_min}
use Rattle.lrat_binary.specs.Telling.{form_by}
use Rattle.lrat_binary.proofs.telling.form_of.Goals as goal

pub returns : goal.returns
returns c =
    let first : take c.min.result c.args.bytes.now ≡ take 4096 c.args.bytes.now = rw c.min.ensures (take_min 4096 c.args.bytes.now) in
    c.form_by.ensures ∙ ap (λ (bytes : List ℕ). form_by c.args.ids c.args.clauses bytes) first
