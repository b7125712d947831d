use Rattle.std.proofs.Common.{◌≡◌, Some, sym, ap, ◌∙◌}
use Rattle.std.proofs.lemmas.Bool.Decides.{Decides-eqb}
use Rattle.std.proofs.lemmas.Slice.Eq.{slice_eq-Decides}
use Rattle.std.specs.Option.{option_copied}
use Rattle.sat_rules.proofs.HintLineFacts.{some-same}
use Rattle.lrat_checker.specs.Held.{table_of}
use Rattle.lrat_checker.proofs.clauses.Clauses.is_named.Goals as goal

pub returns-in-Some : goal.returns-in-Some
returns-in-Some c =
    let same = slice_eq-Decides Decides-eqb _ _ _ c.eq.ensures in
    let stored : Some c.in-Some.stored.now ≡ (table_of c.args.self.now).named c.args.id = ap option_copied (sym c.in-Some.is) ∙ c.get.ensures in
    (λ t. sym stored ∙ ap (λ ls. Some ls) (same.0 t), λ named. same.1 (some-same _ _ (stored ∙ named)))
