use Rattle.std.proofs.Common.{arith, map, ◌^◌, ◌<◌}
use Rattle.std.proofs.lemmas.List.Elements.{All-contains, All-map}
use Rattle.lrat_text.specs.Grammar.{hint_of}
use Rattle.sat_output.specs.LratBytes.{hint_id}
use Rattle.sat_output.proofs.binary.addition.Goals as goal

pub returns-clause-large : goal.returns-clause-large
returns-clause-large c = λ large.
    let hints = map hint_of c.args.hints.now in
    let small = All-map (λ h. hint_id h < 2 ^ 63) hint_of c.args.hints.now c.in_ok-push_hints.ensures.small in
    let below : hint_id large.1 < 2 ^ 63 = All-contains (λ h. hint_id h < 2 ^ 63) hints large.1 small (large.0, large.2, large.3) in
    absurd (omega (arith, large.4))
