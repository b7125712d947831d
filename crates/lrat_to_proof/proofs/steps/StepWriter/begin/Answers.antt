use Rattle.std.proofs.Common.{◌≡◌, [], ◌∷◌, ◌∙◌}
use Rattle.std.proofs.lemmas.Bool.{ne_eqb}
use Rattle.checker_rules.specs.Step.{change_hash_bits}
use Rattle.lrat_to_proof.specs.Converting.{header}
use Rattle.lrat_to_proof.specs.Widths.{bits_of}
use Rattle.lrat_to_proof.proofs.steps.StepWriter.begin.Goals as goal

pub returns : goal.returns
returns g c =
    let width = bits_of c.args.width in
    let is : header width ≡ change_hash_bits c.bits-bits.result ∷ [] =
    rw (ne_eqb width 64 (λ e. c.if-bits-eq64.false (c.bits-bits.ensures ∙ e)), c.bits-bits.ensures) in
    record { ok = λ start h. rw is (c.write.ensures.ok start [] h); err = λ start h. rw is (c.write.ensures.err start [] h) }
