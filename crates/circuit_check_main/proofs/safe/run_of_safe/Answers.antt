use Rattle.std.proofs.Common.{refl}
use Rattle.circuit_check_main.proofs.Ending.{ends_wrote, means_more, stopped_more}
use Rattle.circuit_check_main.proofs.safe.run_of_safe.Goals as goal
use Rattle.circuit_check_main.specs.Meaning.{safe_formulas, safe_proofs}

-- there are three proofs or three formulas, and their files are those of the call
pub returns-in-Proofs-clause-ends : goal.returns-in-Proofs-clause-ends
returns-in-Proofs-clause-ends g c =
    let names = c.in-Proofs.proofs in
    means_more _ _ _ _ (λ shown h. safe_proofs names.initial.now names.step.now names.bad.now c.in-Proofs.ensures.1.0 c.in-Proofs.ensures.1.1 h)
    c.prove_safe.result c.prove_safe.ensures.ends

pub returns-in-Formulas-clause-ends : goal.returns-in-Formulas-clause-ends
returns-in-Formulas-clause-ends g c =
    let names = c.in-Formulas.formulas in
    ends_wrote _ _ c.formulas_of_safe.result c.formulas_of_safe.ensures.zero (λ well.
    safe_formulas names.initial.now names.step.now names.bad.now c.in-Formulas.ensures.1.0 c.in-Formulas.ensures.1.1
    (refl, λ text other_text known other fresh. c.formulas_of_safe.ensures.named text other_text known other fresh well))

pub returns-in-Formulas-clause-unnamed : goal.returns-in-Formulas-clause-unnamed
returns-in-Formulas-clause-unnamed g c =
    let names = c.in-Formulas.formulas in
    stopped_more _ _ _ (λ stops. (names.initial.now, names.step.now, names.bad.now, c.in-Formulas.ensures.1.1, stops))
    c.formulas_of_safe.result c.formulas_of_safe.ensures.unnamed
