use Rattle.std.proofs.Common.{refl}
use Rattle.circuit_check_main.proofs.Ending.{ends_wrote, means_more}
use Rattle.circuit_check_main.proofs.never.run_of_never.Goals as goal
use Rattle.circuit_check_main.specs.Meaning.{never_answer, never_formula, never_proof}

-- one option is given, and its file is that of the call
pub returns-in-Proof-clause-ends : goal.returns-in-Proof-clause-ends
returns-in-Proof-clause-ends g c =
    means_more _ _ _ _ (λ shown h. never_proof c.in-Proof.proof.now c.in-Proof.ensures.0 h) c.prove_never.result c.prove_never.ensures.ends

pub returns-in-Answer-clause-ends : goal.returns-in-Answer-clause-ends
returns-in-Answer-clause-ends g c =
    means_more _ _ _ _ (λ shown h. never_answer c.in-Answer.answer.now c.in-Answer.ensures.0 h) c.answer_never.result c.answer_never.ensures.ends

pub returns-in-Formula-clause-ends : goal.returns-in-Formula-clause-ends
returns-in-Formula-clause-ends g c =
    ends_wrote _ _ c.formula_of_never.result c.formula_of_never.ensures.zero (λ well. never_formula c.in-Formula.formula.now c.in-Formula.ensures.0
    (refl, λ text known fresh. c.formula_of_never.ensures.named text known fresh well))
