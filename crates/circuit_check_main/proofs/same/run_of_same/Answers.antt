use Rattle.std.proofs.Common.{refl}
use Rattle.circuit_check_main.proofs.Ending.{ends_wrote, means_more}
use Rattle.circuit_check_main.proofs.same.run_of_same.Goals as goal
use Rattle.circuit_check_main.specs.Meaning.{same_answer, same_formula, same_proof}

-- one option is given, and its file is that of the call
pub returns-in-Proof-clause-ends : goal.returns-in-Proof-clause-ends
returns-in-Proof-clause-ends g c =
    means_more _ _ _ _ (λ shown h. same_proof c.in-Proof.proof.now c.in-Proof.ensures.0 h) c.prove_same.result (rw c.requires at c.prove_same.ensures.ends)

pub returns-in-Answer-clause-ends : goal.returns-in-Answer-clause-ends
returns-in-Answer-clause-ends g c =
    means_more _ _ _ _ (λ shown h. same_answer c.in-Answer.answer.now c.in-Answer.ensures.0 h) c.answer_same.result (rw c.requires at c.answer_same.ensures.ends)

pub returns-in-Formula-clause-ends : goal.returns-in-Formula-clause-ends
returns-in-Formula-clause-ends g c =
    ends_wrote _ _ c.formula_of_same.result c.formula_of_same.ensures.zero (λ well. same_formula c.in-Formula.formula.now c.in-Formula.ensures.0
    (refl, λ text other_text known other fresh. rw c.requires at (c.formula_of_same.ensures.named text other_text known other fresh well)))
