use Rattle.std.proofs.Common.{◌≡◌, false, ap, sym, ◌∙◌, [], ◌∷◌, ◌++◌}
use Rattle.sat_rules.specs.Clauses.{has, negate}
use Rattle.answer_text.specs.automaton.Answers.{taken}
use Rattle.answer_text.proofs.reader.take.Goals as goal

pub returns-in-Goes : goal.returns-in-Goes
returns-in-Goes c = λ lits h. (lits, ap (taken lits c.args.spot.line) (sym c.in-Goes.ensures), h)

pub returns-in_ok-add-in-Gives : goal.returns-in_ok-add-in-Gives
returns-in_ok-add-in-Gives c = λ lits h.
    let absent : has (negate c.in-Gives.lit) lits ≡ false = sym (h (negate c.in-Gives.lit)) ∙ rw c.not.ensures at (sym c.contains.ensures ∙ c.if-contains.false) in
    (lits ++ c.in-Gives.lit ∷ [], rw (← c.in-Gives.ensures, absent), c.in_ok-add-in-Gives.ensures lits h)
