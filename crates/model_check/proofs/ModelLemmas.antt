-- Literals that satisfy a formula.
use Rattle.std.proofs.Common.{◌≡◌, ℕ, ◌+◌, ◌-◌, ◌*◌, ◌%◌, Bool, true, false, cond, List, [], ◌∷◌, refl, sym, ap, ◌∙◌, arith}
use Rattle.std.proofs.lemmas.Bool.{eqb-true, eqb-false, false_from_ne_true}
use Rattle.sat_rules.specs.Clauses.{Agrees, all_true, clause_true, has, is_negative, lit_true, negate, var_of}
use Rattle.answer_text.specs.Literals.{IsConsistent, all_met, is_met, listed}
use Rattle.model_check.specs.Models.{IsModel}

met_is_true : (a s : ℕ → Bool) (c : List ℕ) → Agrees a s → is_met s c ≡ true → clause_true a c ≡ true
met_is_true a s [] agrees h = h
met_is_true a s (l ∷ c) agrees h = grind (arith, agrees l, met_is_true a s c agrees)

all_true_of_met : (a s : ℕ → Bool) (cs : List (List ℕ)) → Agrees a s → all_met s cs ≡ true → all_true a cs ≡ true
all_true_of_met a s [] agrees h = refl
all_true_of_met a s (c ∷ cs) agrees h = grind (arith, met_is_true a s c agrees, all_true_of_met a s cs agrees)

-- the positive literals of the list are true, and no others
assignment : List ℕ → ℕ → Bool
assignment lits v = has (2 * v) lits

agrees_at : (lits : List ℕ) → IsConsistent (listed lits) → (m : ℕ) → (b : Bool) → is_negative m ≡ b → listed lits m ≡ true → lit_true (assignment lits) m ≡ true
unfolding assignment
agrees_at lits c m false e h =
    let even = eqb-false (m % 2) 1 e in
    let is : 2 * var_of m ≡ m = omega arith in
    rw (e, is) h
agrees_at lits c m true e h =
    let odd = eqb-true (m % 2) 1 e in
    let before : 2 * var_of m ≡ m - 1 = omega arith in
    let is : negate m ≡ m - 1 = ap (λ (b : Bool). cond b (m - 1) (m + 1)) e in
    rw (e, before ∙ sym is, false_from_ne_true (has (negate m) lits) (c m h))

pub met_clauses_are_satisfied : (lits : List ℕ) (clauses : List (List ℕ)) → IsConsistent (listed lits) → all_met (listed lits) clauses ≡ true → IsModel lits clauses
met_clauses_are_satisfied lits clauses apart met = record {
  satisfies = λ a agrees. all_true_of_met a (listed lits) clauses agrees met;
  agreeing = assignment lits;
  agrees = λ m t. agrees_at lits apart m (is_negative m) refl t;
}
