-- The rows, by computation of what the texts say.
use Rattle.std.proofs.Common.{◌≡◌, ◌==◌, ◌∙◌, ℕ, Bool, true, false, List, [], ◌∷◌, length, None, Some, refl, sym, ap, arith}
use Rattle.std.proofs.lemmas.Bool.{false≢true}
use Rattle.sat_rules.specs.Clauses.{Agrees, all_true, has, lit_true, neg, pos}
use Rattle.sat_formula.specs.declared.fault.DimacsKind.{DimacsKind}
use Rattle.sat_formula.specs.Lines.{lines_from, tokens_from}
use Rattle.sat_formula.specs.Lines as dimacs
use Rattle.sat_formula.specs.Notes.{header_of, notes_at}
use Rattle.sat_formula.specs.Outcome.{Ended}
use Rattle.sat_formula.specs.Outcome as outcomes
use Rattle.answer_text.specs.declared.fault.AnswerKind.{AnswerKind}
use Rattle.answer_text.specs.Answers as answers
use Rattle.answer_text.specs.Answers.{answer_from, numbers_from}
use Rattle.answer_text.specs.Literals.{listed}
use Rattle.model_check.specs.Models.{IsModel, IsSatisfiedBy}
use Rattle.model_check.specs.Wholeness.{cut_of}
use Rattle.model_check.specs.declared.whole.CutFormula.{CutFormula}
use Rattle.definition_rows.specs.ModelRows.{ModelRows}

-- what is in a list of one literal is this literal
is_one : (m l : ℕ) → has m (l ∷ []) ≡ true → m ≡ l
is_one m l h = grind arith

-- an assignment that makes the literal true agrees with it
agrees_with : (a : ℕ → Bool) (l : ℕ) → lit_true a l ≡ true → Agrees a (listed (l ∷ []))
agrees_with a l t m h = rw (is_one m l h) t

-- no assignment makes a literal and its negation true
opposite : (a : ℕ → Bool) → lit_true a (pos 1) ≡ true → lit_true a (neg 1) ≡ true → ⊥
opposite a p n = grind arith

one_of_two : (a : ℕ → Bool) → lit_true a (pos 1) ≡ true → all_true a ((pos 1 ∷ pos 2 ∷ []) ∷ []) ≡ true
one_of_two a t = grind arith

model_of_one : IsModel (pos 1 ∷ []) ((pos 1 ∷ pos 2 ∷ []) ∷ [])
model_of_one = record {
  satisfies = λ a g. one_of_two a (g (pos 1) refl);
  agreeing = λ x. x == 0;
  agrees = agrees_with (λ x. x == 0) (pos 1) refl;
}

open_clause : IsModel (pos 1 ∷ []) ((pos 1 ∷ []) ∷ (pos 2 ∷ []) ∷ []) → ⊥
open_clause m = false≢true (m.satisfies (λ x. x == 0) (agrees_with (λ x. x == 0) (pos 1) refl))

-- the clauses and the literals are those of the texts
no_model : (text answer : List ℕ) (cs : List (List ℕ)) (lits : List ℕ) → dimacs.outcome_of text ≡ (cs, Ended)
    → answers.outcome_of answer ≡ answers.Lists lits → (IsModel lits cs → ⊥) → IsSatisfiedBy text answer → ⊥
no_model text answer cs lits f l n s =
    let clauses : cs ≡ s.clauses = ap (λ o. o.0) (sym f ∙ s.formula) in
    let same : answers.Lists lits ≡ answers.Lists s.lits = sym l ∙ s.lists in
    let listed_lits : lits ≡ s.lits = cc in
    n (rw (clauses, listed_lits) s.model)

faulty_text : (text answer : List ℕ) (cs : List (List ℕ)) (line : ℕ) (kind : DimacsKind)
    → dimacs.outcome_of text ≡ (cs, outcomes.Faulty line kind) → IsSatisfiedBy text answer → ⊥
faulty_text text answer cs line kind f s = let e = s.formula in grind arith

-- something is missing of the formula
cut_text : (text answer : List ℕ) (cs : List (List ℕ)) (cut : CutFormula) → dimacs.outcome_of text ≡ (cs, Ended)
    → cut_of (header_of text) (length cs) ≡ Some cut → IsSatisfiedBy text answer → ⊥
cut_text text answer cs cut f l s =
    let clauses : cs ≡ s.clauses = ap (λ o. o.0) (sym f ∙ s.formula) in
    let whole : cut_of (header_of text) (length cs) ≡ None = rw clauses s.whole in
    let e = sym l ∙ whole in absurd cc

no_list : (text answer : List ℕ) (line : ℕ) (kind : AnswerKind) → answers.outcome_of answer ≡ answers.Faulty line kind
    → IsSatisfiedBy text answer → ⊥
no_list text answer line kind l s = let e = sym l ∙ s.lists in absurd cc

pub model_rows : ModelRows
unfolding tokens_from lines_from answer_from numbers_from notes_at
model_rows = record {
  model = model_of_one;
  open_clause = open_clause;
  false_clause = λ m. false≢true (m.satisfies (λ x. false) (agrees_with (λ x. false) (neg 1) refl));
  both_signs = λ m. opposite m.agreeing (m.agrees (pos 1) refl) (m.agrees (neg 1) refl);
  satisfied = record { clauses = _; formula = refl; whole = refl; lits = _; lists = refl; model = model_of_one };
  not_satisfied = no_model _ _ _ _ refl refl open_clause;
  no_formula = faulty_text _ _ _ _ _ refl;
  cut_formula = cut_text _ _ _ _ refl refl;
  no_answer = no_list _ _ _ _ refl;
  open_answer = no_list _ _ _ _ refl;
}
