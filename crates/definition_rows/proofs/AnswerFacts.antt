-- The rows, by computation.
use Rattle.std.proofs.Common.{◌≡◌, ◌==◌, ℕ, Bool, true, false, [], ◌∷◌, refl, arith}
use Rattle.std.proofs.lemmas.Bool.{false≢true}
use Rattle.sat_rules.specs.Clauses.{all_true, neg, pos}
use Rattle.refutation_rules.specs.Sessions.{lits_true}
use Rattle.definition_rows.specs.AnswerRows.{AnswerRows, one_of_two}

-- what satisfies the clause does not make both literals true
apart : (a : ℕ → Bool) → all_true a one_of_two ≡ true → lits_true a (pos 1 ∷ pos 2 ∷ []) ≡ true → ⊥
apart a c v = grind arith

-- a literal and its negation are not both true
opposite : (a : ℕ → Bool) → lits_true a (pos 1 ∷ []) ≡ true → lits_true a (neg 1 ∷ []) ≡ true → ⊥
opposite a p n = grind arith

both_signs : (a : ℕ → Bool) → lits_true a (pos 1 ∷ neg 1 ∷ []) ≡ true → ⊥
both_signs a v = grind arith

unit_false : (a : ℕ → Bool) → all_true a ((pos 1 ∷ []) ∷ []) ≡ true → lits_true a (neg 1 ∷ []) ≡ true → ⊥
unit_false a c v = grind arith

pub answer_rows : AnswerRows
answer_rows = record {
  satisfied = record { found = λ x. x == 0; clauses_true = refl; assumed_true = refl; values_true = refl };
  clause_false = λ s. apart s.found s.clauses_true s.values_true;
  assumed_false = λ s. opposite s.found s.assumed_true s.values_true;
  values_apart = λ s. both_signs s.found s.values_true;
  clause_and_assumed = λ s. apart s.found s.clauses_true s.assumed_true;
  failed = record { part = refl; fails = λ a c v. apart a c v };
  not_assumed = λ f. false≢true f.part;
  core_true = λ f. f.fails (λ x. x == 0) refl refl;
  no_core = λ f. f.fails (λ x. false) refl refl;
  later_clause = λ t. t.0.fails (λ x. true) refl refl;
  earlier_clause = λ t. unit_false t.0.found t.0.clauses_true t.0.assumed_true;
  second_answer = λ t. t.1.0.fails (λ x. true) refl refl;
  no_model = λ t. unit_false t.0.found t.0.clauses_true t.0.values_true;
  core_of_others = λ t. false≢true t.0;
  core_beyond = refl;
  clause_beyond = refl;
  renamed_literal = refl;
  renamed_negation = refl;
}
