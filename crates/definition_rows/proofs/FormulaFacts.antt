-- The rows, by computation of what the texts say.
use Rattle.std.proofs.Common.{◌≡◌, ◌∙◌, ℕ, Bool, true, false, List, [], ◌∷◌, refl, sym, ap, arith}
use Rattle.std.specs.Prelude.{codes}
use Rattle.std.proofs.lemmas.Bool.{false≢true}
use Rattle.sat_rules.specs.Clauses.{all_true, neg, pos}
use Rattle.sat_formula.specs.declared.fault.DimacsKind.{DimacsKind}
use Rattle.sat_formula.specs.declared.fault.DimacsKind.TheVariants.{BadNumber, UnterminatedClause}
use Rattle.sat_formula.specs.Lines.{lines_from, outcome_of, tokens_from}
use Rattle.sat_formula.specs.Outcome.{Ended, Ending, Faulty}
use Rattle.sat_formula.specs.Refuted.{IsRefuted}
use Rattle.refutation_rules.specs.Carrying.{Carries}
use Rattle.verdicts.specs.Texts.{CarriesText}
use Rattle.definition_rows.specs.FormulaRows.{FormulaRows}

-- a text says one list of clauses
same_clauses : (text : List ℕ) (cs ds : List (List ℕ)) (e f : Ending) → outcome_of text ≡ (cs, e) → outcome_of text ≡ (ds, f) → cs ≡ ds
same_clauses text cs ds e f o p = ap (λ x. x.0) (sym o ∙ p)

-- no text ends well and with a fault
one_ending : (text : List ℕ) (cs ds : List (List ℕ)) (line : ℕ) (kind : DimacsKind) → outcome_of text ≡ (cs, Faulty line kind) → outcome_of text ≡ (ds, Ended) → ⊥
one_ending text cs ds line kind o p = let e = ap (λ x. x.1) (sym o ∙ p) in absurd cc

not_refuted : (text : List ℕ) (cs : List (List ℕ)) (a : ℕ → Bool) → outcome_of text ≡ (cs, Ended) → all_true a cs ≡ true → IsRefuted text → ⊥
not_refuted text cs a o t h = let e = same_clauses text cs h.0 Ended Ended o h.1 in let f : all_true a cs ≡ false = rw e (h.2 a) in false≢true (sym f ∙ t)

faulty_text : (text : List ℕ) (cs : List (List ℕ)) (line : ℕ) (kind : DimacsKind) → outcome_of text ≡ (cs, Faulty line kind) → IsRefuted text → ⊥
faulty_text text cs line kind o h = one_ending text cs h.0 line kind o h.1

contradiction : (a : ℕ → Bool) → all_true a ((pos 2 ∷ []) ∷ (neg 2 ∷ []) ∷ []) ≡ true → ⊥
contradiction a t = grind arith

-- what carries one list of clauses to another
carries_same : (cs ds xs ys : List (List ℕ)) → cs ≡ xs → ds ≡ ys → Carries xs ys → Carries cs ds
carries_same cs ds xs ys e f h = rw (e, f) h

not_carried : (text other : List ℕ) → outcome_of text ≡ ((pos 1 ∷ []) ∷ [], Ended) → outcome_of other ≡ ((pos 2 ∷ []) ∷ (neg 2 ∷ []) ∷ [], Ended) → CarriesText text other → ⊥
not_carried text other o p h =
    let before = same_clauses text _ h.0 Ended Ended o h.1 in
    let behind = same_clauses other _ h.2.0 Ended Ended p h.2.1 in
    let found = carries_same _ _ h.0 h.2.0 before behind h.2.2 (λ x. true) refl in
    contradiction found.0 found.1

pub formula_rows : FormulaRows
unfolding tokens_from lines_from
formula_rows = record {
  refuted = ((pos 1 ∷ []) ∷ (neg 1 ∷ []) ∷ [], refl, λ a. grind arith);
  satisfiable = not_refuted (codes "1 0\n2 0\n") ((pos 1 ∷ []) ∷ (pos 2 ∷ []) ∷ []) (λ x. true) refl refl;
  no_number = faulty_text (codes "1 0\n-1 0\nx\n") ((pos 1 ∷ []) ∷ (neg 1 ∷ []) ∷ []) 3 BadNumber refl;
  unterminated = faulty_text (codes "1 0\n-1 0\n2\n") ((pos 1 ∷ []) ∷ (neg 1 ∷ []) ∷ []) 4 UnterminatedClause refl;
  after_end_mark = not_refuted (codes "1 0\n%\n-1 0\n") ((pos 1 ∷ []) ∷ []) (λ x. true) refl refl;
  comment = not_refuted (codes "1 0\nc -1 0\n") ((pos 1 ∷ []) ∷ []) (λ x. true) refl refl;
  carried = ((pos 1 ∷ []) ∷ [], refl, ((pos 1 ∷ pos 2 ∷ []) ∷ [], refl, λ a t. (λ x. true, refl)));
  not_carried = not_carried (codes "1 0\n") (codes "2 0\n-2 0\n") refl refl;
  fault_before = λ h. one_ending (codes "0\nx\n") ([] ∷ []) h.0 2 BadNumber refl h.1;
  fault_behind = λ h. one_ending (codes "1 0\nx\n") ((pos 1 ∷ []) ∷ []) h.2.0 2 BadNumber refl h.2.1;
}
