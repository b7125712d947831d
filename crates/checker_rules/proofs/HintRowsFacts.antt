-- The rows on the hint machine, by computation.
use Rattle.std.proofs.Common.{◌≡◌, ◌≤◌, ℕ, suc, false, List, [], ◌∷◌, Option, Some, None, refl, sym, ap, ◌∙◌, arith, inl, inr}
use Rattle.std.proofs.lemmas.Bool.{true≢false, both_ways}
use Rattle.sat_rules.specs.Named.{IsAdmitted, NamedBy, drop_id, negated_set}
use Rattle.sat_rules.specs.Clauses.{neg, pos}
use Rattle.checker_rules.specs.CallEmissions.{empty_machine}
use Rattle.checker_rules.specs.HintRows.{HintRows, two_clauses}
use Rattle.checker_rules.specs.State.{chain_test}
use Rattle.checker_rules.proofs.PassTest.{test_from_chain}

-- the clauses that ids name
abbrev followed_by : Option (List ℕ) → Option (List (List ℕ)) → Option (List (List ℕ))
followed_by None rest = None
followed_by (Some c) None = None
followed_by (Some c) (Some cs) = Some (c ∷ cs)

abbrev all_named : (ℕ → Option (List ℕ)) → List ℕ → Option (List (List ℕ))
all_named f [] = Some []
all_named f (i ∷ ids) = followed_by (f i) (all_named f ids)

named_are : (f : ℕ → Option (List ℕ)) (ids : List ℕ) (cs : List (List ℕ)) → NamedBy f ids cs → all_named f ids ≡ Some cs
named_are f [] [] h = refl
named_are f (i ∷ ids) (c ∷ cs) h = ap (λ x. followed_by x (all_named f ids)) h.0 ∙ ap (followed_by (Some c)) (named_are f ids cs h.1)
named_are f ids cs h = absurd h

-- a list that is not admitted
same_clauses : (cs ds : List (List ℕ)) → Some cs ≡ Some ds → cs ≡ ds
same_clauses cs ds e = cc

no_chain : (f : ℕ → Option (List ℕ)) (c ids : List ℕ) (cs : List (List ℕ)) → all_named f ids ≡ Some cs → chain_test (negated_set c) cs ≡ false → IsAdmitted f c ids → ⊥
no_chain f c ids cs e off h = both_ways _ off (ap (chain_test (negated_set c)) (same_clauses cs h.0 (sym e ∙ named_are f ids h.0 h.1)) ∙ test_from_chain (negated_set c) h.0 h.2)

not_all : (f : ℕ → Option (List ℕ)) (c ids : List ℕ) → all_named f ids ≡ None → IsAdmitted f c ids → ⊥
not_all f c ids e h = absurd (apart h.0 (sym e ∙ named_are f ids h.0 h.1))
  where
    apart : (cs : List (List ℕ)) → None ≡ Some cs → ⊥
    apart cs k = cc

above : (i n : ℕ) → n ≤ i → suc i ≤ n → ⊥
above i n h k = omega arith

pub hint_rows : HintRows
hint_rows = record {
  conflict = (
    (omega arith, ((pos 1 ∷ []) ∷ (neg 1 ∷ []) ∷ [], (refl, (refl, tt)), (pos 1, refl, refl))),
    ((omega arith, ((neg 1 ∷ []) ∷ (pos 1 ∷ []) ∷ [], (refl, (refl, tt)), (neg 1, refl, refl))), tt),
  );
  no_conflict = λ h. no_chain two_clauses.named [] (3 ∷ []) ((pos 1 ∷ []) ∷ []) refl refl h.1;
  not_unit = λ h. no_chain two_clauses.named [] (3 ∷ 3 ∷ 4 ∷ []) ((pos 1 ∷ []) ∷ (pos 1 ∷ []) ∷ (neg 1 ∷ []) ∷ []) refl refl h.1;
  after_conflict = λ h. no_chain two_clauses.named [] (3 ∷ 4 ∷ 4 ∷ []) ((pos 1 ∷ []) ∷ (neg 1 ∷ []) ∷ (neg 1 ∷ []) ∷ []) refl refl h.1;
  no_list = λ h. no_chain two_clauses.named (pos 1 ∷ []) [] [] refl refl h.1;
  one_clause = (omega arith, ((pos 1 ∷ []) ∷ [], (refl, tt), refl));
  unknown_id = λ h. not_all two_clauses.named [] (2 ∷ 4 ∷ []) refl h.1;
  same_id = λ c h. above 4 5 h (omega arith);
  lower_id = λ h. above 2 5 h.0 (omega arith);
  removed_id = λ c h. above 4 5 h.1.0 (omega arith);
  skipped_id = (omega arith, tt);
  removed_clause = λ h. not_all (drop_id 3 two_clauses).named [] (3 ∷ 4 ∷ []) refl h.1.0.1;
  own_id = λ h. true≢false h.1;
  lowered = λ h. not_all (drop_id 4 two_clauses).named [] (3 ∷ 4 ∷ []) refl h.1.0.1;
  kept = (
    (((pos 1 ∷ []) ∷ [], (refl, tt), refl), refl),
    ((omega arith, ((pos 1 ∷ []) ∷ (neg 1 ∷ []) ∷ [], (refl, (refl, tt)), (pos 1, refl, refl))), tt),
  );
  core = inr ((pos 1 ∷ []) ∷ [], (refl, tt), refl);
  true_core = λ h. elim h [
    | inl k ↦ true≢false (sym k.0)
    | inr k ↦ no_chain two_clauses.named (neg 2 ∷ []) (3 ∷ []) ((pos 1 ∷ []) ∷ []) refl refl k
  ];
  opposite_core = inl (refl, refl);
  silent_core = λ h. elim h [
    | inl k ↦ true≢false (sym k.0)
    | inr k ↦ no_chain empty_machine.named (neg 1 ∷ []) [] [] refl refl k
  ];
}
