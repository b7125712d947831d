-- What stays true of the clauses under ids: all of them follow from the clauses that were given.
use Rattle.std.proofs.Common.{◌≡◌, ℕ, Bool, true, cond, eqb, List, [], ◌∷◌, ◌++◌, Option, Some, None, is_some, sym, ◌∙◌, arith}
use Rattle.std.proofs.lemmas.Bool.{and_parts}
use Rattle.std.proofs.lemmas.List.Folds.{list_all-append}
use Rattle.sat_rules.specs.Clauses.{all_true, clause_true}
use Rattle.sat_rules.specs.Named.{negated_set}
use Rattle.lrat_rules.specs.Propagation.{propagate}
use Rattle.lrat_rules.specs.Causes.{id_taken}
use Rattle.session_checker.specs.Refusals.{Refusal, by_line, hints_cause, lemma_cause}
use Rattle.session_checker.specs.Rules.{AllFollow, Follows}
use Rattle.session_checker.proofs.Exact.{hints_exact}
use Rattle.session_checker.proofs.Truth.{follows_true}

-- a clause of the new map is the new one, or was there
abbrev pub PutAt : (ℕ → Option (List ℕ)) → (ℕ → Option (List ℕ)) → ℕ → List ℕ → Type 0
PutAt f g id c = (k : ℕ) → g k ≡ cond (eqb k id) (Some c) (f k)

put_follows : (cs : List (List ℕ)) (f g : ℕ → Option (List ℕ)) (id : ℕ) (c : List ℕ) → PutAt f g id c → Follows cs c → AllFollow cs f → AllFollow cs g
put_follows cs f g id c put new_true before i d e a t = grind (arith, put i, new_true a t, before i d, e)

-- a lemma that has no cause
pub derived_follows : (cs : List (List ℕ)) (f g : ℕ → Option (List ℕ)) (id : ℕ) (c ids : List ℕ) → PutAt f g id c → hints_cause (propagate f (negated_set c) ids) ≡ None → AllFollow cs f → AllFollow cs g
derived_follows cs f g id c ids put none before =
    put_follows cs f g id c put (λ a t. follows_true f a (λ i d e. before i d e a t) c ids ((hints_exact (propagate f (negated_set c) ids)).0 none)) before

-- a clause that is given
pub given_follows : (cs : List (List ℕ)) (f g : ℕ → Option (List ℕ)) (id : ℕ) (c : List ℕ) → PutAt f g id c → AllFollow cs f → AllFollow (cs ++ c ∷ []) g
given_follows cs f g id c put before = put_follows (cs ++ c ∷ []) f g id c put (λ a t. last a t) (λ i d e a t. before i d e a (parts a t).0)
  where
    parts : (a : ℕ → Bool) → all_true a (cs ++ c ∷ []) ≡ true → (all_true a cs ≡ true) × (all_true a (c ∷ []) ≡ true)
    parts a t = and_parts (all_true a cs) (all_true a (c ∷ [])) (sym (list_all-append (clause_true a) cs (c ∷ [])) ∙ t)

    last : (a : ℕ → Bool) → all_true a (cs ++ c ∷ []) ≡ true → clause_true a c ≡ true
    last a t = (and_parts (clause_true a c) true (parts a t).1).0

-- a lemma without a cause has none by its hints
pub hints_none : (f : ℕ → Option (List ℕ)) (i : ℕ) (c ids : List ℕ) → lemma_cause f i c ids ≡ None → hints_cause (propagate f (negated_set c) ids) ≡ None
hints_none f i c ids none = second (is_some (f i)) (hints_cause (propagate f (negated_set c) ids)) none
  where
    second : (taken : Bool) (o : Option Refusal) → cond taken (Some (by_line id_taken)) o ≡ None → o ≡ None
    second taken o e = grind arith
