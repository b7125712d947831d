-- A literal and its copy are true together.
use Rattle.std.proofs.Common.{◌≡◌, ℕ, ◌+◌, ◌*◌, Bool, cond, not, List, [], ◌∷◌, map, refl, sym, ◌∙◌, arith}
use Rattle.sat_rules.specs.Clauses.{all_true, clause_true, is_negative, lit_true, var_of}
use Rattle.refutation_rules.specs.Copies.{CopiesHold, renamed}

by_sign : (a : ℕ → Bool) (v : ℕ) (sign : Bool) → lit_true a (cond sign (2 * v + 1) (2 * v)) ≡ cond sign (not (a v)) (a v)
by_sign a v sign = grind arith

same_clause : (r : ℕ → ℕ) (a : ℕ → Bool) (c : List ℕ) → clause_true a (map (renamed r) c) ≡ clause_true (λ x. a (r x)) c
same_clause r a [] = refl
same_clause r a (l ∷ ls) = cc (by_sign a (r (var_of l)) (is_negative l), same_clause r a ls)

same_clauses : (r : ℕ → ℕ) (a : ℕ → Bool) (cs : List (List ℕ)) → all_true a (map (map (renamed r)) cs) ≡ all_true (λ x. a (r x)) cs
same_clauses r a [] = refl
same_clauses r a (c ∷ cs) = cc (same_clause r a c, same_clauses r a cs)

pub copies_hold : CopiesHold
copies_hold r a cs h = sym (same_clauses r a cs) ∙ h
