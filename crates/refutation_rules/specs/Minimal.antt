-- Formulas of which each clause is needed.
--     IsMinimal cs      no assignment satisfies the formula, and without any of its clauses one does
use Rattle.std.specs.Prelude.{◌≡◌, ℕ, Bool, true, List, ◌∷◌, ◌++◌}
use Rattle.sat_rules.specs.Clauses.{all_true}
use Rattle.refutation_rules.specs.Cubes.{IsRefuted}

-- no assignment satisfies all clauses, and whichever is left out, one satisfies the others
pub record IsMinimal (cs : List (List ℕ)) : Type 0 where
  pub refuted : IsRefuted cs
  pub needed : (before : List (List ℕ)) (c : List ℕ) (after : List (List ℕ)) → cs ≡ before ++ c ∷ after
      → (a : ℕ → Bool) × (all_true a (before ++ after) ≡ true)
