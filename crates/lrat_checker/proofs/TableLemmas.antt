-- Tables of clauses and counts.
use Rattle.std.proofs.Common.{◌≡◌, ℕ, List, Option, ap, ◌∙◌}
use mathlib.Core.Path.{fun_ext}
use Rattle.lrat_rules.specs.Tables.{Table}

-- a table of its parts
abbrev table : (ℕ → Option (List ℕ)) → (ℕ → ℕ) → Table
table f u = record { named = f; counts = u }

-- tables with the same clauses and counts
pub table_ext : (f g : ℕ → Option (List ℕ)) (u v : ℕ → ℕ) → ((k : ℕ) → f k ≡ g k) → ((l : ℕ) → u l ≡ v l) → ◌≡◌ {A = Table} (record { named = f; counts = u }) (record { named = g; counts = v })
table_ext f g u v p q = ap (λ h. table h u) (fun_ext p) ∙ ap (table g) (fun_ext q)
