-- Counts in four or in eight bytes each.
use Rattle.std.specs.Prelude.{ℕ, List}
use Rattle.clause_store.specs.declared.clauses.counts.ByCode.{ByCode}
use Rattle.clause_store.specs.declared.clauses.counts.ByCode.TheVariants.{Narrow, Wide}

-- the counts, by the literals' codes
abbrev pub counts_in : ByCode → List ℕ
counts_in (Narrow counts) = counts.items
counts_in (Wide counts) = counts.items
