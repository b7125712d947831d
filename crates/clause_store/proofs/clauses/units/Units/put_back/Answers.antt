use Rattle.std.proofs.Common.{ℕ, Option, ap, arith}
use Rattle.sat_rules.specs.Clauses.{var_of}
use Rattle.clause_store.specs.declared.clauses.units.UnitClause.{UnitClause}
use Rattle.clause_store.specs.declared.clauses.units.Value.{Value}
use Rattle.clause_store.specs.Units.{id_by, unit_by}
use Rattle.clause_store.proofs.ColumnLemmas.{length-units_by, units_by-free, units_by-set}
use Rattle.clause_store.proofs.clauses.units.Units.put_back.Goals as goal

pub index_mut-requires : goal.index_mut-requires
index_mut-requires c = let many = length-units_by _ _ _ c.self.invariant in grind (arith, many)

pub index_mut-requires-in_default : goal.index_mut-requires-in_default
index_mut-requires-in_default c = let many = length-units_by _ _ _ c.self.invariant in grind (arith, many)

pub index_mut-requires-in_default-2 : goal.index_mut-requires-in_default-2
index_mut-requires-in_default-2 c = let many = length-units_by _ _ _ c.self.invariant in grind (arith, many)

pub index_mut-requires-in_default-3 : goal.index_mut-requires-in_default-3
index_mut-requires-in_default-3 c = let many = length-units_by _ _ _ c.self.invariant in grind (arith, many)

pub returns-in_default : goal.returns-in_default
returns-in_default c =
    let old = c.old.inside in let columns = c.self.inside in
    cc (
      units_by-set columns.values.items columns.sources.items columns.numbers.items c.index-index.result old.value old.source old.number c.self.invariant,
      c.self.view_is,
      c.index-index.ensures.value,
      ap (λ (t : ℕ × Option UnitClause). var_of t.0) c.old.view_is,
      ap (λ (t : ℕ × Option UnitClause). t.1) c.old.view_is,
    )

pub returns-in-Free : goal.returns-in-Free
returns-in-Free c =
    let columns = c.self.inside in
    cc (
      units_by-free columns.values.items columns.sources.items columns.numbers.items c.index-index.result c.self.invariant,
      c.self.view_is,
      c.index-index.ensures.value,
      ap (λ (v : Value). unit_by v (id_by c.old.inside.source c.old.inside.number)) c.in-Free.is,
      ap (λ (t : ℕ × Option UnitClause). var_of t.0) c.old.view_is,
      ap (λ (t : ℕ × Option UnitClause). t.1) c.old.view_is,
    )
