-- The literals that the values make true.
use Rattle.std.proofs.Common.{◌≡◌, ℕ, zero, suc, ◌<◌, Bool, false, not, List, [], ◌∷◌, length, set, Option, None, Some, refl, arith}
use Rattle.std.proofs.Math.Bool.{beq}
use Rattle.std.specs.Option.{option_eq, option_map}
use Rattle.std.proofs.lemmas.Bool.Decides.{nat_tests}
use Rattle.std.proofs.lemmas.Grind.{get_or-set_at}
use Rattle.std.proofs.lemmas.List.{get_or-set_other}
use Rattle.std.proofs.Math.Path.{fun_ext}
use Rattle.sat_rules.specs.Clauses.{add_lit, is_negative, negate, var_of}
use Rattle.checker_rules.specs.State.{makes_true, unit_of}
use Rattle.checker_rules.proofs.Models.{negative_negate}
use Rattle.checker_rules.proofs.Traces.{var-negate}
use Rattle.clause_store.specs.declared.clauses.units.UnitClause.{UnitClause}
use Rattle.clause_store.specs.Rup.{true_lits}
use Rattle.clause_store.specs.StateOf.{stored_unit, stored_units}
use Rattle.clause_store.specs.Units.{lit_value, signed, unit_at, value_by}

-- the value of a literal by that of its variable
pub signed-value : (o : Option UnitClause) (m : ℕ) → signed (option_map (λ (u : UnitClause). u.value) o) m ≡ value_by o m
signed-value o m = grind arith

pub unit_of-stored_units : (us : List (Option UnitClause)) (v : ℕ) → unit_of (stored_units us) v ≡ option_map stored_unit (unit_at us v)
unit_of-stored_units [] v = refl
unit_of-stored_units (u ∷ us) zero = refl
unit_of-stored_units (u ∷ us) (suc v) = unit_of-stored_units us v

-- whether a value is true, or false
abbrev pub truth : Option Bool → Bool
truth None = false
truth (Some b) = b

abbrev pub falsity : Option Bool → Bool
falsity None = false
falsity (Some b) = not b

pub eq-falsity : (o : Option Bool) → option_eq beq o (Some false) ≡ falsity o
eq-falsity o = grind arith

-- by the value of the literal's variable
pub true_lits-by : (us : List (Option UnitClause)) (m : ℕ) → true_lits us m ≡ makes_true (option_map stored_unit (unit_at us (var_of m))) m
true_lits-by us m = cc (unit_of-stored_units us (var_of m))

pub true_lits-truth : (us : List (Option UnitClause)) (m : ℕ) → true_lits us m ≡ truth (lit_value us m)
true_lits-truth us m = grind (arith, true_lits-by us m)

pub true_lits-falsity : (us : List (Option UnitClause)) (m : ℕ) → true_lits us (negate m) ≡ falsity (lit_value us m)
true_lits-falsity us m = grind (arith, true_lits-by us (negate m), var-negate m, negative_negate m)

pub negation_is : (m k : ℕ) → var_of k ≡ var_of m → (k ≡ m → ⊥) → k ≡ negate m
negation_is m k e ne = grind (arith, nat_tests)

-- a literal whose negation is not true joins the true ones
pub true_lits-set : (us : List (Option UnitClause)) (m : ℕ) (u : UnitClause) → var_of m < length us → u.value ≡ not (is_negative m) →
    true_lits us (negate m) ≡ false → true_lits (set us (var_of m) (Some u)) ≡ add_lit m (true_lits us)
true_lits-set us m u known v free =
    fun_ext (λ k. grind (arith, nat_tests, true_lits-by, get_or-set_at, get_or-set_other, negation_is m k))
