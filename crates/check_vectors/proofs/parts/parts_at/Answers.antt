use Rattle.std.proofs.Common.{◌≡◌, ℕ, List, true, refl, sym, ap, subst, arith}
use Rattle.checker_rules.specs.State.{Known, State}
use Rattle.checker_rules.specs.Steps.{new_state}
use Rattle.checker_rules.specs.WellFormed.{WellFormed, ids_rise}
use Rattle.clause_store.specs.declared.clauses.Clauses.{Clauses}
use Rattle.clause_store.specs.declared.hash.ClauseHasher.{ClauseHasher}
use Rattle.clause_store.specs.declared.state.CheckerState.{CheckerState}
use Rattle.clause_store.specs.PartsInvariant.{PartsInvariant}
use Rattle.clause_store.specs.StateOf.{state_of}
use Rattle.clause_store.specs.Store.{IsIndexed, IsStore}
use Rattle.clause_store.specs.View.{stored_list}
use Rattle.check_vectors.proofs.parts.parts_at.Goals as goal

form-next : (n : ℕ) → WellFormed (record new_state { next = n })
form-next n = record {
  fine = refl;
  rise = grind arith;
  apart = refl;
  same_known = refl;
  unit_ids = λ v. refl;
  conflict_on_unit = refl;
  inputs_counted = omega arith;
  some_width = omega arith;
  width_fits = omega arith;
  names = refl;
  assumed_canonical = refl;
  previous_canonical = refl;
}

kept-next : (st : CheckerState) (h : ClauseHasher) (cs : Clauses) (known : List Known) (n : ℕ) → state_of st h cs known ≡ new_state →
    PartsInvariant st h cs known → PartsInvariant st h (record cs { next_clause_id = n }) known
kept-next st h cs known n e k =
    let none = ap (λ (s : State). s.clauses) e in
    let filed : IsIndexed h (record cs { next_clause_id = n }) (stored_list cs) = record {
      some_bits = k.store.filed.some_bits;
      bits = k.store.filed.bits;
      within = k.store.filed.within;
      bucketed = k.store.filed.bucketed;
      rise = subst (λ es. ids_rise 0 es n ≡ true) (sym none) (grind arith);
      apart = k.store.filed.apart;
      whole = k.store.filed.whole;
      used = k.store.filed.used;
    } in
    record {
      form = subst WellFormed (sym (ap (λ (s : State). record s { next = n }) e)) (form-next n);
      store = record { filed = filed; garbage = k.store.garbage; units = k.store.units; counts = k.store.counts };
    }

pub returns : goal.returns
returns g c =
    let ctx = c.new-ctx.result in
    let k = kept-next ctx.checker_state ctx.clause_hasher ctx.clauses ctx.variables c.args.next c.new-ctx.ensures.state c.new-ctx.ensures.kept in
    record { form = k.form; store = k.store }
