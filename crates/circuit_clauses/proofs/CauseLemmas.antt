-- Where there is no cause, the circuits have places of their own in the formulas.
use Rattle.std.proofs.Common.{◌≡◌, ℕ, suc, ◌+◌, ◌*◌, ◌<◌, ◌≤◌, ◌^◌, Bool, true, false, ◌&&◌, ◌==◌, nat_lt, List, [], ◌∷◌, ◌++◌, map, length, Option, None, refl, ap, sym, subst, ◌∙◌, arith}
use Rattle.std.specs.List.{list_all}
use Rattle.std.proofs.lemmas.Bool.{and_from, and_parts, eqb-true, le-ltb, lt-ltb, ltb-true}
use Rattle.std.proofs.lemmas.List.Folds.{list_all-append, list_all-map}
use Rattle.std.proofs.lemmas.List.{length-map}
use Rattle.sat_rules.specs.Clauses.{var_of}
use Rattle.circuit_rules.specs.Circuits.{Gate, are_ordered}
use Rattle.circuit_rules.specs.Checks.{HavePlaces, gates_below, lits_below, moved, moved_gate}
use Rattle.circuit_rules.specs.Safety.{HaveSteps, Machine, latches_below}
use Rattle.circuit_text.specs.Circuits.{gate_of}
use Rattle.circuit_text.specs.declared.circuit.Circuit.{Circuit}
use Rattle.circuit_clauses.specs.declared.fault.ClausesFault.{ClausesFault}
use Rattle.circuit_clauses.specs.declared.induction.Induction.{Induction}
use Rattle.circuit_clauses.specs.declared.induction.Part.TheVariants.{Step}
use Rattle.circuit_clauses.specs.declared.places.Places.{Places}
use Rattle.circuit_clauses.specs.Causes.{are_both_ordered, end_of, fits_part, gates_fit, has_outputs, is_closed, is_invariant, is_machine, last_of, latches_fit, lit_fits, safe_cause, same_cause, unless, variables}
use Rattle.circuit_clauses.specs.Formulas.{gates_in}
use Rattle.circuit_clauses.specs.Machines.{IsInduction, bad_of, gates_of, machine_in, more_gates, size_of, states_in}
use Rattle.circuit_clauses.specs.Places.{HasCounts, HasPlaces}
use Rattle.circuit_clauses.proofs.PlaceLemmas.{all_weaker, gates_further, latches_fitting, lits_further, moved_below, moved_ordered, ordered_append, ordered_fit}

-- a cause is none if its test holds, and what comes next is none
pub past : (test : Bool) (fault : ClausesFault) (next : Option ClausesFault) → unless test fault next ≡ None → (test ≡ true) × (next ≡ None)
past true fault next h = (refl, h)
past false fault next h = absurd cc

-- a list without length
none_left : {X : Type 0} (xs : List X) → length xs ≡ 0 → xs ≡ []
none_left [] h = refl
none_left (x ∷ xs) h = absurd (omega (arith, h))

-- ---- two circuits

-- what holds of two circuits that have a formula
pub record AreAlike (c c' : Circuit) : Type 0 where
  pub inputs : c.inputs ≡ c'.inputs
  pub outputs : length c.outputs.items ≡ length c'.outputs.items
  pub room : variables c c' < 2 ^ 28
  pub ordered : are_ordered (suc c.inputs) (gates_in c) ≡ true
  pub ordered' : are_ordered (suc c.inputs) (gates_in c') ≡ true
  pub gates : gates_below 0 (end_of c.inputs c) (gates_in c) ≡ true
  pub lits : lits_below 0 (end_of c.inputs c) c.outputs.items ≡ true
  pub gates' : gates_below 0 (end_of c.inputs c') (gates_in c') ≡ true
  pub lits' : lits_below 0 (end_of c.inputs c') c'.outputs.items ≡ true

pub alike : (c c' : Circuit) → same_cause c c' ≡ None → AreAlike c c'
alike c c' h =
    let inputs = past (c.inputs == c'.inputs) _ _ h in
    let outputs = past (length c.outputs.items == length c'.outputs.items) _ _ inputs.1 in
    let some = past (has_outputs c) _ _ outputs.1 in
    let room = past (nat_lt (variables c c') (2 ^ 28)) _ _ some.1 in
    let ordered = past (are_both_ordered c.inputs c c') _ _ room.1 in
    let closed = past (is_closed c.inputs c c.outputs.items && is_closed c.inputs c' c'.outputs.items) _ _ ordered.1 in
    let both = and_parts (are_ordered (suc c.inputs) (gates_in c)) (are_ordered (suc c.inputs) (gates_in c')) ordered.0 in
    let each = and_parts (is_closed c.inputs c c.outputs.items) (is_closed c.inputs c' c'.outputs.items) closed.0 in
    let one = and_parts (gates_below 0 (end_of c.inputs c) (gates_in c)) (lits_below 0 (end_of c.inputs c) c.outputs.items) each.0 in
    let other = and_parts (gates_below 0 (end_of c.inputs c') (gates_in c')) (lits_below 0 (end_of c.inputs c') c'.outputs.items) each.1 in
    record {
      inputs = eqb-true c.inputs c'.inputs inputs.0;
      outputs = eqb-true (length c.outputs.items) (length c'.outputs.items) outputs.0;
      room = ltb-true (variables c c') (2 ^ 28) room.0;
      ordered = both.0;
      ordered' = both.1;
      gates = one.0;
      lits = one.1;
      gates' = other.0;
      lits' = other.1;
    }

places : (n d s v : ℕ) (gs : List Gate) (os : List ℕ) (gs' : List Gate) (os' : List ℕ) → v ≡ n + 1 + d + s → length os ≡ length os' →
    are_ordered (suc n) gs ≡ true → are_ordered (suc n) gs' ≡ true → gates_below 0 (n + 1 + d) gs ≡ true → lits_below 0 (n + 1 + d) os ≡ true →
    gates_below 0 (n + 1 + s) gs' ≡ true → lits_below 0 (n + 1 + s) os' ≡ true → HavePlaces n d v gs os gs' os'
places n d s v gs os gs' os' e as_many h h' g l g' l' = record {
  ordered = h;
  ordered' = h';
  gates_first = gates_further 0 (n + 1 + d) 0 (suc n + d) gs (omega arith) g;
  outputs_first = lits_further 0 (n + 1 + d) 0 (suc n + d) os (omega arith) l;
  gates_second = gates_further 0 (n + 1 + s) d v gs' (omega (arith, e)) g';
  outputs_second = lits_further 0 (n + 1 + s) d v os' (omega (arith, e)) l';
  last = le-ltb v (suc n + d) (omega (arith, e));
  as_many = as_many;
}

-- at numbers that are those of circuits
places_at : (c c' : Circuit) (n d v : ℕ) → n ≡ c.inputs → d ≡ size_of c → v ≡ c.inputs + 1 + size_of c + size_of c' → AreAlike c c' →
    HavePlaces n d v (gates_in c) c.outputs.items (gates_in c') c'.outputs.items
places_at c c' n d v e f g a =
    rw (e, f) (places c.inputs (size_of c) (size_of c') v (gates_in c) c.outputs.items (gates_in c') c'.outputs.items g a.outputs a.ordered a.ordered' a.gates a.lits a.gates' a.lits')

pub has_places : (c c' : Circuit) (p : Places) → same_cause c c' ≡ None → HasCounts c.inputs (size_of c) (size_of c') p → HasPlaces c c' p
has_places c c' p h e =
    let a = alike c c' h in
    record {
      inputs = e.0;
      as_many = a.inputs;
      places = places_at c c' p.shift.inputs p.shift.distance p.differences e.0 e.1 e.2 a;
      others_fit =
          ordered_fit p.shift.distance (suc c.inputs) (end_of c.inputs c') (2 ^ 28) (gates_in c') (omega arith) (omega (arith, e.1, a.room)) a.ordered' a.gates';
      outputs_fit = lits_further 0 (end_of c.inputs c') p.shift.distance (2 ^ 28) c'.outputs.items (omega (arith, e.1, a.room)) a.lits';
      differences_fit = omega (arith, e.2, a.room);
    }

-- ---- a machine and an invariant

-- what holds of a machine and an invariant that have formulas
pub record AreSteps (c c' : Circuit) : Type 0 where
  pub latches' : length c'.latches.items ≡ 0
  pub outputs' : length c'.outputs.items ≡ 1
  pub room : last_of c c' < 2 ^ 27
  pub inputs : c'.inputs ≡ states_in c
  pub ordered : are_ordered (suc (states_in c)) (gates_in c) ≡ true
  pub ordered' : are_ordered (suc (states_in c)) (gates_in c') ≡ true
  pub latches : latches_below (states_in c) (end_of (states_in c) c) (machine_in c).latches ≡ true
  pub constraints : lits_below 0 (end_of (states_in c) c) c.constraints.items ≡ true
  pub gates : gates_below 0 (end_of (states_in c) c) (gates_in c) ≡ true
  pub bad : lits_below 0 (end_of (states_in c) c) (bad_of c.outputs.items c.bad.items) ≡ true
  pub gates' : gates_below 0 (end_of (states_in c) c') (gates_in c') ≡ true
  pub lits' : lits_below 0 (end_of (states_in c) c') c'.outputs.items ≡ true

pub are_steps : (c c' : Circuit) → safe_cause c c' ≡ None → AreSteps c c'
are_steps c c' h =
    let n = states_in c in
    let bad = bad_of c.outputs.items c.bad.items in
    let some = past (nat_lt 0 (length bad)) _ _ h in
    let shape = past (is_invariant c') _ _ some.1 in
    let room = past (nat_lt (last_of c c') (2 ^ 27)) _ _ shape.1 in
    let inputs = past (c'.inputs == n) _ _ room.1 in
    let ordered = past (are_both_ordered n c c') _ _ inputs.1 in
    let closed = past (is_machine n c && is_closed n c' c'.outputs.items) _ _ ordered.1 in
    let last = and_parts (length c'.latches.items == 0 && length c'.bad.items == 0 && length c'.constraints.items == 0) (length c'.outputs.items == 1) shape.0 in
    let most = and_parts (length c'.latches.items == 0 && length c'.bad.items == 0) (length c'.constraints.items == 0) last.0 in
    let first = and_parts (length c'.latches.items == 0) (length c'.bad.items == 0) most.0 in
    let both = and_parts (are_ordered (suc n) (gates_in c)) (are_ordered (suc n) (gates_in c')) ordered.0 in
    let each = and_parts (is_machine n c) (is_closed n c' c'.outputs.items) closed.0 in
    let parts = and_parts (latches_below n (end_of n c) (machine_in c).latches && lits_below 0 (end_of n c) c.constraints.items) (is_closed n c bad) each.0 in
    let states = and_parts (latches_below n (end_of n c) (machine_in c).latches) (lits_below 0 (end_of n c) c.constraints.items) parts.0 in
    let one = and_parts (gates_below 0 (end_of n c) (gates_in c)) (lits_below 0 (end_of n c) bad) parts.1 in
    let other = and_parts (gates_below 0 (end_of n c') (gates_in c')) (lits_below 0 (end_of n c') c'.outputs.items) each.1 in
    record {
      latches' = eqb-true (length c'.latches.items) 0 first.0;
      outputs' = eqb-true (length c'.outputs.items) 1 last.1;
      room = ltb-true (last_of c c') (2 ^ 27) room.0;
      inputs = eqb-true c'.inputs n inputs.0;
      ordered = both.0;
      ordered' = both.1;
      latches = states.0;
      constraints = states.1;
      gates = one.0;
      bad = one.1;
      gates' = other.0;
      lits' = other.1;
    }

module _ (n d s last : ℕ) (m : Machine) (gs : List Gate) (o : ℕ) (own : length m.gates ≡ d) (e : last ≡ n + d + s) (g : are_ordered (suc n) m.gates ≡ true)
    (g' : are_ordered (suc n) gs ≡ true) (below : gates_below 0 (n + 1 + d) m.gates ≡ true) (below' : gates_below 0 (n + 1 + s) gs ≡ true) where
  behind : are_ordered (n + 1 + d) (map (moved_gate n d) gs) ≡ true
  behind = let f : n + 1 + d ≡ suc n + d = omega arith in ap (λ k. are_ordered k (map (moved_gate n d) gs)) f ∙ moved_ordered n d (suc n) gs g'

  pub all_ordered : are_ordered (suc n) (m.gates ++ map (moved_gate n d) gs) ≡ true
  all_ordered =
      let f : suc n + length m.gates ≡ n + 1 + d = omega (arith, own) in
      ordered_append (suc n) m.gates (map (moved_gate n d) gs) g (ap (λ k. gates_below 0 k m.gates) f ∙ below)
      (ap (λ k. are_ordered k (map (moved_gate n d) gs)) f ∙ behind)

  moved_once : (x : Gate) → nat_lt (x.var + 0) (n + 1 + s) ≡ true → nat_lt (x.var + d + 0) (suc last) ≡ true
  moved_once x h = lt-ltb (x.var + d + 0) (suc last) (omega (arith, ltb-true (x.var + 0) (n + 1 + s) h, e))

  more_below : gates_below 0 (suc last) (map (moved_gate n d) gs) ≡ true
  more_below =
      list_all-map (λ (x : Gate). nat_lt (x.var + 0) (suc last)) (moved_gate n d) gs
      ∙ all_weaker (λ (x : Gate). nat_lt (x.var + 0) (n + 1 + s)) (λ (x : Gate). nat_lt (x.var + d + 0) (suc last)) moved_once gs below'

  pub all_below : gates_below 0 (suc last) (m.gates ++ map (moved_gate n d) gs) ≡ true
  all_below =
      list_all-append (λ (x : Gate). nat_lt (x.var + 0) (suc last)) m.gates (map (moved_gate n d) gs)
      ∙ and_from (gates_below 0 (suc last) m.gates) (gates_below 0 (suc last) (map (moved_gate n d) gs))
      (gates_further 0 (n + 1 + d) 0 (suc last) m.gates (omega (arith, e)) below) more_below

  pub steps : latches_below n (n + 1 + d) m.latches ≡ true → lits_below 0 (n + 1 + d) m.constraints ≡ true → lits_below 0 (n + 1 + d) m.bad ≡ true →
      var_of o < n + 1 + s → HaveSteps n (n + 1 + d) last (2 * last + 1) m (map (moved_gate n d) gs) (moved n d o)
  steps latches constraints bad output =
      let inv : var_of (moved n d o) < suc last = moved_below n d o (suc last) (omega (arith, output, e)) in
      record {
        ordered = g;
        more_ordered = behind;
        all_ordered = all_ordered;
        latches_first = latches;
        constraints_first = constraints;
        bad_first = bad;
        p_first = le-ltb (suc last) (n + 1 + d) (omega (arith, e));
        n_first = le-ltb last n (omega (arith, e));
        gates_first = all_below;
        inv_first = lt-ltb (var_of (moved n d o) + 0) (suc last) (omega (arith, inv));
        gates_second = gates_further 0 (suc last) last (2 * last + 1) (m.gates ++ map (moved_gate n d) gs) (omega arith) all_below;
        inputs_second = lt-ltb (n + last) (2 * last + 1) (omega (arith, e));
        inv_second = lt-ltb (var_of (moved n d o) + last) (2 * last + 1) (omega (arith, inv));
      }

  -- the next step has variables, too
  pub all_fit : (k : ℕ) → suc last + last ≤ k →
      list_all (λ x. nat_lt (x.var + last) k && nat_lt (var_of x.left + last) k && nat_lt (var_of x.right + last) k) (m.gates ++ map (moved_gate n d) gs) ≡ true
  all_fit k room = ordered_fit last (suc n) (suc last) k (m.gates ++ map (moved_gate n d) gs) (omega (arith, e)) room all_ordered all_below

-- the only literal is below the limit of all
output_below : (v o : ℕ) (os : List ℕ) → os ≡ o ∷ [] → lits_below 0 v os ≡ true → var_of o < v
output_below v o os e h =
    let q = and_parts (nat_lt (var_of o + 0) v) true (sym (ap (lits_below 0 v) e) ∙ h) in
    omega (arith, ltb-true (var_of o + 0) v q.0)

module _ (c c' : Circuit) (n d o : ℕ) (h : safe_cause c c' ≡ None) (states : n ≡ states_in c) (own : d ≡ size_of c) where
  pub output_fits : c'.outputs.items ≡ o ∷ [] → var_of o + d < 2 ^ 28
  output_fits e =
      let s = are_steps c c' h in
      let below : var_of o < end_of (states_in c) c' = output_below (end_of (states_in c) c') o c'.outputs.items e s.lits' in
      omega (arith, below, own, s.room)

  pub invariant_fits : gates_fit d (gates_in c') ≡ true
  invariant_fits =
      let s = are_steps c c' h in
      ordered_fit d (suc (states_in c)) (end_of (states_in c) c') (2 ^ 28) (gates_in c') (omega arith) (omega (arith, own, s.room)) s.ordered' s.gates'

  module _ (i : Induction) (machine : i.machine ≡ c) (last : i.last ≡ last_of c c') (output : c'.outputs.items ≡ o ∷ []) (invariant : i.invariant ≡ moved n d o)
      (gates : gates_of i ≡ gates_in c ++ map (moved_gate n d) (gates_in c')) where
    moved_is : i.invariant ≡ moved (states_in c) (size_of c) o
    moved_is = invariant ∙ ap (λ m. moved m d o) states ∙ ap (λ m. moved (states_in c) m o) own

    gates_are : gates_of i ≡ gates_in c ++ more_gates c c'
    gates_are =
        gates ∙ ap (λ m. gates_in c ++ map (moved_gate m d) (gates_in c')) states
        ∙ ap (λ m. gates_in c ++ map (moved_gate (states_in c) m) (gates_in c')) own

    below : var_of o < end_of (states_in c) c'
    below = output_below (end_of (states_in c) c') o c'.outputs.items output (are_steps c c' h).lits'

    steps_are : HaveSteps (states_in c) (states_in c + 1 + size_of c) i.last (2 * i.last + 1) (machine_in c) (more_gates c c') (moved (states_in c) (size_of c) o)
    steps_are =
        let s = are_steps c c' h in
        steps (states_in c) (size_of c) (size_of c') i.last (machine_in c) (gates_in c') o (length-map c.gates.items gate_of) last s.ordered s.ordered' s.gates s.gates'
        s.latches s.constraints s.bad below

    pub is_induction : IsInduction c c' i
    is_induction =
        let s = are_steps c c' h in
        record {
          machine = machine;
          inputs = s.inputs;
          latches = none_left c'.latches.items s.latches';
          output = o;
          outputs = output;
          invariant = moved_is;
          gates = gates_are;
          places =
              subst (λ l. HaveSteps (states_in c) (states_in c + 1 + size_of c) i.last (2 * i.last + 1) (machine_in c) (more_gates c c') l) (sym moved_is) steps_are;
        }

    pub fits_step : fits_part i Step ≡ true
    fits_step =
        let s = are_steps c c' h in
        let room : suc i.last + i.last ≤ 2 ^ 28 = omega (arith, last, s.room) in
        let all = ap (gates_fit i.last) gates_are ∙ all_fit (states_in c) (size_of c) (size_of c') i.last (machine_in c) (gates_in c') o (length-map c.gates.items gate_of) last
        s.ordered s.ordered' s.gates s.gates' (2 ^ 28) room in
        let latches = ap (λ (m : Circuit). latches_fit i.last (machine_in m).latches) machine
        ∙ latches_fitting (states_in c) (end_of (states_in c) c) i.last (2 ^ 28) (machine_in c).latches (omega (arith, last, room)) s.latches in
        let inv : var_of i.invariant < suc i.last =
        subst (λ l. var_of l < suc i.last) (sym moved_is) (moved_below (states_in c) (size_of c) o (suc i.last) (omega (arith, below, last))) in
        and_from (gates_fit i.last (gates_of i) && latches_fit i.last (machine_in i.machine).latches) (lit_fits i.last i.invariant)
        (and_from (gates_fit i.last (gates_of i)) (latches_fit i.last (machine_in i.machine).latches) all latches)
        (lt-ltb (var_of i.invariant + i.last) (2 ^ 28) (omega (arith, inv, room)))
