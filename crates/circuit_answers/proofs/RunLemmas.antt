-- A stimulus as a run of the machine.
use Rattle.std.proofs.Common.{◌≡◌, ℕ, zero, suc, ◌+◌, ◌≤◌, ◌⊎◌, inl, inr, Bool, true, false, not, ◌&&◌, ◌==◌, if◌then◌else◌, List, [], ◌∷◌, ◌++◌, length, get_or, Option, Some, None, refl, ap, sym, ◌∙◌, add-one, arith, subst}
use Rattle.std.proofs.lemmas.Bool.{false≢true}
use Rattle.std.proofs.lemmas.List.{get_or-append-add, length-append}
use Rattle.sat_rules.specs.Clauses.{lit_true}
use Rattle.circuit_rules.specs.Checks.{any_output}
use Rattle.circuit_rules.specs.Circuits.{Latch, simulated}
use Rattle.circuit_rules.specs.Safety.{GoesOn, IsReset, IsSafe, Machine, Starts, lits_true}
use Rattle.circuit_text.specs.declared.circuit.Circuit as read
use Rattle.circuit_clauses.specs.Machines.{machine_in}
use Rattle.stimulus_text.specs.Stimuli.{inputs_in}
use Rattle.stimulus_text.specs.declared.stimulus.Stimulus.{Stimulus}
use Rattle.circuit_answers.specs.Reached.{IsReachJudged, IsReached, are_placed, is_reset, nexts, other_start, padded, reach_from, started, values_at}
use Rattle.circuit_answers.specs.Simulations.{assigned}
use Rattle.circuit_answers.specs.declared.reach.Reach.{Reach}
use Rattle.circuit_answers.specs.declared.reach.Reach.TheVariants.{At, Broken}

pub reached_is_not_safe : (m : Machine) → IsReached m → IsSafe m → ⊥
reached_is_not_safe m r safe = false≢true (sym (safe r.given r.run r.step r.granted) ∙ r.bad)

-- ---- places of latches

placed : (x v : ℕ) (b : Bool) → ((x == v) && b) ≡ true → (x ≡ v) × (b ≡ true)
placed x v b h = grind arith

shifted : (a : ℕ → Bool) (v j : ℕ) (b : Bool) → a (v + suc j) ≡ b → a (suc v + j) ≡ b
shifted a v j b h = let e : suc v + j ≡ v + suc j = omega arith in ap a e ∙ h

at_first : (a : ℕ → Bool) (x v : ℕ) (b : Bool) → a (v + 0) ≡ b → x ≡ v → a x ≡ b
at_first a x v b h e = let zero_more : x ≡ v + 0 = omega (arith, e) in ap a zero_more ∙ h

-- the latches take over these values
goes_on : (xs : List Latch) (v : ℕ) (a now : ℕ → Bool) → ((j : ℕ) → a (v + j) ≡ get_or (nexts now xs) j false) → are_placed v xs ≡ true → GoesOn now a xs
goes_on [] v a now h p = tt
goes_on (x ∷ xs) v a now h p =
    let here = placed x.var v (are_placed (suc v) xs) p in
    (at_first a x.var v (lit_true now x.next) (h 0) here.0, goes_on xs (suc v) a now (λ j. shifted a v j (get_or (nexts now xs) j false) (h (suc j))) here.1)

same_reset : (r : Option Bool) (b c : Bool) → is_reset r b ≡ true → c ≡ b → IsReset r c
same_reset None b c h e = tt
same_reset (Some true) b c h e = e ∙ h
same_reset (Some false) true c h e = absurd (false≢true h)
same_reset (Some false) false c h e = e

no_other : (b : Bool) (i : ℕ) (o : Option ℕ) → (if b then o else Some i) ≡ None → (b ≡ true) × (o ≡ None)
no_other true i o h = (refl, h)
no_other false i o h = absurd (cc)

-- and have these at first
starts : (xs : List Latch) (v i : ℕ) (a : ℕ → Bool) (values : List Bool) → ((j : ℕ) → a (v + j) ≡ get_or values (i + j) false) → are_placed v xs ≡ true →
    other_start i xs values ≡ None → Starts a xs
starts [] v i a values h p n = tt
starts (x ∷ xs) v i a values h p n =
    let here = placed x.var v (are_placed (suc v) xs) p in
    let resets = no_other (is_reset x.reset (get_or values i false)) i (other_start (suc i) xs values) n in
    let same : i + 0 ≡ i = omega arith in (
      same_reset x.reset (get_or values i false) (a x.var) resets.0 (at_first a x.var v (get_or values i false) (h 0 ∙ ap (λ j. get_or values j false) same) here.0),
      starts xs (suc v) (suc i) a values
          (λ j. let e : i + suc j ≡ suc i + j = omega arith in shifted a v j (get_or values (suc i + j) false) (h (suc j) ∙ ap (λ k. get_or values k false) e)) here.1 resets.1,
    )

padded_length : (n : ℕ) (inputs : List Bool) → length (padded n inputs) ≡ n
padded_length zero inputs = refl
padded_length (suc n) inputs =
    length-append (padded n inputs) (get_or inputs n false ∷ []) ∙ ap (λ k. k + 1) (padded_length n inputs) ∙ add-one n

-- the latches follow the inputs
latch_at : (n : ℕ) (inputs states : List Bool) (j : ℕ) → assigned (padded n inputs ++ states) (suc n + j) ≡ get_or states j false
latch_at n inputs states j = rw (padded_length n inputs) at (get_or-append-add (false ∷ padded n inputs) states j false)

-- ---- the run

abbrev head_of : List (List Bool) → List Bool
head_of [] = []
head_of (inputs ∷ steps) = inputs

abbrev tail_of : List (List Bool) → List (List Bool)
tail_of [] = []
tail_of (inputs ∷ steps) = steps

-- the values of inputs and latches at each step; behind the last step of the stimulus all inputs are false
abbrev given_at : ℕ → Machine → List Bool → List (List Bool) → ℕ → ℕ → Bool
given_at n m states steps zero = assigned (padded n (head_of steps) ++ states)
given_at n m states steps (suc k) = given_at n m (nexts (values_at n m states (head_of steps)) m.latches) (tail_of steps) k

run_goes_on : (n : ℕ) (m : Machine) → are_placed (suc n) m.latches ≡ true → (states : List Bool) (steps : List (List Bool)) (k : ℕ) →
    GoesOn (simulated (given_at n m states steps k) m.gates) (given_at n m states steps (suc k)) m.latches
run_goes_on n m p states steps zero =
    let now = values_at n m states (head_of steps) in
    goes_on m.latches (suc n) (given_at n m states steps 1) now (latch_at n (head_of (tail_of steps)) (nexts now m.latches)) p
run_goes_on n m p states steps (suc k) = run_goes_on n m p (nexts (values_at n m states (head_of steps)) m.latches) (tail_of steps) k

-- at some step a bad output is true, and the constraints up to it
record Found (n : ℕ) (m : Machine) (states : List Bool) (steps : List (List Bool)) : Type 0 where
  step : ℕ
  granted : (j : ℕ) → j ≤ step → lits_true (simulated (given_at n m states steps j) m.gates) m.constraints ≡ true
  bad : any_output (simulated (given_at n m states steps step) m.gates) m.bad ≡ true

none_before : (j : ℕ) → j ≤ 0 → j ≡ 0
none_before j h = omega (arith, h)

up_to : (P : ℕ → Type 0) (last : ℕ) → P 0 → ((j : ℕ) → j ≤ last → P (suc j)) → (j : ℕ) → j ≤ suc last → P j
up_to P last first more zero h = first
up_to P last first more (suc j) h = let less : j ≤ last = omega (arith, h) in more j less

one_step : (b c : Bool) (k last : ℕ) (r : Reach) → (if not b then Broken k else (if c then At k else r)) ≡ At last → (b ≡ true) × ((c ≡ true) ⊎ (r ≡ At last))
one_step true true k last r h = (refl, inl refl)
one_step true false k last r h = (refl, inr h)
one_step false c k last r h = absurd (cc)

found_by : (n : ℕ) (m : Machine) (k : ℕ) (states : List Bool) (inputs : List Bool) (steps : List (List Bool)) (last : ℕ) →
    lits_true (values_at n m states inputs) m.constraints ≡ true →
    ((any_output (values_at n m states inputs) m.bad ≡ true) ⊎ Found n m (nexts (values_at n m states inputs) m.latches) steps) → Found n m states (inputs ∷ steps)
found_by n m k states inputs steps last granted (inl bad) = record {
  step = 0;
  granted = λ j h. subst (λ i. lits_true (simulated (given_at n m states (inputs ∷ steps) i) m.gates) m.constraints ≡ true) (sym (none_before j h)) granted;
  bad = bad;
}
found_by n m k states inputs steps last granted (inr later) = record {
  step = suc later.step;
  granted = up_to (λ i. lits_true (simulated (given_at n m states (inputs ∷ steps) i) m.gates) m.constraints ≡ true) later.step granted later.granted;
  bad = later.bad;
}

found : (n : ℕ) (m : Machine) (steps : List (List Bool)) (k : ℕ) (states : List Bool) (last : ℕ) → reach_from n m k states steps ≡ At last → Found n m states steps
found n m [] k states last h = absurd (cc)
found n m (inputs ∷ steps) k states last h =
    let now = values_at n m states inputs in
    let here =
    one_step (lits_true now m.constraints) (any_output now m.bad) k last (reach_from n m (suc k) (nexts now m.latches) steps) h
    in
    found_by n m k states inputs steps last here.0
    (elim here.1 [ inl bad ↦ inl bad | inr later ↦ inr (found n m steps (suc k) (nexts now m.latches) last later) ])

begun : (o : Option ℕ) (r : Reach) (last : ℕ) → started o r ≡ At last → (o ≡ None) × (r ≡ At last)
begun None r last h = (refl, h)
begun (Some latch) r last h = absurd (cc)

pub reached_shown : (c : read.Circuit) (s : Stimulus) (reach : Reach) (last : ℕ) → IsReachJudged c s reach → reach ≡ At last → IsReached (machine_in c)
reached_shown c s reach last h e =
    let m = machine_in c in
    let steps = inputs_in s.steps.items in
    let first = s.first.items in
    let here = begun (other_start 0 m.latches first) (reach_from c.inputs m 0 first steps) last (sym h.does ∙ e) in
    let shown = found c.inputs m steps 0 first last here.1 in
    record {
      given = given_at c.inputs m first steps;
      run = record {
        starts =
            starts m.latches (suc c.inputs) 0 (given_at c.inputs m first steps 0) first
            (λ j. let same : 0 + j ≡ j = omega arith in latch_at c.inputs (head_of steps) first j ∙ ap (λ k. get_or first k false) (sym same)) h.placed here.0;
        goes_on = run_goes_on c.inputs m h.placed first steps;
      };
      step = shown.step;
      granted = shown.granted;
      bad = shown.bad;
    }
