-- Steps of a stimulus, one after the other.
use Rattle.std.proofs.Common.{◌≡◌, ℕ, suc, ◌+◌, ◌<◌, ◌≤◌, Bool, true, false, not, if◌then◌else◌, List, [], ◌∷◌, ◌++◌, map, length, take, drop, get_or, refl, ap, sym, ◌∙◌, add-one}
use Rattle.std.proofs.lemmas.List.{at_drop_all, at_drop_more, map-append, map_more}
use Rattle.sat_rules.specs.Clauses.{lit_true}
use Rattle.circuit_rules.specs.Checks.{any_output}
use Rattle.circuit_rules.specs.Safety.{Machine, lits_true}
use Rattle.circuit_text.specs.declared.circuit.Latch as read
use Rattle.circuit_text.specs.Circuits.{latch_of}
use Rattle.stimulus_text.specs.Stimuli.{inputs_in, inputs_of}
use Rattle.stimulus_text.specs.declared.stimulus.Step.{Step}
use Rattle.circuit_answers.specs.Reached.{nexts, padded, reach_from, values_at}
use Rattle.circuit_answers.specs.declared.reach.Reach.{Reach}
use Rattle.circuit_answers.specs.declared.reach.Reach.TheVariants.{At, Broken, Nowhere}

-- one input more
pub padded_more : (i : ℕ) (inputs : List Bool) (b : Bool) (old new : List Bool) → new ≡ old ++ b ∷ [] → b ≡ get_or inputs i false → old ≡ padded i inputs →
    new ≡ padded (i + 1) inputs
padded_more i inputs b old new h v e =
    let step : padded (i + 1) inputs ≡ padded i inputs ++ get_or inputs i false ∷ [] = rw add-one refl in
    h ∙ ap (λ x. old ++ x ∷ []) v ∙ ap (λ l. l ++ get_or inputs i false ∷ []) e ∙ sym step

-- one latch more
pub nexts_more : (now : ℕ → Bool) (xs : List read.Latch) (i : ℕ) (x : read.Latch) (b : Bool) (old new : List Bool) → i < length xs → x ≡ get_or xs i x →
    new ≡ old ++ b ∷ [] → b ≡ lit_true now x.next → old ≡ nexts now (map latch_of (take i xs)) → new ≡ nexts now (map latch_of (take (i + 1) xs))
nexts_more now xs i x b old new less is h v e =
    h ∙ ap (λ y. old ++ y ∷ []) (v ∙ ap (λ (y : read.Latch). lit_true now y.next) is) ∙ ap (λ l. l ++ lit_true now (latch_of (get_or xs i x)).next ∷ []) e
    ∙ sym (map-append (λ y. lit_true now y.next) (map latch_of (take i xs)) (latch_of (get_or xs i x) ∷ []))
    ∙ ap (nexts now) (sym (map_more latch_of xs i x less))

-- ---- one step

-- what a step does, by whether the constraints are true, and a bad output
abbrev picked : Bool → Bool → ℕ → Reach → Reach
picked b c k r = if not b then Broken k else (if c then At k else r)

picks_broken : (b c : Bool) (k : ℕ) (r : Reach) → b ≡ false → picked b c k r ≡ Broken k
picks_broken b c k r f = rw f refl

picks_at : (b c : Bool) (k : ℕ) (r : Reach) → b ≡ true → c ≡ true → picked b c k r ≡ At k
picks_at b c k r t u = rw (t, u) refl

picks_rest : (b c : Bool) (k : ℕ) (r : Reach) → b ≡ true → c ≡ false → picked b c k r ≡ r
picks_rest b c k r t f = rw (t, f) refl

module _ (n : ℕ) (m : Machine) (steps : List Step) (i k : ℕ) (step : Step) (states : List Bool) (now : ℕ → Bool) (end : Reach) (less : i < length steps)
    (is : step ≡ get_or steps i step) (e : now ≡ values_at n m states (inputs_of step)) (h : reach_from n m k states (inputs_in (drop i steps)) ≡ end) where
  abbrev rest : Reach
  rest = reach_from n m (suc k) (nexts now m.latches) (inputs_in (drop (i + 1) steps))

  here : picked (lits_true now m.constraints) (any_output now m.bad) k rest ≡ end
  here =
      ap (λ v. picked (lits_true v m.constraints) (any_output v m.bad) k (reach_from n m (suc k) (nexts v m.latches) (inputs_in (drop (i + 1) steps)))) e
      ∙ ap (λ s. reach_from n m k states (inputs_of s ∷ inputs_in (drop (i + 1) steps))) is
      ∙ sym (at_drop_more (λ (l : List Step). reach_from n m k states (inputs_in l)) steps i step less) ∙ h

  pub broken_here : lits_true now m.constraints ≡ false → Broken k ≡ end
  broken_here f = sym (picks_broken (lits_true now m.constraints) (any_output now m.bad) k rest f) ∙ here

  pub bad_here : lits_true now m.constraints ≡ true → any_output now m.bad ≡ true → At k ≡ end
  bad_here t u = sym (picks_at (lits_true now m.constraints) (any_output now m.bad) k rest t u) ∙ here

  pub goes_here : lits_true now m.constraints ≡ true → any_output now m.bad ≡ false → (next : List Bool) → next ≡ nexts now m.latches →
      reach_from n m (k + 1) next (inputs_in (drop (i + 1) steps)) ≡ end
  goes_here t f next is_next =
      ap (λ j. reach_from n m j next (inputs_in (drop (i + 1) steps))) (add-one k)
      ∙ ap (λ s. reach_from n m (suc k) s (inputs_in (drop (i + 1) steps))) is_next
      ∙ sym (picks_rest (lits_true now m.constraints) (any_output now m.bad) k rest t f) ∙ here

-- behind the last step
pub no_step : (n : ℕ) (m : Machine) (steps : List Step) (i k : ℕ) (states : List Bool) (end : Reach) → length steps ≤ i →
    reach_from n m k states (inputs_in (drop i steps)) ≡ end → Nowhere ≡ end
no_step n m steps i k states end past h = sym (at_drop_all (λ (l : List Step). reach_from n m k states (inputs_in l)) steps i past) ∙ h
