-- Inputs one after the other, and gates one after the other.
use Rattle.std.proofs.Common.{◌≡◌, ℕ, zero, suc, ◌+◌, ◌*◌, ◌<◌, ◌≤◌, Bool, false, List, [], ◌∷◌, ◌++◌, map, length, take, drop, get_or, refl, ap, sym, ◌∙◌, add-one, append_assoc, arith}
use Rattle.std.proofs.lemmas.List.{at_drop_all, at_drop_more, map_more}
use mathlib.Core.Path.{fun_ext}
use Rattle.circuit_rules.specs.Circuits.{Gate, gate_value, run_gates, with_value}
use Rattle.circuit_answers.specs.Simulations.{assigned, input_by}

-- ---- inputs

-- one input more, of this literal
pub input_more : (s : ℕ → Bool) (i lit : ℕ) (b : Bool) (old new : List Bool) → new ≡ old ++ b ∷ [] → b ≡ s lit → lit ≡ 2 * (i + 1) → old ≡ input_by s i →
    new ≡ input_by s (i + 1)
input_more s i lit b old new h v is e =
    let step : input_by s (i + 1) ≡ input_by s i ++ s (2 * (i + 1)) ∷ [] = rw add-one refl in
    h ∙ ap (λ x. old ++ x ∷ []) (v ∙ ap s is) ∙ ap (λ l. l ++ s (2 * (i + 1)) ∷ []) e ∙ sym step

-- ---- gates

at_start : (input : List Bool) (x : ℕ) → get_or (false ∷ input) x false ≡ with_value (assigned input) 0 false x
at_start input zero = refl
at_start input (suc x) = grind arith

-- the values before the first gate
pub started : (input values : List Bool) → values ≡ false ∷ input → (λ (x : ℕ). get_or values x false) ≡ with_value (assigned input) 0 false
started input values e = fun_ext (λ x. ap (λ (vs : List Bool). get_or vs x false) e ∙ at_start input x)

-- one gate more
module _ {X : Type 0} (f : X → Gate) (gs : List X) (i : ℕ) (g : X) (less : i < length gs) (is : g ≡ get_or gs i g) where
  pub gate_on : (before after end : ℕ → Bool) → ((x : ℕ) → after x ≡ with_value before (f g).var (gate_value before (f g)) x) →
      run_gates before (map f (drop i gs)) ≡ end → run_gates after (map f (drop (i + 1) gs)) ≡ end
  gate_on before after end h e =
      let rest = map f (drop (i + 1) gs) in
      let step : run_gates before (map f (drop i gs)) ≡ run_gates before (f (get_or gs i g) ∷ rest) =
      at_drop_more (λ (l : List X). run_gates before (map f l)) gs i g less in
      let here : run_gates before (f g ∷ rest) ≡ run_gates before (f (get_or gs i g) ∷ rest) = ap (λ (y : X). run_gates before (f y ∷ rest)) is in
      ap (λ (a : ℕ → Bool). run_gates a rest) (fun_ext h) ∙ here ∙ sym step ∙ e

-- after the last gate
pub gates_all : {X : Type 0} (f : X → Gate) (gs : List X) (i : ℕ) (a end : ℕ → Bool) → length gs ≤ i → run_gates a (map f (drop i gs)) ≡ end → a ≡ end
gates_all {X} f gs i a end past e = sym (at_drop_all (λ (l : List X). run_gates a (map f l)) gs i past) ∙ e

-- ---- lists

-- one element more
pub mapped_more : {X Y : Type 0} (f : X → Y) (xs : List X) (i : ℕ) (x : X) (y : Y) (old now new : List Y) → i < length xs → x ≡ get_or xs i x → y ≡ f x →
    new ≡ now ++ y ∷ [] → now ≡ old ++ map f (take i xs) → new ≡ old ++ map f (take (i + 1) xs)
mapped_more f xs i x y old now new less is at h e =
    h ∙ ap (λ z. now ++ z ∷ []) (at ∙ ap f is) ∙ ap (λ l. l ++ f (get_or xs i x) ∷ []) e ∙ append_assoc old (map f (take i xs)) (f (get_or xs i x) ∷ [])
    ∙ ap (λ l. old ++ l) (sym (map_more f xs i x less))
