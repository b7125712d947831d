-- Clauses that are needed, one after the other.
use Rattle.std.proofs.Common.{◌≡◌, ◌⊎◌, inl, inr, ℕ, zero, suc, ◌+◌, ◌-◌, ◌<◌, ◌≤◌, Bool, true, false, cond, nat_lt, List, [], ◌∷◌, ◌++◌, length, refl, ap, sym, ◌∙◌, length-append, arith}
use Rattle.std.proofs.lemmas.Bool.{cases_lt}
use Rattle.sat_rules.specs.Clauses.{all_true}
use Rattle.refutation_rules.specs.Cubes.{IsRefuted}
use Rattle.refutation_rules.specs.Minimal.{IsMinimal}
use Rattle.follows_check.specs.Minimal.{EachIsNeeded, ShowsMinimal, without}
use Rattle.follows_check.specs.declared.minimal.MinimalVerdict.{MinimalVerdict}
use Rattle.follows_check.specs.declared.minimal.MinimalVerdict.TheVariants.{Minimal, Open, NoModel, Unmet}

without_here : (before after : List (List ℕ)) (c : List ℕ) → without (length before) (before ++ c ∷ after) ≡ before ++ after
without_here [] after c = refl
without_here (b ∷ before) after c = ap (λ (cs : List (List ℕ)). b ∷ cs) (without_here before after c)

is_minimal : (cs : List (List ℕ)) → IsRefuted cs → EachIsNeeded cs → IsMinimal cs
is_minimal cs refuted each = record {
  refuted = refuted;
  needed = λ before c after e.
      let low : length before < length cs = rw (e, length-append) (omega arith) in
      let a = each (length before) low in
      (a.0, rw (e, without_here) at a.1);
}

without_none : (i : ℕ) → without i [] ≡ []
without_none zero = refl
without_none (suc i) = refl

-- ---- the clauses beside one that are still to come

abbrev pub pending : ℕ → ℕ → List (List ℕ) → List (List ℕ)
pending place index left = cond (nat_lt place index) left (without (place - index) left)

-- where none is to come, all are met
none_pending : (a : ℕ → Bool) (place index : ℕ) → all_true a (pending place index []) ≡ true
none_pending a place index = by (nat_lt place index)
  where
    by : (past : Bool) → all_true a (cond past [] (without (place - index) [])) ≡ true
    by true = refl
    by false = ap (λ (cs : List (List ℕ)). all_true a cs) (without_none (place - index))

pub all_met : (a : ℕ → Bool) (place index : ℕ) (left formula : List (List ℕ)) → length formula ≤ index → index + length left ≡ length formula
    → all_true a (pending place index left) ≡ all_true a (without place formula) → all_true a (without place formula) ≡ true
all_met a place index [] formula low count e = sym e ∙ none_pending a place index
all_met a place index (c ∷ rest) formula low count e = absurd (omega (arith, low, count))

-- ---- clause after clause

pub needed_more : (cs : List (List ℕ)) (index : ℕ) (a : ℕ → Bool) → ((i : ℕ) → i < index → (b : ℕ → Bool) × (all_true b (without i cs) ≡ true)) → all_true a (without index cs) ≡ true
    → (i : ℕ) → i < index + 1 → (b : ℕ → Bool) × (all_true b (without i cs) ≡ true)
needed_more cs index a before here i low = by (cases_lt i index)
  where
    by : (i < index) ⊎ (index ≤ i) → (b : ℕ → Bool) × (all_true b (without i cs) ≡ true)
    by (inl h) = before i h
    by (inr h) = let e : i ≡ index = omega (arith, low, h) in (a, rw e here)

pub shown_minimal : (cs : List (List ℕ)) (verdict : MinimalVerdict) → IsRefuted cs → (verdict ≡ Minimal → EachIsNeeded cs) → ShowsMinimal cs verdict
shown_minimal cs Minimal refuted each = is_minimal cs refuted (each refl)
shown_minimal cs Open refuted each = tt
shown_minimal cs (NoModel clause) refuted each = tt
shown_minimal cs (Unmet model clause) refuted each = tt
