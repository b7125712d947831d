-- The marks of user names, and what a write of one variable does to them.
use Rattle.std.proofs.Common.{◌≡◌, ℕ, ◌+◌, ◌<◌, Bool, true, false, cond, List, [], ◌∷◌, ◌++◌, length, get_or}
use Rattle.std.proofs.Common.{set, replicate, Option, Some, None, refl, ap, ◌∙◌, arith, inl, inr, zero, suc}
use Rattle.std.proofs.lemmas.Bool.{cases_eq, cases_lt, eq-eqb, ne_eqb}
use Rattle.std.proofs.lemmas.List.{get_or-set_other, get_or-set_same, get_or_past}
use Rattle.std.proofs.lemmas.List.Sums.{sum_by-append, sum_by-cons, sum_by-set}
use Rattle.std.proofs.lemmas.List.Folds.{sum_by-replicate}
use Rattle.checker_rules.specs.KnownVars.{new_known, option_is}
use Rattle.checker_rules.specs.State.{Known}
use Rattle.checker_rules.specs.Transcript.{known_at}
use Rattle.checker_parts.specs.Names.{is_taken, times_taken}
use Rattle.checker_parts.specs.Variables.{IsMarked}

-- whether the index is marked, as a number
abbrev pub mark : List Bool → ℕ → ℕ
mark ts u = cond (get_or ts u false) 1 0

-- whether this is the name, as a number
abbrev pub names_it : Option ℕ → ℕ → ℕ
names_it o u = cond (option_is o u) 1 0

-- how often a name occurs after a write
times-set : (ks : List Known) (i u : ℕ) (k : Known) → i < length ks → times_taken (set ks i k) u + names_it (known_at ks i).name u ≡ times_taken ks u + names_it k.name u
times-set ks i u k h = sum_by-set (λ (k : Known). names_it k.name u) ks i k new_known h

-- a name is taken exactly where its index is marked
taken-times : (ks : List Known) (u : ℕ) → times_taken ks u ≡ 0 → is_taken ks u ≡ false
taken-times [] u h = refl
taken-times (k ∷ ks) u h = grind (arith, sum_by-cons (λ (k : Known). names_it k.name u) k ks, taken-times ks u)

times-taken : (ks : List Known) (u : ℕ) → is_taken ks u ≡ false → times_taken ks u ≡ 0
times-taken [] u h = refl
times-taken (k ∷ ks) u h = grind (arith, sum_by-cons (λ (k : Known). names_it k.name u) k ks, times-taken ks u)

pub taken-mark : (ks : List Known) (ts : List Bool) (u : ℕ) → IsMarked ks ts → is_taken ks u ≡ get_or ts u false
taken-mark ks ts u m = grind (arith, times-taken, taken-times)

-- the name stays
pub marked_same : (ks : List Known) (ts : List Bool) (i : ℕ) (k : Known) → IsMarked ks ts → i < length ks → k.name ≡ (known_at ks i).name → IsMarked (set ks i k) ts
marked_same ks ts i k m h name u = grind (arith, times-set)

-- a name is given, and its index is marked
pub marked_name : (ks : List Known) (ts : List Bool) (i j : ℕ) (k : Known) → IsMarked ks ts → i < length ks → j < length ts
    → (known_at ks i).name ≡ None → k.name ≡ Some j → is_taken ks j ≡ false → IsMarked (set ks i k) (set ts j true)
marked_name ks ts i j k m hi hj unnamed name free u = grind (arith, times-set, cases_eq, eq-eqb, times-taken, get_or-set_same, ne_eqb, get_or-set_other)

-- a name is removed, and the mark of its index
pub marked_unnamed : (ks : List Known) (ts : List Bool) (i j : ℕ) (k : Known) → IsMarked ks ts → i < length ks → j < length ts
    → (known_at ks i).name ≡ Some j → k.name ≡ None → IsMarked (set ks i k) (set ts j false)
marked_unnamed ks ts i j k m hi hj named name u = grind (arith, times-set, cases_eq, eq-eqb, get_or-set_same, ne_eqb, get_or-set_other)

-- a name in use is the index of a known variable
pub name-in_range : (ks : List Known) (ts : List Bool) (i j : ℕ) → IsMarked ks ts → i < length ks → (known_at ks i).name ≡ Some j → j < length ts
name-in_range ks ts i j m h name = elim (cases_lt j (length ts)) [
  | inl lt ↦ lt
  | inr ge ↦
      let times = times-set ks i j new_known h in
      let old : names_it (known_at ks i).name j ≡ 1 = ap (λ o. names_it o j) name ∙ ap (λ b. cond b 1 0) (eq-eqb j j refl) in
      let before = m j in
      let none : mark ts j ≡ 0 = ap (λ b. cond b 1 0) (get_or_past ts j false ge) in absurd (omega arith)
]

-- new variables
get_or-new : (n u : ℕ) → get_or (replicate n false) u false ≡ false
get_or-new zero u = refl
get_or-new (suc n) zero = refl
get_or-new (suc n) (suc u) = get_or-new n u

get_or-more : (ts : List Bool) (n u : ℕ) → get_or (ts ++ replicate n false) u false ≡ get_or ts u false
get_or-more [] n u = get_or-new n u
get_or-more (t ∷ ts) n zero = refl
get_or-more (t ∷ ts) n (suc u) = get_or-more ts n u

pub marked_more : (ks : List Known) (ts : List Bool) (n : ℕ) → IsMarked ks ts → IsMarked (ks ++ replicate n new_known) (ts ++ replicate n false)
marked_more ks ts n m u = grind (arith, sum_by-append, sum_by-replicate, get_or-more)
