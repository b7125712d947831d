-- Explicit user names are distinct.
use Rattle.std.proofs.Common.{◌≡◌, ℕ, zero, suc, true, false, List, [], ◌∷◌, ◌++◌, get_or, set, replicate, Option, refl, arith, ◌-◌}
use Rattle.checker_rules.specs.KnownVars.{name_among, new_known, option_is}
use Rattle.checker_rules.specs.State.{Known}
use Rattle.checker_rules.specs.WellFormed.{is_name_among, names_apart}
use Rattle.checker_rules.proofs.PassTest.{any-append}

none_new : (u n : ℕ) → name_among u (replicate n new_known) ≡ false
none_new u zero = refl
none_new u (suc n) = none_new u n

among-more : (u : Option ℕ) (ks : List Known) (n : ℕ) → is_name_among u ks ≡ false → is_name_among u (ks ++ replicate n new_known) ≡ false
among-more u ks n h = grind (arith, any-append, none_new)

all_new : (n : ℕ) → names_apart (replicate n new_known) ≡ true
all_new zero = refl
all_new (suc n) = all_new n

pub names-more : (ks : List Known) (n : ℕ) → names_apart ks ≡ true → names_apart (ks ++ replicate n new_known) ≡ true
names-more [] n h = all_new n
names-more (k ∷ ks) n h = grind (arith, among-more k.name ks n, names-more ks n)

-- another name for one variable, given to none
among-set : (u : ℕ) (ks : List Known) (v : ℕ) (k : Known) → name_among u ks ≡ false → option_is k.name u ≡ false → name_among u (set ks v k) ≡ false
among-set u [] v k h other = refl
among-set u (x ∷ ks) v k h other = grind (arith, among-set u ks (v - 1) k)

pub names-set : (ks : List Known) (v : ℕ) (k : Known) → is_name_among k.name ks ≡ false → names_apart ks ≡ true → names_apart (set ks v k) ≡ true
names-set [] v k free h = refl
names-set (x ∷ ks) v k free h = grind (arith, names-set ks (v - 1) k, among-set)

-- another mode for one variable
among_same : (a : Option ℕ) (ks : List Known) (v : ℕ) (k : Known) → k.name ≡ (get_or ks v new_known).name → is_name_among a (set ks v k) ≡ is_name_among a ks
among_same a [] v k e = grind arith
among_same a (x ∷ ks) v k e = grind (arith, among_same a ks (v - 1) k)

pub names-same : (ks : List Known) (v : ℕ) (k : Known) → k.name ≡ (get_or ks v new_known).name → names_apart ks ≡ true → names_apart (set ks v k) ≡ true
names-same [] v k e h = refl
names-same (x ∷ ks) v k e h = grind (arith, among_same x.name ks (v - 1) k, names-same ks (v - 1) k)
