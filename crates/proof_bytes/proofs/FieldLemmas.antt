-- Fields, one after the other.
use Rattle.std.proofs.Common.{◌≡◌, ℕ, zero, suc, ◌+◌, ◌-◌, ◌^◌, ◌<◌, ◌≤◌, List, [], ◌∷◌, ◌++◌, Ok, Err, cond, refl, sym, ap, ◌∙◌, arith, append_assoc, append-nil}
use Rattle.std.proofs.lemmas.Bool.{lt-ltb, le-ltb}
use Rattle.std.specs.Prelude.{SomeIff, Option, Some, None, ok_or, if◌then◌else◌, nat_lt}
use Rattle.proof_bytes.specs.declared.fault.MalformedStep.TheVariants.{OutOfRange}
use Rattle.proof_bytes.specs.declared.fault.MalformedStep.{MalformedStep}
use Rattle.sat_formula.specs.declared.stop.Stop.{Stop}
use Rattle.sat_formula.specs.declared.stop.Stop.TheVariants as stops
use Rattle.proof_bytes.specs.Reading.{Wrong, Found, ◌>>=◌, number_at}
use Rattle.proof_bytes.specs.Fields.{below_at, named, justified, made_at, pair_at, many_at, list_at}
use Rattle.checker_rules.specs.Step.{by_simplified}
use Rattle.proof_bytes.specs.Taking.{Leads, Faults, ReadsOr}
use Rattle.proof_bytes.proofs.Leading.{Known, leads_bind, leads_same, then_leads, faults_bind, then_faults, wrong, malformed}

-- ---- a number below a limit

abbrev pub in_range : ℕ → ℕ × List ℕ → Found ℕ
in_range limit n = if nat_lt n.0 limit then Ok (n.0, n.1) else Err (Wrong OutOfRange)

pub below_fails : {a b : Known} {e : Stop MalformedStep} (limit : ℕ) → Faults a b e number_at → Faults a b e (below_at limit)
unfolding below_at
below_fails limit p = faults_bind (in_range limit) p

pub below_read : (limit n : ℕ) (bytes more : List ℕ) → number_at bytes ≡ Ok (n, more) → n < limit → below_at limit bytes ≡ Ok (n, more)
unfolding below_at
below_read limit n bytes more read lt = ap (λ r. r >>= in_range limit) read ∙ ap (λ c. cond c (Ok (n, more)) (Err (Wrong OutOfRange))) (lt-ltb n limit lt)

module _ {a b : Known} (limit n : ℕ) (read : Leads a b number_at (λ more. Ok (n, more))) where
  below : Leads a b (below_at limit) (λ more. in_range limit (n, more))
  unfolding below_at
  below = leads_bind (in_range limit) read

  pub below_ok : n < limit → Leads a b (below_at limit) (λ more. Ok (n, more))
  below_ok lt = leads_same _ below (λ more. ap (λ c. cond c (Ok (n, more)) (Err (Wrong OutOfRange))) (lt-ltb n limit lt))

  pub below_wrong : limit ≤ n → Faults a b (stops.Wrong OutOfRange) (below_at limit)
  below_wrong le = wrong OutOfRange (leads_same _ below (λ more. ap (λ c. cond c (Ok (n, more)) (Err (Wrong OutOfRange))) (le-ltb n limit le)))

  -- what is made of such numbers alone
  pub below_or : {X : Type 0} (P : Type 0) (seen : X → ℕ) (shown : Option X → Option ℕ) → shown None ≡ None → ((x : X) → shown (Some x) ≡ Some (seen x)) →
      (made : Option X) → SomeIff (shown made) (n < limit) n → ReadsOr P seen a b (ok_or made (stops.Wrong OutOfRange)) (below_at limit)
  below_or P seen shown none some None h = malformed (below_wrong (omega (arith, rw none at h)))
  below_or P seen shown none some (Some x) h = let p = rw (some x) at h in rw p.1 (below_ok p.0)

-- ---- a field seen otherwise, and a pair

pub made_fails : {A B : Type 0} {a b : Known} {e : Stop MalformedStep} (item : List ℕ → Found A) (make : A → B) → Faults a b e item → Faults a b e (made_at item make)
unfolding made_at
made_fails item make p = faults_bind (λ x. Ok (make x.0, x.1)) p

pub made_read : {A B : Type 0} {a b : Known} (item : List ℕ → Found A) (make : A → B) {x : A} (y : B) → make x ≡ y →
    Leads a b item (λ more. Ok (x, more)) → Leads a b (made_at item make) (λ more. Ok (y, more))
unfolding made_at
made_read {A} {B} item make {x} y is p = leads_same _ (leads_bind (λ x. Ok (make x.0, x.1)) p) (λ more. ap (λ (z : B). Ok (z, more)) is)

pub named_some : (n : ℕ) (v : Option ℕ) → (n ≡ 0 → ⊥) → n - 1 < 2 ^ 28 → SomeIff v (n - 1 < 2 ^ 28) (n - 1) → named n ≡ v
named_some zero v nz lt h = absurd (nz refl)
named_some (suc n) None nz lt h = absurd (h lt)
named_some (suc n) (Some m) nz lt h = let e : n ≡ m = omega (arith, h.1) in ap (λ (k : ℕ). Some k) e

pub justified_last : (n : ℕ) → (n ≡ 0 → ⊥) → (n ≡ 1 → ⊥) → justified n ≡ by_simplified
justified_last zero n0 n1 = absurd (n0 refl)
justified_last (suc zero) n0 n1 = absurd (n1 refl)
justified_last (suc (suc n)) n0 n1 = refl

abbrev second_of : {A B : Type 0} → (List ℕ → Found B) → A × List ℕ → Found (A × B)
second_of g x = g x.1 >>= λ y. Ok ((x.0, y.0), y.1)

module _ {A B : Type 0} {a b : Known} (f : List ℕ → Found A) (g : List ℕ → Found B) where
  pub pair_fails : {e : Stop MalformedStep} → Faults a b e f → Faults a b e (pair_at f g)
  unfolding pair_at
  pair_fails p = faults_bind (second_of g) p

  module _ {x : A} (read : Leads a b f (λ more. Ok (x, more))) where
    first_read : Leads a b (pair_at f g) (λ more. g more >>= λ y. Ok ((x, y.0), y.1))
    unfolding pair_at
    first_read = leads_bind (second_of g) read

    pub second_fails : {c : Known} {e : Stop MalformedStep} → Faults b c e g → Faults a c e (pair_at f g)
    second_fails p = then_faults (λ y. Ok ((x, y.0), y.1)) first_read p

    pub pair_read : {c : Known} {y : B} → Leads b c g (λ more. Ok (y, more)) → Leads a c (pair_at f g) (λ more. Ok ((x, y), more))
    pair_read p = then_leads (λ y. Ok ((x, y.0), y.1)) first_read p

-- ---- a list

-- what was read before, and what is still read
abbrev pub with_front : {A : Type 0} → List A → Found (List A) → Found (List A)
with_front front read = read >>= λ x. Ok (front ++ x.0, x.1)

abbrev after_item : {A : Type 0} → (List ℕ → Found A) → ℕ → A × List ℕ → Found (List A)
after_item item n first = many_at item n first.1 >>= λ others. Ok (first.0 ∷ others.0, others.1)

abbrev after_front : {A : Type 0} → List A → (List ℕ → Found A) → ℕ → A × List ℕ → Found (List A)
after_front front item n first = with_front front (after_item item n first)

pub list_fails : {A : Type 0} {a b : Known} {e : Stop MalformedStep} (item : List ℕ → Found A) → Faults a b e number_at → Faults a b e (list_at item)
unfolding list_at
list_fails item p = faults_bind (λ n. many_at item n.0 n.1) p

pub nothing_before : {A : Type 0} (read : Found (List A)) → read ≡ with_front [] read
nothing_before (Ok x) = refl
nothing_before (Err e) = refl

pub list_begins : {A : Type 0} {a b : Known} (item : List ℕ → Found A) (n k : ℕ) → n ≡ k → Leads a b number_at (λ more. Ok (n, more)) →
    Leads a b (list_at item) (λ more. with_front [] (many_at item k more))
unfolding list_at
list_begins item n k e p = leads_same _ (leads_bind (λ n. many_at item n.0 n.1) p) (λ more. nothing_before (many_at item n more) ∙ ap (λ m. with_front [] (many_at item m more)) e)

front_of_bind : {A : Type 0} (front : List A) (r : Found A) (k : A × List ℕ → Found (List A)) → with_front front (r >>= k) ≡ (r >>= λ x. with_front front (k x))
front_of_bind front (Ok x) k = refl
front_of_bind front (Err e) k = refl

regroup : {A : Type 0} (front : List A) (x : A) (read : Found (List A)) → with_front front (read >>= λ others. Ok (x ∷ others.0, others.1)) ≡ with_front (front ++ x ∷ []) read
regroup {A} front x (Ok r) = ap (λ (l : List A). Ok (l, r.1)) (sym (append_assoc front (x ∷ []) r.0))
regroup front x (Err e) = refl

module _ {A : Type 0} {a b : Known} (f : List ℕ → Found (List A)) (item : List ℕ → Found A) (front : List A) (count i : ℕ) (below : i < count)
    (so_far : Leads a b f (λ more. with_front front (many_at item (count - i) more))) where
  next_item : Leads a b f (λ more. item more >>= after_front front item (count - (i + 1)))
  unfolding many_at
  next_item =
      let is : count - i ≡ suc (count - (i + 1)) = omega arith in
      leads_same _ so_far (λ more. ap (λ m. with_front front (many_at item m more)) is ∙ front_of_bind front (item more) (after_item item (count - (i + 1))))

  pub item_fails : {c : Known} {e : Stop MalformedStep} → Faults b c e item → Faults a c e f
  item_fails p = then_faults (after_front front item (count - (i + 1))) next_item p

  pub item_read : {c : Known} (x : A) → Leads b c item (λ more. Ok (x, more)) → Leads a c f (λ more. with_front (front ++ x ∷ []) (many_at item (count - (i + 1)) more))
  item_read x p = leads_same _ (then_leads (after_front front item (count - (i + 1))) next_item p) (λ more. regroup front x (many_at item (count - (i + 1)) more))

pub list_ends : {A : Type 0} {a b : Known} (f : List ℕ → Found (List A)) (item : List ℕ → Found A) (front : List A) (k : ℕ) → k ≡ 0 →
    Leads a b f (λ more. with_front front (many_at item k more)) → Leads a b f (λ more. Ok (front, more))
unfolding many_at
list_ends {A} f item front k is p = leads_same _ p (λ more. ap (λ m. with_front front (many_at item m more)) is ∙ ap (λ (l : List A). Ok (l, more)) (append-nil front))
