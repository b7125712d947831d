-- The digests from which receipts lead to one that is refuted, added one after the other.
use Rattle.std.proofs.Common.{◌≡◌, ◌⊎◌, inl, inr, ⊎_elim, ℕ, ◌+◌, ◌<◌, ◌≤◌, Bool, true, false, cond, ◌||◌, List, [], ◌∷◌, ◌++◌, length, take, get_or, ap, refl, sym, ◌∙◌, subst, arith, length-append}
use Rattle.std.specs.Prelude.{All, Option, None, Some, if◌then◌else◌}
use Rattle.std.specs.List.{Contains, cons_option, filter_map}
use Rattle.std.specs.Option.{IfSome, option_to_list}
use Rattle.std.proofs.lemmas.List.{take_more}
use Rattle.std.specs.Str.{bytes_eq}
use Rattle.std.proofs.lemmas.Bool.{false≢true}
use Rattle.std.proofs.lemmas.List.Elements.{All-append, All-contains, All-contains_itself, All-cons, All-head, All-nil, All-tail, All-weaker, Contains-append_left, Contains-append_right, Contains-get_or, Contains-push, Contains-push_cases, filter_map-append}
use Rattle.std.proofs.lemmas.Slice.Eq.{bytes_eq-Decides}
use Rattle.receipts.specs.Honesty.{subject_of}
use Rattle.receipts.specs.Joins.{IsShown, LeadsBy}
use Rattle.receipts.specs.declared.receipt.Receipt.{Receipt}
use Rattle.receipts.specs.declared.receipt.Receipt.TheVariants.{Refuted, Carries, Satisfied}
use Rattle.join_check.specs.Carriers.{carried_to, refuted_by}

-- ---- what is found of each receipt

all_cons_option : (P : List ℕ → Type 0) (o : Option (List ℕ)) (xs : List (List ℕ)) → IfSome o P → All P xs → All P (cons_option o xs)
all_cons_option P None xs here rest = rest
all_cons_option P (Some x) xs here rest = All-cons P x xs here rest

all_found : (found : Receipt → Option (List ℕ)) (P : List ℕ → Type 0) (rs : List Receipt) → All (λ r. IfSome (found r) P) rs → All P (filter_map found rs)
all_found found P [] h = All-nil P
all_found found P (r ∷ rs) h =
    all_cons_option P (found r) (filter_map found rs) (All-head (λ x. IfSome (found x) P) r rs h) (all_found found P rs (All-tail (λ x. IfSome (found x) P) r rs h))

found_here : (list found : List (List ℕ)) (o : Option (List ℕ)) → ((x : List ℕ) → Contains (cons_option o found) x → Contains list x) → IfSome o (Contains list)
found_here list found None among = tt
found_here list found (Some x) among = among x (0, omega arith, refl)

found_later : (found : List (List ℕ)) (o : Option (List ℕ)) (x : List ℕ) → Contains found x → Contains (cons_option o found) x
found_later found None x h = h
found_later found (Some y) x h = Contains-append_right (y ∷ []) found x h

each_found : (found : Receipt → Option (List ℕ)) (list : List (List ℕ)) (rs : List Receipt) → ((x : List ℕ) → Contains (filter_map found rs) x → Contains list x)
    → All (λ r. IfSome (found r) (Contains list)) rs
each_found found list [] among = All-nil (λ r. IfSome (found r) (Contains list))
each_found found list (r ∷ rs) among =
    All-cons (λ x. IfSome (found x) (Contains list)) r rs (found_here list (filter_map found rs) (found r) among)
    (each_found found list rs (λ x h. among x (found_later (filter_map found rs) (found r) x h)))

one_option : (o : Option (List ℕ)) → cons_option o [] ≡ option_to_list o
one_option None = refl
one_option (Some x) = refl

found_at : (found : Receipt → Option (List ℕ)) (rs : List Receipt) (i : ℕ) (d : Receipt) → i < length rs
    → filter_map found (take (i + 1) rs) ≡ filter_map found (take i rs) ++ option_to_list (found (get_or rs i d))
found_at found rs i d lt =
    ap (λ (xs : List Receipt). filter_map found xs) (take_more rs i d lt) ∙ filter_map-append found (take i rs) (get_or rs i d ∷ [])
    ∙ ap (λ (xs : List (List ℕ)). filter_map found (take i rs) ++ xs) (one_option (found (get_or rs i d)))

-- one receipt more
pub found_more : (found : Receipt → Option (List ℕ)) (rs : List Receipt) (i : ℕ) (r : Receipt) (old new : List (List ℕ)) → old ≡ filter_map found (take i rs)
    → new ≡ old ++ option_to_list (found r) → i < length rs → r ≡ get_or rs i r → new ≡ filter_map found (take (i + 1) rs)
found_more found rs i r old new before more lt is =
    more ∙ ap (λ (xs : List (List ℕ)). xs ++ option_to_list (found r)) before
    ∙ ap (λ (x : Receipt). filter_map found (take i rs) ++ option_to_list (found x)) is ∙ sym (found_at found rs i r lt)

-- ---- digests that are added, and those that are left to add

-- it says that its subject is refuted, or that it carries to one of these digests
abbrev pub leads : (List ℕ → Bool) → Receipt → Bool
leads shown (Refuted digest) = true
leads shown (Carries digest next) = shown next
leads shown (Satisfied digest) = false

abbrev pub Has : (List ℕ → Bool) → List (List ℕ) → List ℕ → Type 0
Has shown left digest = (shown digest ≡ true) ⊎ Contains left digest

-- the receipts lead from each of them to one that is refuted, and those that lead to one that is added lead from them alone
pub record Reaches (receipts : List Receipt) (shown : List ℕ → Bool) (left : List (List ℕ)) : Type 0 where
  pub sound : (digest : List ℕ) → shown digest ≡ true → IsShown receipts digest
  pub left_sound : All (IsShown receipts) left
  pub closed : All (λ r. leads shown r ≡ true → Has shown left (subject_of r)) receipts

-- one for each receipt that carries to a digest that is not added
abbrev pub waits : (List ℕ → Bool) → Receipt → ℕ
waits shown (Refuted digest) = 0
waits shown (Carries digest next) = if shown next then 0 else 1
waits shown (Satisfied digest) = 0

abbrev pub waiting : (List ℕ → Bool) → List Receipt → ℕ
waiting shown [] = 0
waiting shown (r ∷ rs) = waits shown r + waiting shown rs

-- ---- at first

module _ (receipts : List Receipt) where
  refuted_is_shown : (r : Receipt) → Contains receipts r → IfSome (refuted_by r) (IsShown receipts)
  refuted_is_shown (Refuted digest) among = ([], among)
  refuted_is_shown (Carries digest next) among = tt
  refuted_is_shown (Satisfied digest) among = tt

  pub reaches_refuted : (shown : List ℕ → Bool) → ((digest : List ℕ) → shown digest ≡ false) → Reaches receipts shown (filter_map refuted_by receipts)
  reaches_refuted shown none = record {
    sound = λ digest h. absurd (false≢true (sym (none digest) ∙ h));
    left_sound = all_found refuted_by (IsShown receipts) receipts (All-weaker (Contains receipts) (λ r. IfSome (refuted_by r) (IsShown receipts)) refuted_is_shown receipts (All-contains_itself receipts));
    closed = All-weaker (λ r. IfSome (refuted_by r) (Contains left)) (λ r. leads shown r ≡ true → Has shown left (subject_of r)) by receipts (each_found refuted_by left receipts (λ x h. h));
  }
    where
      left : List (List ℕ)
      left = filter_map refuted_by receipts

      by : (r : Receipt) → IfSome (refuted_by r) (Contains left) → leads shown r ≡ true → Has shown left (subject_of r)
      by (Refuted digest) found h = inr found
      by (Carries digest next) found h = absurd (false≢true (sym (none next) ∙ h))
      by (Satisfied digest) found h = absurd (false≢true h)

-- ---- one digest more

or_cases : (P : Type 0) (a b : Bool) → (a ≡ true → P) → (b ≡ true → P) → (a || b) ≡ true → P
or_cases P true b left right h = left refl
or_cases P false b left right h = right h

or_right : (a b : Bool) → b ≡ true → (a || b) ≡ true
or_right true b h = refl
or_right false b h = h

module _ (receipts : List Receipt) (old new : List ℕ → Bool) (digest : List ℕ) (adds : (other : List ℕ) → new other ≡ (old other || bytes_eq digest other)) where
  grows : (other : List ℕ) → old other ≡ true → new other ≡ true
  grows other h = rw h at (adds other)

  there : new digest ≡ true
  there = adds digest ∙ or_right (old digest) (bytes_eq digest digest) ((bytes_eq-Decides digest digest).1 refl)

  abbrev pub more : List (List ℕ)
  more = if old digest then [] else filter_map (carried_to digest) receipts

  carrier_is_shown : IsShown receipts digest → (r : Receipt) → Contains receipts r → IfSome (carried_to digest r) (IsShown receipts)
  carrier_is_shown after (Refuted other) among = tt
  carrier_is_shown after (Satisfied other) among = tt
  carrier_is_shown after (Carries other next) among = by (bytes_eq next digest) refl
    where
      by : (b : Bool) → bytes_eq next digest ≡ b → IfSome (cond b (Some other) None) (IsShown receipts)
      by true e = let is : next ≡ digest = (bytes_eq-Decides next digest).0 e in (digest ∷ after.0, (subst (λ (n : List ℕ). Contains receipts (Carries other n)) is among, after.1))
      by false e = tt

  more_sound : IsShown receipts digest → All (IsShown receipts) more
  more_sound after = by (old digest)
    where
      by : (b : Bool) → All (IsShown receipts) (if b then [] else filter_map (carried_to digest) receipts)
      by true = All-nil (IsShown receipts)
      by false = all_found (carried_to digest) (IsShown receipts) receipts
          (All-weaker (Contains receipts) (λ r. IfSome (carried_to digest r) (IsShown receipts)) (carrier_is_shown after) receipts (All-contains_itself receipts))

  module _ (rest : List (List ℕ)) (before : Reaches receipts old (rest ++ digest ∷ [])) where
    shown_now : IsShown receipts digest
    shown_now = All-contains (IsShown receipts) (rest ++ digest ∷ []) digest before.left_sound (Contains-push rest digest)

    kept : (other : List ℕ) → Has old (rest ++ digest ∷ []) other → Has new (rest ++ more) other
    kept other (inl h) = inl (grows other h)
    kept other (inr h) = ⊎_elim (λ (h : Contains rest other). inr (Contains-append_left rest more other h)) (λ (e : digest ≡ other). inl (subst (λ (x : List ℕ). new x ≡ true) e there)) (Contains-push_cases rest digest other h)

    closed_at : (r : Receipt) → (leads old r ≡ true → Has old (rest ++ digest ∷ []) (subject_of r)) → IfSome (carried_to digest r) (Contains (filter_map (carried_to digest) receipts))
        → leads new r ≡ true → Has new (rest ++ more) (subject_of r)
    closed_at (Refuted other) was found h = kept other (was refl)
    closed_at (Satisfied other) was found h = absurd (false≢true h)
    closed_at (Carries other next) was found h =
        or_cases (Has new (rest ++ more) other) (old next) (bytes_eq digest next) (λ (h : old next ≡ true). kept other (was h)) carried (sym (adds next) ∙ h)
      where
        carried : bytes_eq digest next ≡ true → Has new (rest ++ more) other
        carried e = by (old digest) refl
          where
            is : digest ≡ next
            is = (bytes_eq-Decides digest next).0 e

            by : (b : Bool) → old digest ≡ b → Has new (rest ++ (if b then [] else filter_map (carried_to digest) receipts)) other
            by true o = rw o at (kept other (was (subst (λ (x : List ℕ). old x ≡ true) is o)))
            by false o = inr (Contains-append_right rest (filter_map (carried_to digest) receipts) other (rw ((bytes_eq-Decides next digest).1 (sym is)) at found))

    reaches_more : Reaches receipts new (rest ++ more)
    reaches_more = record {
      sound = λ other h. or_cases (IsShown receipts other) (old other) (bytes_eq digest other) (before.sound other)
          (λ (e : bytes_eq digest other ≡ true). subst (IsShown receipts) ((bytes_eq-Decides digest other).0 e) shown_now) (sym (adds other) ∙ h);
      left_sound = All-append (IsShown receipts) rest more (λ k d lt. All-contains (IsShown receipts) (rest ++ digest ∷ []) (get_or rest k d) before.left_sound (Contains-append_left rest (digest ∷ []) (get_or rest k d) (Contains-get_or rest k d lt))) (more_sound shown_now);
      closed = λ k d lt. closed_at (get_or receipts k d) (before.closed k d lt) (each_found (carried_to digest) (filter_map (carried_to digest) receipts) receipts (λ x h. h) k d lt);
    }

  -- ---- how much is left

  weight_le : (a b : Bool) (m n : ℕ) → (a ≡ true → b ≡ true) → m ≤ n → (if b then 0 else 1) + m ≤ (if a then 0 else 1) + n
  weight_le true true m n h le = omega arith
  weight_le true false m n h le = absurd (false≢true (h refl))
  weight_le false true m n h le = omega arith
  weight_le false false m n h le = omega arith

  no_more_wait : (rs : List Receipt) → waiting new rs ≤ waiting old rs
  no_more_wait [] = omega arith
  no_more_wait (Refuted other ∷ rs) = let le = no_more_wait rs in omega (arith, le)
  no_more_wait (Satisfied other ∷ rs) = let le = no_more_wait rs in omega (arith, le)
  no_more_wait (Carries other next ∷ rs) = weight_le (old next) (new next) (waiting new rs) (waiting old rs) (grows next) (no_more_wait rs)

  fewer_at : (next other : List ℕ) (rs : List Receipt) (found : List (List ℕ)) (b : Bool) → bytes_eq next digest ≡ b → old digest ≡ false → waiting new rs + length found ≤ waiting old rs
      → ((if new next then 0 else 1) + waiting new rs) + length (cons_option (cond b (Some other) None) found) ≤ (if old next then 0 else 1) + waiting old rs
  fewer_at next other rs found true e none rest =
      let is : digest ≡ next = sym ((bytes_eq-Decides next digest).0 e) in
      let now : new next ≡ true = subst (λ (x : List ℕ). new x ≡ true) is there in
      let before : old next ≡ false = subst (λ (x : List ℕ). old x ≡ false) is none in
      rw (now, before) (omega (arith, rest))
  fewer_at next other rs found false e none rest = let le = weight_le (old next) (new next) (waiting new rs + length found) (waiting old rs) (grows next) rest in omega (arith, le)

  fewer_wait : old digest ≡ false → (rs : List Receipt) → waiting new rs + length (filter_map (carried_to digest) rs) ≤ waiting old rs
  fewer_wait none [] = omega arith
  fewer_wait none (Refuted other ∷ rs) = let le = fewer_wait none rs in omega (arith, le)
  fewer_wait none (Satisfied other ∷ rs) = let le = fewer_wait none rs in omega (arith, le)
  fewer_wait none (Carries other next ∷ rs) = fewer_at next other rs (filter_map (carried_to digest) rs) (bytes_eq next digest) refl none (fewer_wait none rs)

  less_at : (rest added : List (List ℕ)) → waiting new receipts + length added ≤ waiting old receipts
      → waiting new receipts + length (rest ++ added) < waiting old receipts + length (rest ++ digest ∷ [])
  less_at rest added le = let here = length-append rest added in let there = length-append rest (digest ∷ []) in omega (arith, le, here, there)

  less_left : (rest : List (List ℕ)) → waiting new receipts + length (rest ++ more) < waiting old receipts + length (rest ++ digest ∷ [])
  less_left rest = by (old digest) refl
    where
      by : (b : Bool) → old digest ≡ b → waiting new receipts + length (rest ++ (if b then [] else filter_map (carried_to digest) receipts)) < waiting old receipts + length (rest ++ digest ∷ [])
      by true o = less_at rest [] (let le = no_more_wait receipts in omega (arith, le))
      by false o = less_at rest (filter_map (carried_to digest) receipts) (fewer_wait o receipts)

  -- it leaves the list, and the subjects of those that carry to it come, where it is new
  pub next_digest : (before rest after subjects : List (List ℕ)) → Reaches receipts old before → before ≡ rest ++ digest ∷ [] → subjects ≡ filter_map (carried_to digest) receipts
      → after ≡ rest ++ (if old digest then [] else subjects) → Reaches receipts new after × (waiting new receipts + length after < waiting old receipts + length before)
  next_digest before rest after subjects reaches popped found added = (rw (added, found) (reaches_more rest (rw popped at reaches)), rw (added, popped, found) (less_left rest))

-- ---- at last

pub none_left : (receipts : List Receipt) (shown : List ℕ → Bool) (left : List (List ℕ)) → Reaches receipts shown left → length left ≡ 0 → Reaches receipts shown []
none_left receipts shown [] reaches none = reaches
none_left receipts shown (x ∷ left) reaches none = absurd (omega (arith, none))

pub all_shown : (receipts : List Receipt) (shown : List ℕ → Bool) → Reaches receipts shown [] → (digest : List ℕ) (path : List (List ℕ)) → LeadsBy receipts digest path → shown digest ≡ true
all_shown receipts shown reaches = go
  where
    added : (digest : List ℕ) → Has shown [] digest → shown digest ≡ true
    added digest (inl h) = h
    added digest (inr h) = absurd (omega (arith, h.1))

    closed : (r : Receipt) → Contains receipts r → leads shown r ≡ true → shown (subject_of r) ≡ true
    closed r among h = added (subject_of r) (All-contains (λ x. leads shown x ≡ true → Has shown [] (subject_of x)) receipts r reaches.closed among h)

    go : (digest : List ℕ) (path : List (List ℕ)) → LeadsBy receipts digest path → shown digest ≡ true
    go digest [] h = closed (Refuted digest) h refl
    go digest (next ∷ path) h = closed (Carries digest next) h.0 (go next path h.1)
