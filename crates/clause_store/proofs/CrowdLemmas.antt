-- Clauses at their places, and walks over them.
use Rattle.std.proofs.Common.{◌≡◌, ℕ, zero, suc, ◌+◌, ◌<◌, List, [], ◌∷◌, ◌++◌, length, get_or, take, drop, set, Option, Some, None, All, is_some, ltb, lt-ltb, refl}
use Rattle.std.proofs.Common.{length-append, sym, true, ap, ◌∙◌, subst, arith, Bool, false, cond, map}
use Rattle.std.specs.List.{filter, list_any}
use Rattle.std.proofs.lemmas.List.{drop_more, get_or_default, take_more, length-set}
use Rattle.std.proofs.lemmas.List.Elements.{filter_map-append}
use Rattle.checker_rules.specs.Passes.{walk}
use Rattle.checker_rules.specs.State.{Stored}
use Rattle.clause_store.specs.declared.clauses.Clause.{Clause}
use Rattle.clause_store.specs.declared.clauses.units.UnitClause.{UnitClause}
use Rattle.clause_store.specs.Crowds.{IsPlaced, standing}
use Rattle.clause_store.specs.Rup.{Walks, lits_in, true_lits}
use Rattle.clause_store.specs.Trace.{Listing, Lists}
use Rattle.clause_store.specs.View.{stored_of}

-- how many clauses come before a place
abbrev pub rank : List (Option Clause) → ℕ → ℕ
rank [] i = 0
rank (p ∷ ps) zero = 0
rank (None ∷ ps) (suc i) = rank ps i
rank (Some c ∷ ps) (suc i) = suc (rank ps i)

pub standing-append : (ps qs : List (Option Clause)) → standing (ps ++ qs) ≡ standing ps ++ standing qs
standing-append ps qs = filter_map-append (λ p. p) ps qs

-- one place more
pub standing-more : (ps : List (Option Clause)) (i : ℕ) (p : Option Clause) → i < length ps → p ≡ get_or ps i p → standing (take (i + 1) ps) ≡ standing (take i ps) ++ standing (p ∷ [])
standing-more ps i p less is = ap standing (take_more ps i p less ∙ ap (λ q. take i ps ++ q ∷ []) (sym is)) ∙ standing-append (take i ps) (p ∷ [])

pub standing-drop : (ps : List (Option Clause)) (i : ℕ) (p : Option Clause) → i < length ps → p ≡ get_or ps i p → standing (drop i ps) ≡ standing (p ∷ []) ++ standing (drop (i + 1) ps)
standing-drop ps i p less is = ap standing (drop_more ps i p less ∙ ap (λ q. q ∷ drop (i + 1) ps) (sym is)) ∙ standing-append (p ∷ []) (drop (i + 1) ps)

-- how many places and clauses there are with one more
pub pushed-counts : (ps qs : List (Option Clause)) (d : Clause) → qs ≡ ps ++ Some d ∷ [] → (length qs ≡ length ps + 1) × (length (standing qs) ≡ length (standing ps) + 1)
pushed-counts ps qs d is = rw is (length-append ps (Some d ∷ []), ap length (standing-append ps (Some d ∷ [])) ∙ length-append (standing ps) (d ∷ []))

-- what was read from a place is there
pub place-is : (ps : List (Option Clause)) (i : ℕ) (q p : Option Clause) → i < length ps → get_or ps i q ≡ p → get_or ps i None ≡ p
place-is ps i q p less is = get_or_default ps i None q less ∙ is

pub place-here : (ps : List (Option Clause)) (i : ℕ) (q p : Option Clause) → i < length ps → get_or ps i q ≡ p → p ≡ get_or ps i p
place-here ps i q p less is = sym (get_or_default ps i p q less ∙ is)

-- the clause d is in the place i
module _ (d : Clause) where
  pub stands-within : (ps : List (Option Clause)) (i : ℕ) → i < length ps → get_or ps i None ≡ Some d → rank ps i < length (standing ps)
  stands-within [] i w h = absurd (omega arith)
  stands-within (p ∷ ps) zero w h = grind arith
  stands-within (p ∷ ps) (suc i) w h = grind (arith, stands-within ps i (omega (arith, w)) h)

  pub stands-at : (ps : List (Option Clause)) (i : ℕ) → i < length ps → get_or ps i None ≡ Some d → d ≡ get_or (standing ps) (rank ps i) d
  stands-at [] i w h = absurd (omega arith)
  stands-at (p ∷ ps) zero w h = grind arith
  stands-at (p ∷ ps) (suc i) w h = grind (arith, stands-at ps i (omega (arith, w)) h)

  -- another clause in its place
  pub standing-set : (e : Clause) (ps : List (Option Clause)) (i : ℕ) → i < length ps → get_or ps i None ≡ Some d → standing (set ps i (Some e)) ≡ set (standing ps) (rank ps i) e
  standing-set e [] i w h = absurd (omega arith)
  standing-set e (p ∷ ps) zero w h = grind arith
  standing-set e (p ∷ ps) (suc i) w h = grind (arith, standing-set e ps i (omega (arith, w)) h)

  -- and none
  pub standing-left : (ps : List (Option Clause)) (i : ℕ) → i < length ps → get_or ps i None ≡ Some d →
      standing (set ps i None) ≡ take (rank ps i) (standing ps) ++ drop (suc (rank ps i)) (standing ps)
  standing-left [] i w h = absurd (omega arith)
  standing-left (p ∷ ps) zero w h = grind arith
  standing-left (p ∷ ps) (suc i) w h = grind (arith, standing-left ps i (omega (arith, w)) h)

  -- how many clauses there are then
  pub set-counts : (e : Clause) (ps : List (Option Clause)) (i : ℕ) → i < length ps → get_or ps i None ≡ Some d → length (standing (set ps i (Some e))) ≡ length (standing ps)
  set-counts e ps i w h = ap length (standing-set e ps i w h) ∙ length-set (standing ps) (rank ps i) e

  pub left-counts : (ps : List (Option Clause)) (i : ℕ) → i < length ps → get_or ps i None ≡ Some d → suc (length (standing (set ps i None))) ≡ length (standing ps)
  left-counts [] i w h = absurd (omega arith)
  left-counts (p ∷ ps) zero w h = grind arith
  left-counts (p ∷ ps) (suc i) w h = grind (arith, left-counts ps i (omega (arith, w)) h)

-- places stay as many, and clauses too, with another clause in place of the one that is there
pub placed-counts : (buffer lits : List ℕ) (ps qs : List (Option Clause)) (i : ℕ) (d e : Clause) → IsPlaced buffer lits ps i d → qs ≡ ps →
    (length (set qs i (Some e)) ≡ length qs) × (length (standing (set qs i (Some e))) ≡ length (standing qs))
placed-counts buffer lits ps qs i d e p same = rw same (length-set ps i (Some e), set-counts d e ps i p.within p.here)

-- a place that is not free has a clause
pub taken : (p : Option Clause) → is_some p ≡ true → (d : Clause) × (p ≡ Some d)
taken None h = absurd cc
taken (Some d) h = (d, refl)

-- the places that are not free
pub standing-close : (ps : List (Option Clause)) → standing (filter is_some ps) ≡ standing ps
standing-close [] = refl
standing-close (p ∷ ps) = grind (arith, standing-close ps)

pub close-counts : (ps : List (Option Clause)) → length (filter is_some ps) ≡ length (standing ps)
close-counts [] = refl
close-counts (p ∷ ps) = grind (arith, close-counts ps)

-- whether there are clauses
pub standing-some : (ps : List (Option Clause)) → list_any is_some ps ≡ ltb 0 (length (standing ps))
standing-some [] = refl
standing-some (None ∷ ps) = standing-some ps
standing-some (Some c ∷ ps) = sym (lt-ltb 0 (length (c ∷ standing ps)) (omega arith))

-- what is true of all clauses is true of the one in a place
pub All-stands : (P : Clause → Type 0) (ps : List (Option Clause)) (i : ℕ) (d : Clause) → All P (standing ps) → i < length ps → get_or ps i None ≡ Some d → P d
All-stands P ps i d all w h = subst P (sym (stands-at d ps i w h)) (all (rank ps i) d (stands-within d ps i w h))

-- the first clause of a walk
module _ (s : ℕ → Bool) (c : List ℕ) (cs : List (List ℕ)) where
  walk-on : (t : ℕ → Bool) → walk s (c ∷ []) ≡ Some t → walk s (c ∷ cs) ≡ walk t cs
  walk-on t h = grind arith

  walk-stops : walk s (c ∷ []) ≡ None → walk s (c ∷ cs) ≡ None
  walk-stops h = grind arith

module _ (buffer : List ℕ) (ps : List (Option Clause)) (i : ℕ) (q : Option Clause) (less : i < length ps) where
  -- a clause is in the place
  module _ (d : Clause) (is : get_or ps i q ≡ Some d) where
    pub place-first : standing (drop i ps) ≡ d ∷ standing (drop (i + 1) ps)
    place-first = standing-drop ps i (Some d) less (place-here ps i q (Some d) less is)

    pub place-walked : (us vs : List (Option UnitClause)) (answer : Option (ℕ → Bool)) → Walks us (lits_in buffer (d ∷ [])) vs false →
        walk (true_lits us) (lits_in buffer (standing (drop i ps))) ≡ answer → walk (true_lits vs) (lits_in buffer (standing (drop (i + 1) ps))) ≡ answer
    place-walked us vs answer w h =
        sym (walk-on (true_lits us) _ (lits_in buffer (standing (drop (i + 1) ps))) (true_lits vs) w) ∙ sym (ap (λ cs. walk (true_lits us) (lits_in buffer cs)) place-first) ∙ h

    pub place-falsified : (us vs : List (Option UnitClause)) (answer : Option (ℕ → Bool)) → Walks us (lits_in buffer (d ∷ [])) vs true →
        walk (true_lits us) (lits_in buffer (standing (drop i ps))) ≡ answer → answer ≡ None
    place-falsified us vs answer w h =
        sym h ∙ ap (λ cs. walk (true_lits us) (lits_in buffer cs)) place-first ∙ walk-stops (true_lits us) _ (lits_in buffer (standing (drop (i + 1) ps))) w

    pub place-listed : (after : Listing) (ids now : List ℕ) (us vs : List (Option UnitClause)) (rest : List Stored) (falsified : Bool) →
        Lists after ids us (stored_of buffer d ∷ []) now vs falsified → after ids us (map (stored_of buffer) (standing (drop i ps)) ++ rest) ≡
        cond falsified (Some now) (after now vs (map (stored_of buffer) (standing (drop (i + 1) ps)) ++ rest))
    place-listed after ids now us vs rest falsified l =
        ap (λ cs. after ids us (map (stored_of buffer) cs ++ rest)) place-first ∙ l (map (stored_of buffer) (standing (drop (i + 1) ps)) ++ rest)

    pub place-all : (P : Clause → Type 0) → All P (standing ps) → P d
    place-all P all = All-stands P ps i d all less (place-is ps i q (Some d) less is)

  -- or none
  pub place-free : get_or ps i q ≡ None → standing (drop i ps) ≡ standing (drop (i + 1) ps)
  place-free is = standing-drop ps i None less (place-here ps i q None less is)
