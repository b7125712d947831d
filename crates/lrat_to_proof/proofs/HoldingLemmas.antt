-- What is held, a change more.
--     not_rising      what is known of a list by whether its variables rise
--     holding_ext, holds_nothing, holds_more, entries_put, entries_drop      what is held, by its parts
use Rattle.std.proofs.Common.{arith, add-one, ◌≡◌, ◌≤◌, ◌+◌, ◌/◌, ◌&&◌, ◌||◌, if◌then◌else◌, ℕ, suc, Bool, true, false, not, eqb, ltb, ltb-true, List, [], ◌∷◌, Option, Some, None, refl, ap, ◌∙◌}
use mathlib.Core.Path.{fun_ext}
use Rattle.std.proofs.lemmas.Bool.{and_parts}
use Rattle.std.proofs.lemmas.Bool.Decides.{nat_tests}
use Rattle.std.specs.List.{list_all}
use Rattle.std.specs.Option.{option_map}
use Rattle.sat_rules.specs.Clauses.{is_canonical, is_tautology}
use Rattle.checker_parts.specs.RisingVars.{has_rising_vars}
use Rattle.checker_parts.proofs.CanonicalLists.{shares_var, shares_var-canonical}
use Rattle.lrat_to_proof.specs.Holding.{Entry, Holding, from_formula, hold, hold_from, nothing}
use Rattle.lrat_to_proof.specs.Standing.{entry_of}

-- ---- lists

neighbours : (v w : ℕ) (rising shared : Bool) → v ≤ w → not rising ≡ shared → not (ltb v w && rising) ≡ (eqb v w || shared)
neighbours v w rising shared le later = grind (arith, nat_tests)

-- the variables of a canonical list rise, unless two neighbours share one
rising_or_shared : (c : List ℕ) → is_canonical c ≡ true → not (has_rising_vars c) ≡ shares_var c
rising_or_shared [] h = refl
rising_or_shared (l ∷ []) h = refl
rising_or_shared (l ∷ m ∷ ms) h =
    let p = and_parts (list_all (ltb l) (m ∷ ms)) (is_canonical (m ∷ ms)) h in
    let less = ltb-true l m (and_parts (ltb l m) (list_all (ltb l) ms) p.0).0 in
    neighbours (l / 2) (m / 2) _ _ (omega arith) (rising_or_shared (m ∷ ms) p.1)

-- so a canonical list whose variables don't rise is a tautology
pub not_rising : (c : List ℕ) → is_canonical c ≡ true → not (has_rising_vars c) ≡ is_tautology c
not_rising c h = rising_or_shared c h ∙ shares_var-canonical c h

-- ---- what is held

-- what is held, of its parts
abbrev holding : (ℕ → Option Entry) → (ℕ → Bool) → Bool → Holding
holding entries units refuted = record { entries = entries; units = units; refuted = refuted }

-- the same clauses, the same units and the same verdict are the same
pub holding_ext : (f g : ℕ → Option Entry) (u v : ℕ → Bool) (a b : Bool) → ((k : ℕ) → f k ≡ g k) → u ≡ v → a ≡ b →
    ◌≡◌ {A = Holding} (record { entries = f; units = u; refuted = a }) (record { entries = g; units = v; refuted = b })
holding_ext f g u v a b p q r = ap (λ h. holding h u a) (fun_ext p) ∙ ap (λ w. holding g w a) q ∙ ap (holding g v) r

-- before any clause
pub holds_nothing : (clauses : ℕ → Option (List ℕ)) (derived units : ℕ → Bool) → ((k : ℕ) → clauses k ≡ None) → ((m : ℕ) → units m ≡ false) →
    holding (λ i. option_map (entry_of (derived i)) (clauses i)) units false ≡ nothing
holds_nothing clauses derived units none empty = holding_ext _ _ _ _ _ _ (λ k. rw (none k)) (fun_ext empty) refl

-- after one clause more of the formula
pub holds_more : (n : ℕ) (h new whole : Holding) (c : List ℕ) (rest all : List (List ℕ)) → all ≡ c ∷ rest → hold_from (suc n) all h ≡ whole →
    new ≡ hold (n + 1) (from_formula c) h → hold_from (suc (n + 1)) rest new ≡ whole
holds_more n h new whole c rest all e p q = rw (q, add-one) (rw e at p)

-- one clause more, at its id and elsewhere
pub entries_put : (here derived before : Bool) (c : List ℕ) (old : Option (List ℕ)) →
    option_map (entry_of (if here then derived else before)) (if here then Some c else old) ≡ (if here then Some (entry_of derived c) else option_map (entry_of before) old)
entries_put true derived before c old = refl
entries_put false derived before c old = refl

-- without a clause, at its id and elsewhere
pub entries_drop : (here after before : Bool) (old : Option (List ℕ)) → (here ≡ false → after ≡ before) →
    option_map (entry_of after) (if here then None else old) ≡ (if here then None else option_map (entry_of before) old)
entries_drop true after before old same = refl
entries_drop false after before old same = ap (λ derived. option_map (entry_of derived) old) (same refl)
