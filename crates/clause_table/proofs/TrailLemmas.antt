-- Trails of literals, and marks of what they hold.
use Rattle.std.proofs.Common.{◌≡◌, ℕ, Bool, true, false, not, ◌&&◌, ◌||◌, eqb, List, [], ◌∷◌, ◌++◌, length, refl, sym, ap, ◌∙◌, arith}
use mathlib.Core.Path.{fun_ext}
use Rattle.std.proofs.Math.Bool.{or-false}
use Rattle.std.proofs.lemmas.Bool.{false_from_ne_true, false≢true, and_parts, and_from}
use Rattle.sat_rules.specs.Clauses.{add_lit, has, negate}
use Rattle.sat_rules.proofs.Chains.{negate-negate}
use Rattle.sat_rules.specs.Named.{negated_set}
use Rattle.lrat_rules.specs.Counts.{all_once}
use Rattle.lrat_rules.specs.Groups.{add_negated}
use Rattle.clause_table.specs.Values.{IsMarked, among, with_lit}

-- ---- trails

-- whether a literal is in a trail with one more
pub has-push : (t : List ℕ) (l k : ℕ) → has k (t ++ l ∷ []) ≡ (eqb k l || has k t)
has-push [] l k = refl
has-push (m ∷ t) l k = grind (arith, has-push t l k)

-- a trail with one more has none twice where that one is new
pub all_once-push : (t : List ℕ) (l : ℕ) → all_once (t ++ l ∷ []) ≡ (not (has l t) && all_once t)
all_once-push [] l = refl
all_once-push (m ∷ t) l = grind (arith, has-push t l m, all_once-push t l)

-- one more literal is among them
pub among-with_lit : (l : ℕ) (t : List ℕ) → among (with_lit l t) ≡ add_lit l (among t)
among-with_lit l t = fun_ext (λ k. grind (arith, has-push t l k))

-- the negations of a clause, with no other literal
pub negated_alone : (c : List ℕ) → add_negated c (among []) ≡ negated_set c
negated_alone c = fun_ext (λ m. or-false (negated_set c m))

-- ---- marks

-- negations are one where the literals are
pub eqb-negate : (l m : ℕ) → eqb (negate l) (negate m) ≡ eqb l m
eqb-negate l m = grind (arith, negate-negate l, negate-negate m)

-- what the mark of a negation says where one is set, and where one is cleared
pub set_of : (x : ℕ → Bool) (more : ℕ → Bool) (n l : ℕ) → n ≡ negate l → ((k : ℕ) → more k ≡ (eqb k n || x k)) → (k : ℕ) → more (negate k) ≡ (eqb k l || x (negate k))
set_of x more n l is set k = set (negate k) ∙ ap (λ j. eqb (negate k) j || x (negate k)) is ∙ ap (λ b. b || x (negate k)) (eqb-negate k l)

pub cleared_of : (x : ℕ → Bool) (fewer : ℕ → Bool) (n l : ℕ) → n ≡ negate l → ((k : ℕ) → fewer k ≡ (not (eqb k n) && x k)) → (k : ℕ) → fewer (negate k) ≡ (not (eqb k l) && x (negate k))
cleared_of x fewer n l is cleared k = cleared (negate k) ∙ ap (λ j. not (eqb (negate k) j) && x (negate k)) is ∙ ap (λ b. not b && x (negate k)) (eqb-negate k l)

-- a mark is set for a new literal
pub marked-push : (marks : ℕ → Bool) (t : List ℕ) (l : ℕ) → IsMarked marks t → has l t ≡ false → (more : ℕ → Bool) →
    ((k : ℕ) → more k ≡ (eqb k l || marks k)) → IsMarked more (t ++ l ∷ [])
marked-push marks t l m new more set = record {
  marked = λ k. set k ∙ ap (λ b. eqb k l || b) (m.marked k) ∙ sym (has-push t l k);
  once = all_once-push t l ∙ and_from (not (has l t)) (all_once t) (ap not new) m.once;
}

-- the mark of the last literal is cleared
pub marked-pop : (marks : ℕ → Bool) (t : List ℕ) (l : ℕ) → IsMarked marks (t ++ l ∷ []) → (fewer : ℕ → Bool) →
    ((k : ℕ) → fewer k ≡ (not (eqb k l) && marks k)) → IsMarked fewer t
marked-pop marks t l m fewer cleared =
    let parts = and_parts (not (has l t)) (all_once t) (sym (all_once-push t l) ∙ m.once) in
    record { marked = λ k. grind (arith, cleared k, m.marked k, has-push t l k, parts.0); once = parts.1 }

-- a mark that is left after the last one of a trail was cleared is that of an earlier literal
pub earlier_in_trail : (trail others : List ℕ) (k m : ℕ) (b : Bool) → trail ≡ others ++ m ∷ [] →
    (b ≡ true → has k trail ≡ true) → (not (eqb k m) && b) ≡ true → has k others ≡ true
earlier_in_trail trail others k m b e h t = grind (arith, has-push others m k, e, h, t)

-- no mark is left
pub marked-none : (marks : ℕ → Bool) (t : List ℕ) → length t ≡ 0 → ((k : ℕ) → marks k ≡ true → has k t ≡ true) → IsMarked marks []
marked-none marks (m ∷ t) e left = absurd (omega (arith, e))
marked-none marks [] e left = record { marked = λ k. false_from_ne_true (marks k) (λ m. false≢true (left k m)); once = refl }
