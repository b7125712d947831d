-- No two literals of an answer are opposite.
use Rattle.std.proofs.Common.{◌≡◌, ℕ, Bool, false, ◌||◌, List, [], ◌∷◌, ◌++◌, arith, refl, sym, ◌∙◌, subst}
use Rattle.std.proofs.lemmas.Bool.{eqb-true}
use Rattle.std.proofs.lemmas.List.Folds.{list_any-append}
use Rattle.sat_rules.specs.Clauses.{add_lit, has, negate}
use Rattle.sat_rules.proofs.Chains.{negate-negate, negate-other}
use Rattle.answer_text.specs.declared.spot.Spot.{Spot}
use Rattle.answer_text.specs.declared.spot.After.{After}
use Rattle.answer_text.specs.declared.spot.After.TheVariants.{Goes, Gives, Stops}
use Rattle.answer_text.specs.automaton.Answers.{Step, On, Off, taken, step, at_end, finish, outcome_at}
use Rattle.answer_text.specs.Answers.{Lists, Faulty}
use Rattle.answer_text.specs.Literals.{IsConsistent, listed}
use Rattle.answer_text.specs.automaton.Places.{after}

-- a literal more whose negation is not in the set
consistent_more : (s : ℕ → Bool) (l : ℕ) → IsConsistent s → s (negate l) ≡ false → IsConsistent (add_lit l s)
consistent_more s l c f m h n = grind (arith, eqb-true, negate-other m, negate-negate m, c m)

last_first : (b c : Bool) → (c || (b || false)) ≡ (b || c)
last_first b c = grind arith

-- a literal more in the list is one more in the set
pub has_more : (lits : List ℕ) (lit m : ℕ) → has m (lits ++ lit ∷ []) ≡ add_lit lit (listed lits) m
has_more lits lit m = list_any-append _ lits (lit ∷ []) ∙ last_first _ _

more_consistent : (lits : List ℕ) (lit : ℕ) → IsConsistent (listed lits) → has (negate lit) lits ≡ false → IsConsistent (listed (lits ++ lit ∷ []))
more_consistent lits lit c f m h n =
    consistent_more (listed lits) lit c f m (sym (has_more lits lit m) ∙ h) (sym (has_more lits lit (negate m)) ∙ n)

-- ---- one byte

given : (lits : List ℕ) (line lit : ℕ) (s : Spot) (more : List ℕ) (next : Spot) → taken lits line (Gives lit s) ≡ On more next →
    (lits ++ lit ∷ [] ≡ more) × (has (negate lit) lits ≡ false)
given lits line lit s more next h = grind arith

pub taken_consistent : (lits : List ℕ) (line : ℕ) (a : After) (more : List ℕ) (next : Spot) → IsConsistent (listed lits) → taken lits line a ≡ On more next → IsConsistent (listed more)
taken_consistent lits line (Goes s) more next c h = let is : lits ≡ more = cc in rw is at c
taken_consistent lits line (Gives lit s) more next c h = let k = given lits line lit s more next h in rw k.0 at (more_consistent lits lit c k.1)
taken_consistent lits line (Stops kind) more next c h = absurd (cc)

-- ---- the whole text

finished : (line : ℕ) (lits out : List ℕ) (s : Spot) → finish line lits s ≡ Lists out → lits ≡ out
finished line lits out s h = grind arith

pub ended : (line : ℕ) (d : Step) (out : List ℕ) → ((more : List ℕ) (next : Spot) → d ≡ On more next → IsConsistent (listed more)) → at_end line d ≡ Lists out → IsConsistent (listed out)
ended line (On more next) out c h = subst (λ (l : List ℕ). IsConsistent (listed l)) (finished line more out next h) (c more next refl)
ended line (Off at kind) out c h = absurd (cc)

next_consistent : (bs : List ℕ) (out : List ℕ) (d : Step) → ((more : List ℕ) (next : Spot) → d ≡ On more next → IsConsistent (listed more)) →
    ((more : List ℕ) (next : Spot) → IsConsistent (listed more) → outcome_at more next bs ≡ Lists out → IsConsistent (listed out)) →
    (elim d [ On more next ↦ outcome_at more next bs | Off line kind ↦ Faulty line kind ]) ≡ Lists out → IsConsistent (listed out)
next_consistent bs out (On more next) c rest h = rest more next (c more next refl) h
next_consistent bs out (Off line kind) c rest h = absurd (cc)

pub consistent_at : (text lits : List ℕ) (s : Spot) (out : List ℕ) → IsConsistent (listed lits) → outcome_at lits s text ≡ Lists out → IsConsistent (listed out)
unfolding outcome_at
consistent_at [] lits s out c h = ended s.line (step lits s 10) out (λ more next e. taken_consistent lits s.line (after s 10) more next c e) h
consistent_at (b ∷ bs) lits s out c h =
    next_consistent bs out (step lits s b) (λ more next e. taken_consistent lits s.line (after s b) more next c e)
    (λ more next k. consistent_at bs more next out k) h
