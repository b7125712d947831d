-- The step of a model, by its cause.
use Rattle.std.proofs.Common.{◌≡◌, ℕ, true, false, cond, List, [], ◌∷◌, Option, None, Some, refl, ap, ◌∙◌, arith, Bool, ◌||◌}
use Rattle.checker_steps.proofs.Common.{add_lit, has, Cause, Outcome}
use Rattle.checker_steps.proofs.Common.{accept, and_then_by, model_after_unsat, refuse}
use Rattle.checker_steps.proofs.Common.{State, model, step, step-model, MarksOnly, is_marked}
use Rattle.checker_steps.proofs.Common.{first_cause, list_cause, lit_cause}
use Rattle.checker_rules.specs.Model.{model_cause, model_whole}

-- the step
abbrev by_cause : Option Cause → State → Outcome
by_cause None s = accept s
by_cause (Some cause) s = refuse cause s

model-by : (s : State) (m : List ℕ) → s.unsat ≡ false → step s (model m) ≡ by_cause (list_cause s m) s
model-by s m live = grind (arith, step-model)

pub model-unsat : (s : State) (m : List ℕ) → s.unsat ≡ true → step s (model m) ≡ refuse model_after_unsat s
model-unsat s m h = step-model s m ∙ ap (λ b. cond b (refuse model_after_unsat s) (and_then_by (model_cause s [] m) s (λ r. model_whole r m))) h

pub model-accepts : (s : State) (m : List ℕ) → s.unsat ≡ false → list_cause s m ≡ None → step s (model m) ≡ accept s
model-accepts s m live e = model-by s m live ∙ ap (λ o. by_cause o s) e

pub model-refuses : (s : State) (m : List ℕ) (cause : Cause) → s.unsat ≡ false → list_cause s m ≡ Some cause → step s (model m) ≡ refuse cause s
model-refuses s m cause live h = model-by s m live ∙ ap (λ o. by_cause o s) h

-- ---- judging the literals of a model one after the other, those before being marked

-- the first cause among the literals, those of a set being listed
abbrev pub causes_from : State → (ℕ → Bool) → List ℕ → Option Cause
causes_from s f [] = None
causes_from s f (l ∷ ls) = first_cause (lit_cause s f l) (causes_from s (add_lit l f) ls)

pub causes_from-listed : (s : State) (earlier ls : List ℕ) → causes_from s (λ k. has k earlier) ls ≡ model_cause s earlier ls
causes_from-listed s earlier [] = refl
causes_from-listed s earlier (l ∷ ls) = grind (arith, causes_from-listed s (l ∷ earlier) ls)

pub causes_from-none : (s : State) (f : ℕ → Bool) (ls : List ℕ) → ((k : ℕ) → f k ≡ false) → causes_from s f ls ≡ model_cause s [] ls
causes_from-none s f ls none = let same : f ≡ (λ k. has k []) = λ i k. none k i in ap (λ g. causes_from s g ls) same ∙ causes_from-listed s [] ls

-- one literal after those of a set
pub causes_from-goes : (s : State) (f g : ℕ → Bool) (l : ℕ) (ls : List ℕ) → lit_cause s f l ≡ None → g ≡ add_lit l f → causes_from s g ls ≡ causes_from s f (l ∷ ls)
causes_from-goes s f g l ls none marked = grind (arith, none, marked)

-- a literal that is rejected is the first one
pub cause-first : (cause : Cause) (s : State) (f : ℕ → Bool) (l : ℕ) (ls : List ℕ) (found : Option Cause) → causes_from s f (l ∷ ls) ≡ found → lit_cause s f l ≡ Some cause → found ≡ Some cause
cause-first cause s f l ls found e h = grind (arith, e, h)

-- what is marked, and what is still to be
pub marked-none : (f : ℕ → Bool) (ls : List ℕ) (k : ℕ) → ((k : ℕ) → f k ≡ false) → (f k || has k ls) ≡ has k ls
marked-none f ls k none = ap (λ b. b || has k ls) (none k)

pub marked-turn : (f g : ℕ → Bool) (l : ℕ) (ls : List ℕ) (k : ℕ) → g ≡ add_lit l f → (g k || has k ls) ≡ (f k || has k (l ∷ ls))
marked-turn f g l ls k marked = grind (arith, marked)

pub marked-all : (f : ℕ → Bool) (whole ls : List ℕ) (k : ℕ) → ls ≡ [] → (f k || has k ls) ≡ has k whole → f k ≡ has k whole
marked-all f whole ls k done h = grind (arith, done, h)

-- only what is listed is marked
pub marks_only : (marks : List Bool) (whole ls : List ℕ) → ((k : ℕ) → (is_marked marks k || has k ls) ≡ has k whole) → MarksOnly marks whole
marks_only marks whole ls marked = λ k away. grind (arith, marked k, away)

-- the marks that are still to be taken back, and those of an empty list
pub unmarked-all : (marks : List Bool) (ls : List ℕ) → ls ≡ [] → MarksOnly marks ls → (k : ℕ) → is_marked marks k ≡ false
unmarked-all marks ls done only k = only k (ap (has k) done)
