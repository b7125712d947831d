-- The sealed definitions except `step`, opened: for goals that name them.
use Rattle.std.proofs.lemmas.Bool.{cond_both}
use Rattle.checker_rules.specs.Run.{Stop, after_attempt, after_read, as_answer, move}
use Rattle.std.proofs.Common.{◌≡◌, ℕ, Bool, true, false, ltb, Some, None, refl, ◌⊎◌, Option, inl, inr}
use Rattle.checker_rules.specs.Calls.{attempt, close_by, closing_conflict, count_step, step_limit}
use Rattle.checker_rules.specs.Outcome.{accept, ids_exhausted, refuse, steps_exhausted, Cause, Outcome}
use Rattle.checker_rules.specs.State.{State, sat}
use Rattle.checker_rules.specs.Step.{Step}
use Rattle.checker_rules.specs.Steps.{step}
use Rattle.checker_rules.specs.Store.{id_limit, take_id}

pub sat-count_step : (s : State) (a : ℕ → Bool) → sat (count_step s) a ≡ sat s a
unfolding sat
sat-count_step s a = refl

-- a proof step, counted
pub attempt-counted : (s : State) (t : Step) → ltb s.steps step_limit ≡ true → attempt s t ≡ step (count_step s) t
unfolding attempt
attempt-counted s t h = rw h

pub attempt-exhausted : (s : State) (t : Step) → ltb s.steps step_limit ≡ false → attempt s t ≡ refuse steps_exhausted s
unfolding attempt
attempt-exhausted s t h = rw h

-- the closing conflict
pub closing_conflict-none : (s : State) → s.conflict ≡ None → closing_conflict s ≡ accept s
unfolding closing_conflict
closing_conflict-none s h = rw h

pub closing_conflict-taken : (s : State) (pair : ℕ × ℕ) → s.conflict ≡ Some pair → ltb s.next id_limit ≡ true → closing_conflict s ≡ accept (take_id s)
unfolding closing_conflict
closing_conflict-taken s pair h room = rw (h, room)

pub closing_conflict-exhausted : (s : State) (pair : ℕ × ℕ) → s.conflict ≡ Some pair → ltb s.next id_limit ≡ false → closing_conflict s ≡ refuse ids_exhausted s
unfolding closing_conflict
closing_conflict-exhausted s pair h room = rw (h, room)

-- what a sum is made of
pub inl_same : {A B : Type 0} (x y : A) → ◌≡◌ {A = A ⊎ B} (inl x) (inl y) → x ≡ y
inl_same x y e = cc

pub inr_same : {A B : Type 0} (x y : B) → ◌≡◌ {A = A ⊎ B} (inr x) (inr y) → x ≡ y
inr_same x y e = cc

-- what holds after the closing conflict, and of a move: by their cases
pub closing_cases : (P : Outcome → Type 0) (s : State) → P (accept s) → P (accept (take_id s)) → P (refuse ids_exhausted s) → P (closing_conflict s)
unfolding closing_conflict
closing_cases P s none taken exhausted = elim s.conflict as (λ c. P (close_by c s)) [ None ↦ none | Some pair ↦ cond_both (ltb s.next id_limit) _ _ P (λ e. taken) (λ e. exhausted) ]

pub move_cases : (X F : Type 0) (P : (Step × X) ⊎ Stop F → Type 0) (next : X → (Step × X) ⊎ F) (s : State) (x : X) →
    P (inr (as_answer (closing_conflict s).refused, (closing_conflict s).after)) → P (inr (Some (inl steps_exhausted), s)) →
    ((f : F) → P (inr (Some (inr f), count_step s))) →
    ((t : Step) (rest : X) → ltb s.steps step_limit ≡ true → (attempt s t).refused ≡ None → P (inl (t, rest))) →
    ((t : Step) (c : Cause) → (attempt s t).refused ≡ Some c → P (inr (Some (inl c), (attempt s t).after))) → P (move next s x)
move_cases X F P next s x closed exhausted fault accepted refused =
    cond_both s.ended _ _ P (λ e. closed) (λ e. cond_both (ltb s.steps step_limit) _ _ P (λ d. read d (next x)) (λ d. exhausted))
  where
    tried : ltb s.steps step_limit ≡ true → (t : Step) (rest : X) (c : Option Cause) → (attempt s t).refused ≡ c → P (after_attempt c (attempt s t).after t rest)
    tried d t rest None e = accepted t rest d e
    tried d t rest (Some c) e = refused t c e

    read : ltb s.steps step_limit ≡ true → (p : (Step × X) ⊎ F) → P (after_read s p)
    read d (inl p) = tried d p.0 p.1 (attempt s p.0).refused refl
    read d (inr f) = fault f
