-- Runs over texts in parts, for loops that read one step after the other.
--     Reaches next s x ts r y      the moves from s over x accept ts and leave the state r and the text y
--     MovesAre      what one move is, in each of its cases
--     RunsJoin      what was reached so far, and the run from there
use Rattle.std.specs.Prelude.{◌≡◌, ◌⊎◌, true, false, nat_lt, List, [], ◌∷◌, ◌++◌, map, Option, Some, None}
use Rattle.std.proofs.Common.{inl, inr}
use Rattle.checker_rules.specs.Calls.{attempt, calls_after, checks, closing_conflict, count_step, step_limit}
use Rattle.checker_rules.specs.Outcome.{Cause, steps_exhausted}
use Rattle.checker_rules.specs.Run.{Runs, as_answer, move}
use Rattle.checker_rules.specs.State.{State}
use Rattle.checker_rules.specs.Step.{Step}

-- from s over x the moves accept ts, and then the state is r and the text is y
abbrev pub Reaches : {X F : Type 0} → (X → (Step × X) ⊎ F) → State → X → List Step → State → X →
    Type 0
Reaches next s x [] r y = (s ≡ r) × (x ≡ y)
Reaches {X = X} next s x (t ∷ ts) r y = (rest : X) × (move next s x ≡ inl (t, rest))
    × Reaches next (attempt s t).after rest ts r y

-- one move by its cases, in the order in which they are tested
pub record MovesAre (X F : Type 0) : Type 0 where
  pub ended : (next : X → (Step × X) ⊎ F) (s : State) (x : X) → s.ended ≡ true →
      move next s x ≡ inr (as_answer (closing_conflict s).refused, (closing_conflict s).after)
  pub exhausted : (next : X → (Step × X) ⊎ F) (s : State) (x : X) → s.ended ≡ false →
      nat_lt s.steps step_limit ≡ false → move next s x ≡ inr (Some (inl steps_exhausted), s)
  pub fault : (next : X → (Step × X) ⊎ F) (s : State) (x : X) (f : F) → s.ended ≡ false →
      nat_lt s.steps step_limit ≡ true → next x ≡ inr f →
      move next s x ≡ inr (Some (inr f), count_step s)
  pub refused : (next : X → (Step × X) ⊎ F) (s : State) (x : X) (t : Step) (rest : X)
      (cause : Cause) → s.ended ≡ false → nat_lt s.steps step_limit ≡ true →
      next x ≡ inl (t, rest) →
      (attempt s t).refused ≡ Some cause →
      move next s x ≡ inr (Some (inl cause), (attempt s t).after)
  pub accepted : (next : X → (Step × X) ⊎ F) (s : State) (x : X) (t : Step) (rest : X) →
      s.ended ≡ false → nat_lt s.steps step_limit ≡ true → next x ≡ inl (t, rest) →
      (attempt s t).refused ≡ None → move next s x ≡ inl (t, rest)

-- what was reached, and what is reached or how the run ends from there
pub record RunsJoin (X F : Type 0) : Type 0 where
  pub start : (next : X → (Step × X) ⊎ F) (s : State) (x : X) → Reaches next s x [] s x
  pub one_more : (next : X → (Step × X) ⊎ F) (s : State) (x : X) (ts : List Step) (r : State)
      (y : X) (t : Step) (z : X) →
      Reaches next s x ts r y → move next r y ≡ inl (t, z) →
      Reaches next s x (ts ++ t ∷ []) (attempt r t).after z
  pub reached : (next : X → (Step × X) ⊎ F) (s : State) (x : X) (ts : List Step) (r : State) (y : X)
      (us : List Step) (q : State) (z : X) →
      Reaches next s x ts r y → Reaches next r y us q z → Reaches next s x (ts ++ us) q z
  pub ends : (next : X → (Step × X) ⊎ F) (s : State) (x : X) (ts : List Step) (r : State) (y : X)
      (us : List Step) (answer : Option (Cause ⊎ F)) (q : State) →
      Reaches next s x ts r y → Runs next r y us answer q → Runs next s x (ts ++ us) answer q
  -- the state does not hang on the text
  pub state : (next : X → (Step × X) ⊎ F) (s : State) (x : X) (ts : List Step) (r : State) (y : X) →
      Reaches next s x ts r y → r ≡ calls_after s (map checks ts)
