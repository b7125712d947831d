-- Steps, calls and runs leave sound states.
use Rattle.checker_rules.proofs.Openings.{move_cases}
use Rattle.std.proofs.Common.{◌⊎◌, ltb, List, [], ◌∷◌, inl, inr}
use Rattle.std.proofs.lemmas.Bool.{cond_both}
use Rattle.checker_rules.specs.Calls.{Call, adds, answer_of, attempt, calls_after, checks, closes, closing_conflict, count_step, step_limit}
use Rattle.checker_rules.specs.Headline.{run}
use Rattle.checker_rules.specs.Outcome.{Outcome}
use Rattle.checker_rules.specs.Run.{Stop, move}
use Rattle.checker_rules.specs.Sound.{RunsStaySound, Sound, StatesStaySound}
use Rattle.checker_rules.specs.State.{State}
use Rattle.checker_rules.specs.Step.{Step, add_clause}
use Rattle.checker_rules.specs.Steps.{new_state, step}
use Rattle.checker_rules.proofs.StepForms.{form-close, new_form, steps_keep_form}
use Rattle.checker_rules.proofs.Keeping.{step_keeps}
use Rattle.checker_rules.proofs.Runs.{new_good}
use Rattle.checker_rules.proofs.WholeRuns.{close_keeps}

pub sound-new_state : Sound new_state
sound-new_state = record { good = new_good; form = new_form }

-- a step counted, and a checker that has failed
pub sound-count_step : (s : State) → Sound s → Sound (count_step s)
sound-count_step s h = record { good = h.good; form = h.form }

pub sound_after : (s : State) (t : Step) → Sound s → Sound (step s t).after
sound_after s t h = record { good = (step_keeps s t h.good).0; form = steps_keep_form s t h.form }

pub sound_attempt : (s : State) (t : Step) → Sound s → Sound (attempt s t).after
unfolding attempt
sound_attempt s t h = cond_both (ltb s.steps step_limit) _ _ (λ (o : Outcome). Sound o.after) (λ e. sound_after (count_step s) t (sound-count_step s h)) (λ e. h)

pub sound_closing : (s : State) → Sound s → Sound (closing_conflict s).after
sound_closing s h = record { good = (close_keeps s h.good).0; form = form-close s h.form }

pub sound_call : (s : State) (call : Call) → Sound s → Sound (answer_of s call).after
sound_call s (adds c) h = sound_after s (add_clause c) h
sound_call s (checks t) h = sound_attempt s t h
sound_call s closes h = sound_closing s h

pub sound_calls : (s : State) (calls : List Call) → Sound s → Sound (calls_after s calls)
sound_calls s [] h = h
sound_calls s (call ∷ calls) h = sound_calls (answer_of s call).after calls (sound_call s call h)

pub sound_steps : (s : State) (ts : List Step) → Sound s → Sound (run s ts)
sound_steps s [] h = h
sound_steps s (t ∷ ts) h = sound_steps (step s t).after ts (sound_after s t h)

-- a move over a text
abbrev MoveSound : {X F : Type 0} → State → (Step × X) ⊎ Stop F → Type 0
MoveSound s (inl p) = Sound (attempt s p.0).after
MoveSound s (inr p) = Sound p.1

sound_move : (X F : Type 0) (next : X → (Step × X) ⊎ F) (s : State) (x : X) → Sound s → MoveSound s (move next s x)
sound_move X F next s x h = move_cases X F (MoveSound {X = X} {F = F} s) next s x (sound_closing s h) h (λ f. sound-count_step s h) (λ t rest d e. sound_attempt s t h) (λ t c e. sound_attempt s t h)

pub runs_stay_sound : (X F : Type 0) → RunsStaySound X F
runs_stay_sound X F next s x [] answer r h run = rw run at (sound_move X F next s x h)
runs_stay_sound X F next s x (t ∷ ts) answer r h run =
    runs_stay_sound X F next (attempt s t).after run.0 ts answer r (rw run.1 at (sound_move X F next s x h)) run.2

pub states_stay_sound : StatesStaySound
states_stay_sound = record {
  new = sound-new_state;
  after_step = sound_after;
  after_attempt = sound_attempt;
  after_closing = sound_closing;
  after_call = sound_call;
  after_calls = sound_calls;
  after_steps = sound_steps;
}
