-- Clauses added one after the other.
use Rattle.std.proofs.Common.{◌≡◌, ℕ, Bool, ◌&&◌, List, [], ◌∷◌, ◌++◌, map, Some, None, refl, sym, ap, ◌∙◌, arith, Option}
use Rattle.sat_rules.specs.Clauses.{all_true}
use Rattle.checker_rules.specs.AddFormula.{FormulasAreFold, FormulasJoin, add_clauses, added, added_by}
use Rattle.checker_rules.specs.Calls.{adds, calls_after, steps_of}
use Rattle.checker_rules.specs.Covers.{Covers, CoversAfter}
use Rattle.checker_rules.specs.Headline.{EntailsRedundant, holds}
use Rattle.checker_rules.specs.Outcome.{Cause, Outcome, and_then, and_then_by}
use Rattle.checker_rules.specs.Sound.{Sound}
use Rattle.checker_rules.specs.State.{State, sat}
use Rattle.checker_rules.specs.Step.{Step, add_clause}
use Rattle.checker_rules.specs.Steps.{step}
use Rattle.checker_rules.proofs.Covering.{steps_cover}
use Rattle.checker_rules.proofs.Runs.{append_none, append_step, holds_last}
use Rattle.checker_rules.proofs.SoundStates.{states_stay_sound}
use Rattle.checker_rules.proofs.WholeRuns.{calls_are_fold}

abbrev Next : List (List ℕ) → State → Outcome
Next cs r = add_clauses r cs

-- a rejected clause changes nothing
refused_stays : (s : State) (c : List ℕ) (cause : Cause) → (step s (add_clause c)).refused ≡ Some cause → (step s (add_clause c)).after ≡ s
unfolding step
refused_stays s c cause h = grind arith

state : (s : State) (cs : List (List ℕ)) → (add_clauses s cs).after ≡ calls_after s (map adds (added s cs))
state s [] = refl
state s (c ∷ cs) = grind (arith, refused_stays s c, state (step s (add_clause c)).after cs)

steps : (s : State) (cs : List (List ℕ)) → steps_of s (map adds (added s cs)) ≡ map add_clause (added s cs)
steps s [] = refl
steps s (c ∷ cs) = grind (arith, steps (step s (add_clause c)).after cs)

fold : (s : State) (before : List Step) (cs : List (List ℕ)) → EntailsRedundant s → ((a : ℕ → Bool) → sat s a ≡ holds before a) →
    (a : ℕ → Bool) → sat (add_clauses s cs).after a ≡ holds (before ++ map add_clause (added s cs)) a
fold s before cs g h a =
    let k = (calls_are_fold s before (map adds (added s cs)) g h).1 a in
    ap (λ r. sat r a) (state s cs) ∙ k ∙ ap (λ l. holds (before ++ l) a) (steps s cs)

covers : (s : State) (before : List Step) (cs : List (List ℕ)) → Covers (holds before) s → Covers (holds (before ++ map add_clause (added s cs))) (add_clauses s cs).after
covers s before [] h = rw append_none h
covers s before (c ∷ cs) h = go (step s (add_clause c)).refused (steps_cover (holds before) s (add_clause c) h)
    (λ k. covers (step s (add_clause c)).after (before ++ add_clause c ∷ []) cs k)
  where
    r : State
    r = (step s (add_clause c)).after

    go : (x : Option Cause) → CoversAfter (holds before) (add_clause c) x r →
        (Covers (holds (before ++ add_clause c ∷ [])) r → Covers (holds ((before ++ add_clause c ∷ []) ++ map add_clause (added r cs))) (add_clauses r cs).after) →
        Covers (holds (before ++ map add_clause (added_by x c (added r cs)))) (and_then_by x r (Next cs)).after
    go None k rec = rw append_step at (rec (λ a e. k a (sym (holds_last before (add_clause c) a) ∙ e)))
    go (Some cause) k rec = rw append_none k

sound : (s : State) (cs : List (List ℕ)) → Sound s → Sound (add_clauses s cs).after
sound s cs h = rw (state s cs) (states_stay_sound.after_calls s (map adds (added s cs)) h)

all_added : (s : State) (cs : List (List ℕ)) → (add_clauses s cs).refused ≡ None → added s cs ≡ cs
all_added s [] h = refl
all_added s (c ∷ cs) h = grind (arith, all_added (step s (add_clause c)).after cs)

-- a rejected clause changes nothing
-- the fold over clauses
pub holds-clauses : (before : List Step) (cs : List (List ℕ)) (a : ℕ → Bool) → holds (before ++ map add_clause cs) a ≡ (holds before a && all_true a cs)
holds-clauses before [] a = grind (arith, append_none before)
holds-clauses before (c ∷ cs) a =
    let k = holds-clauses (before ++ add_clause c ∷ []) cs a in grind (arith, append_step before (add_clause c) (map add_clause cs), holds_last before (add_clause c) a)

pub members : (cs : List (List ℕ)) (a : ℕ → Bool) → holds (map add_clause cs) a ≡ all_true a cs
unfolding holds
members cs a = holds-clauses [] cs a

pub formulas_are_fold : FormulasAreFold
formulas_are_fold = record { fold = fold; covers = covers; sound = sound; accepted = all_added; state = state; members = members }

-- in two parts
outcome : (s : State) (cs ds : List (List ℕ)) → add_clauses s (cs ++ ds) ≡ and_then (add_clauses s cs) (Next ds)
outcome s [] ds = refl
outcome s (c ∷ cs) ds = grind (arith, outcome (step s (add_clause c)).after cs ds)

clauses : (s : State) (cs ds : List (List ℕ)) → (add_clauses s cs).refused ≡ None → added s (cs ++ ds) ≡ cs ++ added (add_clauses s cs).after ds
clauses s [] ds h = refl
clauses s (c ∷ cs) ds h = grind (arith, clauses (step s (add_clause c)).after cs ds)

pub formulas_join : FormulasJoin
formulas_join = record { outcome = outcome; clauses = clauses }
