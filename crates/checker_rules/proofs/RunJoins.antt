-- Runs over texts in parts, their moves, and what they emit.
use Rattle.std.proofs.lemmas.List.{append-nil, append_assoc}
use Rattle.checker_rules.proofs.Openings.{inl_same}
use Rattle.std.proofs.Common.{◌≡◌, ◌⊎◌, true, false, ltb, List, [], ◌∷◌, ◌++◌, map, Option, refl, sym, ap, ◌∙◌, subst, inl, inr, arith}
use Rattle.sat_rules.specs.Named.{Machine}
use Rattle.checker_rules.specs.CallEmissions.{EmitsCalls}
use Rattle.checker_rules.specs.Calls.{Call, answer_of, attempt, calls_after, checks, closes, step_limit}
use Rattle.checker_rules.specs.CheckedSteps.{NamedStep, hint_steps}
use Rattle.checker_rules.specs.Headline.{run}
use Rattle.checker_rules.specs.HintRun.{IsRun, machine_after}
use Rattle.checker_rules.specs.Machine.{Mirrors}
use Rattle.checker_rules.specs.Outcome.{Cause}
use Rattle.checker_rules.specs.Reaching.{MovesAre, Reaches, RunsJoin}
use Rattle.checker_rules.specs.Run.{Runs, Stop, after_attempt, after_read, move}
use Rattle.checker_rules.specs.RunEmissions.{EmissionsJoin, EmitsRun, RunsRunMachine, last_calls}
use Rattle.checker_rules.specs.State.{State}
use Rattle.checker_rules.specs.Step.{Step}
use Rattle.checker_rules.specs.WellFormed.{WellFormed}
use Rattle.checker_rules.proofs.CallRuns.{calls_run_machine}
use Rattle.checker_rules.proofs.DeletedVars.{hints-append}
use Rattle.checker_rules.proofs.Emissions.{after-append, run-append}

module _ (X F : Type 0) where
  -- one move
  move-read : (next : X → (Step × X) ⊎ F) (s : State) (x : X) (p : (Step × X) ⊎ F) → s.ended ≡ false → ltb s.steps step_limit ≡ true → next x ≡ p → move next s x ≡ after_read s p
  move-read next s x p e h k = rw (e, h, k)

  pub moves_are : MovesAre X F
  moves_are = record {
    ended = λ next s x e. rw e;
    exhausted = λ next s x e h. rw (e, h);
    fault = λ next s x f e h k. move-read next s x (inr f) e h k;
    refused = λ next s x t rest cause e h k r. move-read next s x (inl (t, rest)) e h k ∙ ap (λ c. after_attempt c (attempt s t).after t rest) r;
    accepted = λ next s x t rest e h k r. move-read next s x (inl (t, rest)) e h k ∙ ap (λ c. after_attempt c (attempt s t).after t rest) r;
  }

  -- parts of a run
  reached : (next : X → (Step × X) ⊎ F) (s : State) (x : X) (ts : List Step) (r : State) (y : X) (us : List Step) (q : State) (z : X) →
      Reaches next s x ts r y → Reaches next r y us q z → Reaches next s x (ts ++ us) q z
  reached next s x [] r y us q z h k = rw (h.0, h.1) k
  reached next s x (t ∷ ts) r y us q z h k = (h.0, h.1, reached next (attempt s t).after h.0 ts r y us q z h.2 k)

  ends : (next : X → (Step × X) ⊎ F) (s : State) (x : X) (ts : List Step) (r : State) (y : X) (us : List Step) (answer : Option (Cause ⊎ F)) (q : State) →
      Reaches next s x ts r y → Runs next r y us answer q → Runs next s x (ts ++ us) answer q
  ends next s x [] r y us answer q h k = rw (h.0, h.1) k
  ends next s x (t ∷ ts) r y us answer q h k = (h.0, h.1, ends next (attempt s t).after h.0 ts r y us answer q h.2 k)

  state : (next : X → (Step × X) ⊎ F) (s : State) (x : X) (ts : List Step) (r : State) (y : X) → Reaches next s x ts r y → r ≡ calls_after s (map checks ts)
  state next s x [] r y h = sym h.0
  state next s x (t ∷ ts) r y h = state next (attempt s t).after h.0 ts r y h.2

  pub runs_join : RunsJoin X F
  runs_join = record {
    start = λ next s x. (refl, refl);
    one_more = λ next s x ts r y t z h k. reached next s x ts r y (t ∷ []) (attempt r t).after z h (z, k, (refl, refl));
    reached = reached;
    ends = ends;
    state = state;
  }

  -- what parts emit
  calls : (s : State) (first second : List Call) (xs ys : List NamedStep) → EmitsCalls s first xs → EmitsCalls (calls_after s first) second ys → EmitsCalls s (first ++ second) (xs ++ ys)
  calls s [] second xs ys h k = rw h k
  calls s (call ∷ first) second xs ys h k = (
    h.0,
    h.1 ++ ys,
    h.2,
    calls (answer_of s call).after first second h.1 ys h.3 k,
    ap (λ l. l ++ ys) h.4 ∙ append_assoc h.0 h.1 ys,
  )

  emits_ends : (next : X → (Step × X) ⊎ F) (s : State) (x : X) (ts : List Step) (r : State) (y : X) (us : List Step) (xs ys : List NamedStep) →
      Reaches next s x ts r y → EmitsCalls s (map checks ts) xs → EmitsRun next r y us ys → EmitsRun next s x (ts ++ us) (xs ++ ys)
  emits_ends next s x [] r y us xs ys h e k = rw (e, h.0, h.1) k
  emits_ends next s x (t ∷ ts) r y us xs ys h e k = (
    h.0,
    h.1,
    e.0,
    e.1 ++ ys,
    e.2,
    emits_ends next (attempt s t).after h.0 ts r y us e.1 ys h.2 e.3 k,
    ap (λ l. l ++ ys) e.4 ∙ append_assoc e.0 e.1 ys,
  )

  pub emissions_join : EmissionsJoin X F
  emissions_join = record { calls = calls; ends = emits_ends }

  -- a run of the hint machine
  abbrev Kept : Machine → List NamedStep → State → Type 0
  Kept m es s = IsRun m (hint_steps es) × Mirrors (machine_after m (hint_steps es)) s × WellFormed s

  abbrev MoveKept : Machine → List NamedStep → (Step × X) ⊎ Stop F → Type 0
  MoveKept m es (inl p) = Unit {0}
  MoveKept m es (inr p) = Kept m es p.1

  -- the last move, over its cases
  last_kept : (next : X → (Step × X) ⊎ F) (m : Machine) (s : State) (x : X) (es : List NamedStep) → Mirrors m s → WellFormed s → EmitsCalls s (last_calls next s x) es → MoveKept m es (move next s x)
  last_kept next m s x es t w em = let silent : Kept m [] s = (tt, t, w) in
      grind (arith, silent, calls_run_machine m s (closes ∷ []) es t w, λ (u : Step). calls_run_machine m s (checks u ∷ []) es t w)

  pub runs_run_machine : RunsRunMachine X F
  runs_run_machine next m s x [] answer r es t w run em = subst (MoveKept m es) run (last_kept next m s x es t w em)
  runs_run_machine next m s x (u ∷ us) answer r es t w run em =
      let k = calls_run_machine m s (checks u ∷ []) em.2 t w (em.2, [], em.4, refl, sym (append-nil em.2)) in
      let same = ap (λ p. p.1) (inl_same (u, em.0) (u, run.0) (sym em.1 ∙ run.1)) in
      let q = runs_run_machine next (machine_after m (hint_steps em.2)) (attempt s u).after run.0 us answer r em.3 k.1 k.2 run.2 (rw same at em.5) in
      rw (em.6, hints-append) (run-append m (hint_steps em.2) (hint_steps em.3) k.0 q.0, rw after-append q.1, q.2)
