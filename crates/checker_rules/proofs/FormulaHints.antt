-- What adding a formula emits, and the ids that runs put.
use Rattle.std.proofs.Common.{◌≡◌, ◌≤◌, ℕ, suc, ◌+◌, true, false, leb, List, [], ◌∷◌, map, take, Some, None, refl, ap, ◌∙◌, arith, Option, Bool}
use Rattle.std.proofs.lemmas.Bool.{and_from, le-leb}
use Rattle.sat_rules.specs.Named.{Machine, drop_id, put_id}
use Rattle.checker_rules.specs.AddFormula.{added, added_by}
use Rattle.checker_rules.specs.CallEmissions.{EmitsCalls}
use Rattle.checker_rules.specs.Calls.{adds}
use Rattle.checker_rules.specs.Canonical.{canonical}
use Rattle.checker_rules.specs.CheckedSteps.{NamedStep, hint_steps}
use Rattle.checker_rules.specs.Emits.{EmitsAccepted}
use Rattle.checker_rules.specs.FormulaEmissions.{FormulasEmit, input_steps}
use Rattle.checker_rules.specs.Headline.{run}
use Rattle.checker_rules.specs.HintRun.{HintStep, IsRun, PutIdsRise, fails_core, lowers, put_ids, puts_derived, puts_input, removes, rise_from}
use Rattle.checker_rules.specs.Outcome.{Cause, accept}
use Rattle.checker_rules.specs.State.{State}
use Rattle.checker_rules.specs.Step.{add_clause}
use Rattle.checker_rules.specs.Steps.{step}
use Rattle.checker_rules.proofs.DeletedVars.{hints-append}
use Rattle.checker_rules.proofs.EmittedSteps.{add_hints}
use Rattle.checker_rules.proofs.Inputs.{takes_input}

-- ids
put_rise : (m : Machine) (low : ℕ) (es : List HintStep) → low ≤ m.above → IsRun m es → rise_from low (put_ids es) ≡ true
put_rise m low [] h run = refl
put_rise m low (puts_input i c ∷ es) h run = and_from (leb low i) _ (le-leb low i (let k = run.0 in omega arith)) (put_rise (put_id i c m) (suc i) es (omega arith) run.1)
put_rise m low (puts_derived i c ids ∷ es) h run = and_from (leb low i) _ (le-leb low i (let k = run.0.0 in omega arith)) (put_rise (put_id i c m) (suc i) es (omega arith) run.1)
put_rise m low (removes i ∷ es) h run = put_rise (drop_id i m) low es h run.1
put_rise m low (lowers i true c ids ∷ es) h run = put_rise m low es h run.1
put_rise m low (lowers i false c ids ∷ es) h run = put_rise (drop_id i m) low es h run.1
put_rise m low (fails_core c ids ∷ es) h run = put_rise m low es h run.1

pub put_ids_rise : PutIdsRise
put_ids_rise m es run = put_rise m m.above es (omega arith) run

-- an accepted input clause, unless `unsat` is recorded
adds_one : (s : State) (c : List ℕ) → (step s (add_clause c)).refused ≡ None → s.unsat ≡ false → (step s (add_clause c)).after.next ≡ s.next + 1
unfolding step
adds_one s c h u = grind (arith, takes_input)

stays_unsat : (s : State) (c : List ℕ) → s.unsat ≡ true → step s (add_clause c) ≡ accept s
unfolding step
stays_unsat s list u = grind arith

-- nothing more once `unsat` is recorded
silent : (s : State) (cs : List (List ℕ)) (es : List NamedStep) → s.unsat ≡ true → EmitsCalls s (map adds cs) es → hint_steps es ≡ []
silent s [] es u em = ap hint_steps em
silent s (c ∷ cs) es u em =
    let same = stays_unsat s c u in
    let first : EmitsAccepted s (add_clause c) em.0 = rw same at em.2 in
    let rest = silent (step s (add_clause c)).after cs em.1 (ap (λ o. o.after.unsat) same ∙ u) em.3 in
    let all = hints-append em.0 em.1 in
    let one = add_hints s (canonical c) in grind arith

abbrev InputSteps : State → List (List ℕ) → List NamedStep → Type 0
InputSteps s cs es = (n : ℕ) × (hint_steps es ≡ input_steps s.next (take n cs))

pub formulas_emit : FormulasEmit
formulas_emit s [] es em = (0, ap hint_steps em)
formulas_emit s (c ∷ cs) es em = go (step s (add_clause c)).refused s.unsat refl refl em (λ xs h. formulas_emit (step s (add_clause c)).after cs xs h)
  where
    later : List (List ℕ)
    later = added (step s (add_clause c)).after cs

    go : (x : Option Cause) (b : Bool) → (step s (add_clause c)).refused ≡ x → s.unsat ≡ b → EmitsCalls s (map adds (added_by x c later)) es →
        ((xs : List NamedStep) → EmitsCalls (step s (add_clause c)).after (map adds later) xs → InputSteps (step s (add_clause c)).after cs xs) → InputSteps s (c ∷ cs) es
    go (Some cause) b h u m rec = (0, ap hint_steps m)
    go None true h u m rec = (0, silent s (c ∷ later) es u m)
    go None false h u m rec =
        let q = rec m.1 m.3 in
        let next = adds_one s c h u in
        let all = hints-append m.0 m.1 in
        let first : EmitsAccepted s (add_clause c) m.0 = rw h at m.2 in
        let one = add_hints s (canonical c) in
        let e = q.1 in (suc q.0, grind arith)
