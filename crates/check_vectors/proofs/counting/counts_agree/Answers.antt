use Rattle.std.proofs.Common.{◌≡◌, ◌⊎◌, ℕ, Bool, true, false, List, [], ◌∷◌, ◌++◌, length, Option, Some, None, inl, inr, sym, ap, ◌∙◌, subst, length-append, arith}
use Rattle.sat_rules.specs.Clauses.{is_tautology}
use Rattle.checker_rules.specs.CallEmissions.{EmitsCall, EmitsCalls}
use Rattle.checker_rules.specs.Calls.{Call, adds, answer_of, attempt, checks, closes, count_step}
use Rattle.checker_rules.specs.Canonical.{canonical}
use Rattle.checker_rules.specs.Check.{ready}
use Rattle.checker_rules.specs.CheckedSteps.{NamedStep}
use Rattle.checker_rules.specs.Emits.{Emits, EmitsAccepted, EmitsCoreBy, EmitsDerived, EmitsDerivedBy, EmitsRefused, EmitsThen, EmitsUnits}
use Rattle.checker_rules.specs.Outcome.{Cause}
use Rattle.checker_rules.specs.Run.{Runs, Stop, move}
use Rattle.checker_rules.specs.RunEmissions.{EmitsRun, last_calls}
use Rattle.checker_rules.specs.State.{State}
use Rattle.checker_rules.specs.Step.{Step, add_clause, at_clause}
use Rattle.checker_rules.specs.Step.{failed_assumptions, unit_clauses}
use Rattle.checker_rules.specs.Store.{stands}
use Rattle.checker_rules.specs.UnitClauses.{step_unit}
use Rattle.checker_rules.proofs.WholeRuns.{runs_agree}
use Rattle.proof_bytes.specs.Reading.{Fault}
use Rattle.proof_bytes.specs.Texts.{Place, next_of, start_of}
use Rattle.check_vectors.specs.Counts.{filled}
use Rattle.check_vectors.proofs.counting.counts_agree.Goals as goal

-- lists that may be emitted have one length
abbrev OneLength : (List NamedStep → Type 0) → Type 0
OneLength E = (es fs : List NamedStep) → E es → E fs → length es ≡ length fs

-- one list alone
alone : (all : List NamedStep) → OneLength (λ es. es ≡ all)
alone all es fs h k = ap length (h ∙ sym k)

-- a first list and the rest
joined : (E F : List NamedStep → Type 0) → OneLength E → OneLength F → OneLength (λ es. (xs : List NamedStep) × (ys : List NamedStep) × E xs × F ys × (es ≡ xs ++ ys))
joined E F one two es fs h k =
    let a = one h.0 k.0 h.2 k.2 in
    let b = two h.1 k.1 h.3 k.3 in
    let c = ap length h.4 ∙ length-append h.0 h.1 in
    let d = ap length k.4 ∙ length-append k.0 k.1 in
    omega arith

derived : (b : Bool) (s : State) (redundant : Bool) (c : List ℕ) → OneLength (EmitsDerivedBy b s redundant c)
derived true s redundant c = alone _
derived false s redundant c = λ es fs h k. ap length h.2 ∙ sym (ap length k.2)

core : (b : Bool) (s : State) (c : List ℕ) → OneLength (EmitsCoreBy b s c)
core true s c = alone _
core false s c = λ es fs h k. ap length h.2 ∙ sym (ap length k.2)

up_to_refusal : (o : Option Cause) (E F : List NamedStep → Type 0) → OneLength E → OneLength F → OneLength (EmitsThen o E F)
up_to_refusal None E F one two = joined E F one two
up_to_refusal (Some cause) E F one two = alone []

units : (s : State) (ps : List (ℕ × ℕ)) → OneLength (EmitsUnits s ps)
units s [] = alone []
units s (p ∷ ps) =
    let r = ready s (p.0 ∷ []) in
    up_to_refusal (step_unit s p).refused (EmitsDerived r false (p.0 ∷ [])) (EmitsUnits (step_unit s p).after ps) (derived (stands (p.0 ∷ []) r) r false (p.0 ∷ [])) (units (step_unit s p).after ps)

accepted : (s : State) (t : Step) → OneLength (EmitsAccepted s t)
accepted s (at_clause r c hs) = derived (stands (canonical c) (ready s (canonical c))) (ready s (canonical c)) r (canonical c)
accepted s (unit_clauses us) = units s us
accepted s (failed_assumptions c hs) = core (is_tautology (canonical c)) s (canonical c)
accepted s _ = alone _

refused : (s : State) (t : Step) → OneLength (EmitsRefused s t)
refused s (unit_clauses us) = units s us
refused s _ = alone _

of_step : (s : State) (t : Step) → OneLength (Emits s t)
of_step s t es fs h k = grind (arith, h, k, accepted s t es fs, refused s t es fs)

of_call : (s : State) (call : Call) → OneLength (EmitsCall s call)
of_call s (adds c) = of_step s (add_clause c)
of_call s (checks t) = λ es fs h k. grind (arith, h, k, of_step (count_step s) t es fs)
of_call s closes = alone _

of_calls : (s : State) (calls : List Call) → OneLength (EmitsCalls s calls)
of_calls s [] = alone []
of_calls s (call ∷ calls) = joined _ _ (of_call s call) (of_calls (answer_of s call).after calls)

-- the rest after a step
rest_of : Place → (Step × Place) ⊎ Stop Fault → Place
rest_of x (inl p) = p.1
rest_of x (inr stop) = x

same_rest : (t : Step) (x y : Place) (m : (Step × Place) ⊎ Stop Fault) → m ≡ inl (t, x) → m ≡ inl (t, y) → x ≡ y
unfolding rest_of
same_rest t x y m h k = ap (rest_of x) (sym h ∙ k)

of_run : (s : State) (x : Place) (ts : List Step) → OneLength (EmitsRun next_of s x ts)
of_run s x [] = of_calls s (last_calls next_of s x)
of_run s x (t ∷ ts) = λ es fs h k.
    let rest = same_rest t h.0 k.0 (move next_of s x) h.1 k.1 in
    let emitted = subst (λ y. EmitsRun next_of (attempt s t).after y ts h.3) rest h.5 in
    joined (EmitsCall s (checks t)) (EmitsRun next_of (attempt s t).after k.0 ts) (of_call s (checks t)) (of_run (attempt s t).after k.0 ts)
    es fs (h.2, h.3, h.4, emitted, h.6) (k.2, k.3, k.4, k.5, k.6)

pub returns : goal.returns
returns c text clauses n m a b =
    let texts : a.run.text ≡ b.run.text = sym a.run.is_text ∙ b.run.is_text in
    let again = subst (λ x. Runs next_of (filled clauses) (start_of x) a.steps None a.last) texts a.run.runs in
    let steps = (runs_agree _ _ next_of (filled clauses) (start_of b.run.text) a.steps b.steps None None a.last b.last again b.run.runs).0 in
    let emitted = subst (λ ts. EmitsRun next_of (filled clauses) (start_of b.run.text) ts a.of_proof) steps
    (subst (λ x. EmitsRun next_of (filled clauses) (start_of x) a.steps a.of_proof) texts a.proof_emits) in
    let first = of_calls _ _ a.of_clauses b.of_clauses a.clauses_emit b.clauses_emit in
    let second = of_run (filled clauses) (start_of b.run.text) b.steps a.of_proof b.of_proof emitted b.proof_emits in
    let one = a.count in
    let two = b.count in
    omega arith
