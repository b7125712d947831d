-- The steps on user names and modes, part by part. Each is stated over the state r in which the variable is known.
use Rattle.std.proofs.Common.{◌≡◌, ℕ, suc, Bool, true, false, cond, List, [], ◌∷◌, Option, None, Some, is_none, is_some, ap, arith}
use Rattle.sat_formula.specs.declared.lit.Var.{Var}
use Rattle.checker_steps.proofs.Common.{NamedStep, checked_user_var, named_in, Emits, is_sample, know, known_of}
use Rattle.checker_steps.proofs.Common.{set_known, Cause, Outcome, accept, no_name_to_remove, refuse}
use Rattle.checker_steps.proofs.Common.{Known, State, hide, sample, witness, change_sampling_mode, user_var_name, step}
use Rattle.checker_steps.proofs.Common.{step-change_sampling_mode, step-user_var_name, indexes_of}
use Rattle.checker_steps.specs.Naming.{changed_name, in_mode, mode_cause, naming_cause}
use Rattle.checker_steps.proofs.AddClauseLemmas.{by_cause}
use Rattle.checker_steps.proofs.EmissionLemmas.{emits-accepted}

-- the state with the variable named
abbrev pub named : ℕ → ℕ → State → State
named x u r = set_known x (record { name = Some u; mode = (known_of r x).mode }) r

-- the state with the variable hidden
abbrev pub hidden : ℕ → State → State
hidden x r = set_known x (record { name = None; mode = hide }) r

name-step : (s r : State) (x u : ℕ) (cause : Option Cause) → r ≡ know (suc x) s → naming_cause r.known x u ≡ cause →
    step s (user_var_name x (Some u)) ≡ by_cause cause r (accept (named x u r))
name-step s r x u cause e h = grind (arith, step-user_var_name)

pub name-refused : (s r : State) (x u : ℕ) (cause : Cause) → r ≡ know (suc x) s → naming_cause r.known x u ≡ Some cause → step s (user_var_name x (Some u)) ≡ refuse cause r
name-refused s r x u cause e h = name-step s r x u (Some cause) e h

pub name-given : (s r : State) (x u : ℕ) → r ≡ know (suc x) s → naming_cause r.known x u ≡ None → step s (user_var_name x (Some u)) ≡ accept (named x u r)
name-given s r x u e h = name-step s r x u None e h

-- a name that is given, with the names that are shown with it
abbrev pub name_shown : ℕ → ℕ → Bool → List Known → NamedStep
name_shown x u samples names = record { step = checked_user_var x (Some (record { user_var = u; samples = samples; new_var = true })); names = names }

pub emits-name : (s r : State) (x u : ℕ) (samples : Bool) (names : List Known) → r ≡ know (suc x) s → naming_cause r.known x u ≡ None →
    samples ≡ is_sample (known_of r x).mode → names ≡ (named x u r).known
    → Emits s (user_var_name x (Some u)) (name_shown x u samples names ∷ [])
emits-name s r x u samples names e h mode is = grind (arith, name-step, step-user_var_name, emits-accepted)

remove-step : (s r : State) (x : ℕ) (none : Bool) → r ≡ know (suc x) s → is_none (known_of r x).name ≡ none →
    step s (user_var_name x None) ≡ cond none (refuse no_name_to_remove r) (accept (hidden x r))
remove-step s r x none e h = rw (← h, e) (step-user_var_name s x None)

pub remove-refused : (s r : State) (x : ℕ) → r ≡ know (suc x) s → is_none (known_of r x).name ≡ true → step s (user_var_name x None) ≡ refuse no_name_to_remove r
remove-refused s r x e h = remove-step s r x true e h

pub name-removed : (s r : State) (x : ℕ) → r ≡ know (suc x) s → is_none (known_of r x).name ≡ false → step s (user_var_name x None) ≡ accept (hidden x r)
name-removed s r x e h = remove-step s r x false e h

-- a removal shows the names before it
pub emits-removal : (s r : State) (x : ℕ) → r ≡ know (suc x) s → is_none (known_of r x).name ≡ false → Emits s (user_var_name x None) (named_in r (checked_user_var x None) ∷ [])
emits-removal s r x e h = emits-accepted s (user_var_name x None) _ (ap (λ (y : Outcome). y.refused) (name-removed s r x e h)) (ap (λ (y : State). named_in y (checked_user_var x None) ∷ []) e)

pub is_none-unnamed : (o : Option Var) → is_some o ≡ false → is_none (indexes_of o) ≡ true
is_none-unnamed o h = grind arith

pub is_none-named : (o : Option Var) → is_some o ≡ true → is_none (indexes_of o) ≡ false
is_none-named o h = grind arith

mode-step : (s r : State) (x : ℕ) (to_sample : Bool) (cause : Option Cause) → r ≡ know (suc x) s → mode_cause r.known x to_sample ≡ cause →
    step s (change_sampling_mode x to_sample) ≡ by_cause cause r (accept (record r { known = in_mode r.known x to_sample }))
mode-step s r x to_sample cause e h = grind (arith, step-change_sampling_mode)

pub mode-refused : (s r : State) (x : ℕ) (to_sample : Bool) (cause : Cause) → r ≡ know (suc x) s →
    mode_cause r.known x to_sample ≡ Some cause → step s (change_sampling_mode x to_sample) ≡ refuse cause r
mode-refused s r x to_sample cause e h = mode-step s r x to_sample (Some cause) e h

pub mode-changed : (s r : State) (x : ℕ) (to_sample : Bool) → r ≡ know (suc x) s → mode_cause r.known x to_sample ≡ None →
    step s (change_sampling_mode x to_sample) ≡ accept (record r { known = in_mode r.known x to_sample })
mode-changed s r x to_sample e h = mode-step s r x to_sample None e h

-- a change that is shown, or none, with the names that are shown with it
abbrev pub change_shown : ℕ → Bool → Option ℕ → List Known → List NamedStep
change_shown x samples None names = []
change_shown x samples (Some u) names = record { step = checked_user_var x (Some (record { user_var = u; samples = samples; new_var = false })); names = names } ∷ []

pub emits-change : (s r : State) (x : ℕ) (to_sample samples : Bool) (name : Option ℕ) (names : List Known) → r ≡ know (suc x) s →
    mode_cause r.known x to_sample ≡ None → names ≡ in_mode r.known x to_sample → name ≡ changed_name r.known x to_sample →
    samples ≡ to_sample
    → Emits s (change_sampling_mode x to_sample) (change_shown x samples name names)
emits-change s r x to_sample samples name names e h is shown same = grind (arith, mode-changed, step-change_sampling_mode, emits-accepted)

pub is_sample-asked : (to_sample : Bool) → is_sample (cond to_sample sample witness) ≡ to_sample
is_sample-asked to_sample = grind arith
