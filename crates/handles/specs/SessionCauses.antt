-- Why a call changes nothing: each is accepted exactly if there is no cause.
--     Rejection      the causes
--     begin_cause, give_cause, derive_cause, delete_cause, fails_cause, satisfies_cause      of each call
--     fault_of fault      a fault of the checker
--     unread fault      a fault of the numbers
--     IsFault fault o      the call is rejected for the cause, or memory ran out
use Rattle.std.specs.Prelude.{◌≡◌, ℕ, ℤ, Bool, true, ◌&&◌, if◌then◌else◌, List, Option, Some, None}
use Rattle.std.specs.Option.{option_map}
use Rattle.handles.specs.Numbers.{are_lits, lits_of}
use Rattle.handles.specs.declared.lits.LitsFault.{LitsFault}
use Rattle.handles.specs.declared.lits.LitsFault.TheVariants as lits
use Rattle.session_checker.specs.Causes.{refusal_of}
use Rattle.session_checker.specs.Held.{given_by, named_by}
use Rattle.session_checker.specs.Refusals.{Refusal, core_cause, id_cause, lemma_cause, model_cause}
use Rattle.session_checker.specs.declared.checker.SessionChecker.{SessionChecker}
use Rattle.session_checker.specs.declared.fault.SessionFault.{SessionFault}
use Rattle.session_checker.specs.declared.fault.SessionFault.TheVariants as checker
use Rattle.handles.specs.declared.session_fault.HandleFault.{HandleFault}
use Rattle.handles.specs.declared.session_fault.HandleFault.TheVariants.{Begun, NoLit, NoSession, OutOfMemory, Refused}

-- there is no session;  there is one already;  a number is no literal;  a cause of the checker's rules
pub data Rejection : Type 0 where
  no_session begun no_lit : Rejection
  by_rule : Refusal → Rejection

-- first the session, then the numbers, then the rules
abbrev pub cause_in : Option SessionChecker → Bool → (SessionChecker → Option Refusal) → Option Rejection
cause_in None readable cause = Some no_session
cause_in (Some c) readable cause = if readable then option_map by_rule (cause c) else Some no_lit

-- there is a session already
abbrev pub begin_cause : Option SessionChecker → Option Rejection
begin_cause None = None
begin_cause (Some c) = Some begun

-- of a clause under an id
abbrev pub give_cause : Option SessionChecker → ℕ → List ℤ → Option Rejection
give_cause s i clause = cause_in s (are_lits clause) (λ c. id_cause (named_by c) i)

-- of a lemma along hints
abbrev pub derive_cause : Option SessionChecker → ℕ → List ℤ → List ℕ → Option Rejection
derive_cause s i lemma ids = cause_in s (are_lits lemma) (λ c. lemma_cause (named_by c) i (lits_of lemma) ids)

-- of a deletion
abbrev pub delete_cause : Option SessionChecker → Option Rejection
delete_cause s = cause_in s true (λ c. None)

-- of a core along hints
abbrev pub fails_cause : Option SessionChecker → List ℤ → List ℤ → List ℕ → Option Rejection
fails_cause s assumed core ids = cause_in s (are_lits assumed && are_lits core)
    (λ c. core_cause (named_by c) (lits_of assumed) (lits_of core) ids)

-- of a model
abbrev pub satisfies_cause : Option SessionChecker → List ℤ → List ℤ → Option Rejection
satisfies_cause s assumed model = cause_in s (are_lits assumed && are_lits model)
    (λ c. model_cause (given_by c) (lits_of assumed) (lits_of model))

-- a fault of the checker as one of the call
abbrev pub fault_of : SessionFault → HandleFault
fault_of (checker.Refused cause) = Refused cause
fault_of checker.OutOfMemory = OutOfMemory

-- a fault of the numbers as one of the call
abbrev pub unread : LitsFault → HandleFault
unread lits.NoLit = NoLit
unread lits.OutOfMemory = OutOfMemory

-- the call is rejected for the cause, or memory ran out
abbrev pub IsFault : HandleFault → Option Rejection → Type 0
IsFault NoSession o = o ≡ Some no_session
IsFault Begun o = o ≡ Some begun
IsFault NoLit o = o ≡ Some no_lit
IsFault (Refused cause) o = o ≡ Some (by_rule (refusal_of cause))
IsFault OutOfMemory o = Unit {0}
