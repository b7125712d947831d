-- Calls of a session: what each leaves of it, by its outcome.
--     IsAnswer a r      the numbers of the outcome
--     IsBegin, IsGive, IsDerive, IsDelete, IsFails, IsSatisfies      the session before and after, what was passed, and the outcome
use Rattle.std.specs.Prelude.{◌≡◌, ◌==◌, ℕ, ℤ, [], ◌∷◌, ◌++◌, List, Option, None, Some, Result, if◌then◌else◌, IfErr, OnErr, OnOk}
use Rattle.std.specs.Option.{option_map}
use Rattle.sat_rules.specs.Clauses.{has}
use Rattle.handles.specs.Numbers.{lits_of}
use Rattle.handles.specs.SessionAnswers.{cause_of, clause_of, status_of}
use Rattle.handles.specs.SessionCauses.{IsFault, Rejection, begin_cause, delete_cause, derive_cause, fails_cause, give_cause, satisfies_cause}
use Rattle.handles.specs.SessionHeld.{given_to, named_to, state_of}
use Rattle.handles.specs.declared.session_answer.SessionAnswer.{SessionAnswer}
use Rattle.handles.specs.declared.session_fault.HandleFault.{HandleFault}
use Rattle.handles.specs.declared.session.Session.{Session}

-- accepted, or the fault that ended the call
abbrev pub Outcome : Type 0
Outcome = Result (Unit {0}) HandleFault

-- the numbers of the outcome
abbrev pub IsAnswer : SessionAnswer → Outcome → Type 0
IsAnswer a r = (a.status ≡ status_of r) × (a.cause ≡ cause_of r) × (a.clause ≡ clause_of r)

-- accepted without a cause, or rejected for it, or memory ran out
abbrev pub IsJudged : Option Rejection → Outcome → Type 0
IsJudged cause r = OnOk r (cause ≡ None) × IfErr r (λ fault. IsFault fault cause)

-- nothing was given, and nothing has a name;  after an error all is as it was
abbrev pub IsBegin : Session → Session → Outcome → Type 0
IsBegin old new r = IsJudged (begin_cause (state_of old)) r
    × OnOk r (given_to new ≡ Some []) × OnOk r ((k : ℕ) → named_to new k ≡ None)
    × OnErr r (state_of new ≡ state_of old)

-- the clause was given, and has this id
abbrev pub IsGive : Session → Session → ℕ → List ℤ → Outcome → Type 0
IsGive old new i clause r = IsJudged (give_cause (state_of old) i clause) r
    × OnOk r (given_to new ≡ option_map (λ cs. cs ++ lits_of clause ∷ []) (given_to old))
    × OnOk r ((k : ℕ) → named_to new k ≡ (if k == i then Some (lits_of clause) else named_to old k))
    × OnErr r (given_to new ≡ given_to old) × OnErr r ((k : ℕ) → named_to new k ≡ named_to old k)

-- the lemma has this id
abbrev pub IsDerive : Session → Session → ℕ → List ℤ → List ℕ → Outcome → Type 0
IsDerive old new i lemma ids r = IsJudged (derive_cause (state_of old) i lemma ids) r
    × OnOk r ((k : ℕ) → named_to new k ≡ (if k == i then Some (lits_of lemma) else named_to old k))
    × OnErr r ((k : ℕ) → named_to new k ≡ named_to old k)

-- these ids name nothing
abbrev pub IsDelete : Session → Session → List ℕ → Outcome → Type 0
IsDelete old new ids r = IsJudged (delete_cause (state_of old)) r
    × ((k : ℕ) → named_to new k ≡ (if has k ids then None else named_to old k))

-- no id changes
abbrev pub IsFails : Session → Session → List ℤ → List ℤ → List ℕ → Outcome → Type 0
IsFails old new assumed core ids r = IsJudged (fails_cause (state_of old) assumed core ids) r
    × (named_to new ≡ named_to old)

-- no id changes
abbrev pub IsSatisfies : Session → Session → List ℤ → List ℤ → Outcome → Type 0
IsSatisfies old new assumed model r = IsJudged (satisfies_cause (state_of old) assumed model) r
    × (named_to new ≡ named_to old)
