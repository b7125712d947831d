-- A call over the parts of a checker, and what is recorded of its failure.
--     went-on, kept-on, gave-up      where it did not fail the checker, and where it did
--     where-accepted      what holds where it accepted
--     unless-always, unless-bind      what holds unless it did
--     unless-moved, after-parts      the same of the state after the call, which records where it gave up
--     entails-call, entails-on      after one call over parts, and where the checker did not fail at it
--     proof-run      a run over parts as one of the checker, which continues after it or fails
use Rattle.std.proofs.Common.{◌≡◌, Bool, true, false, None, Result, Ok, Err, OnOk, arith, ℕ, List, Option}
use Rattle.varisat_checker.proofs.Common.{Call, adds, answer_of, checks, closes, EntailsRedundant, Outcome, State, add_clause, AnswersParts}
use Rattle.varisat_checker.proofs.Common.{AnswersStep, UnlessFailed, UnlessGivenUp, ending, CheckerError, unless_failed, Listeners, Listens}
use Rattle.varisat_checker.proofs.Common.{ListensImage, PartsRun, ProofRun}
use Rattle.checker_steps.specs.Failing.{has_failed}
use Rattle.checker_rules.proofs.Keeping.{step_keeps}
use Rattle.checker_rules.proofs.WholeRuns.{close_keeps, keeps_attempt}

abbrev pub Answer : Type 0
Answer = Result (Unit {0}) CheckerError

abbrev pub ok_answer : Answer
ok_answer = Ok tt

abbrev pub err_answer : CheckerError → Answer
err_answer e = Err e

-- whether it has failed the checker is tested in between
pub went-on : (r : Answer) (o : Outcome) (s' : State) {b : Bool} → b ≡ has_failed r → b ≡ false → AnswersParts r o s' → AnswersStep r o s'
went-on r o s' e h a = grind arith

pub kept-on : {P : Type 0} (r : Answer) {b : Bool} → b ≡ has_failed r → b ≡ false → UnlessFailed r P → P
kept-on r e h p = grind arith

pub gave-up : (r : Answer) (s' u : State) {b : Bool} → b ≡ has_failed r → b ≡ true → has_failed r ≡ false → u ≡ s'
gave-up r s' u e h on = absurd cc

-- what follows where it accepted
pub where-accepted : {P : Type 0} (r : Answer) (o : Outcome) (u : State) → (o.refused ≡ None → P) → AnswersStep r o u → OnOk r P
where-accepted (Ok done) o u f h = f h.0
where-accepted (Err e) o u f h = tt

-- what always holds
pub unless-always : {P : Type 0} (r : Answer) → P → UnlessFailed r P
unless-always r p = grind arith

-- what follows where it did not give up
pub unless-bind : {P : Type 0} (r : Answer) (Q : Type 0) → (P → UnlessFailed r Q) → UnlessGivenUp (ending r) P → UnlessFailed r Q
unless-bind r Q f p = grind arith

pub unless-moved : (P : State → Type 0) (r : Answer) (s' u : State) → (has_failed r ≡ false → u ≡ s') → UnlessFailed r (P s') → UnlessFailed r (P u)
unless-moved P r s' u same p = grind arith

pub after-parts : (P : State → Type 0) (r : Answer) (o : Outcome) (s' u : State) → AnswersParts r o s' → (has_failed r ≡ false → u ≡ s') → P o.after
    → UnlessFailed r (P u)
after-parts P r o s' u h same p = unless-moved P r s' u same (unless-bind r (P s') (unless_failed P o p r s') h)

-- ---- where the redundant clauses are entailed, they are entailed after calls

after-call : (s : State) (call : Call) → EntailsRedundant s → EntailsRedundant (answer_of s call).after
after-call s (adds c) good = (step_keeps s (add_clause c) good).0
after-call s (checks s') good = (keeps_attempt s s' good).0
after-call s closes good = (close_keeps s good).0

module _ (s : State) (good : EntailsRedundant s) (call : Call) (r : Answer) (u : State) where
  pub entails-call : AnswersStep r (answer_of s call) u → UnlessFailed r (EntailsRedundant u)
  entails-call h = unless_failed (λ (w : State). EntailsRedundant w) _ (after-call s call good) r u h

  -- the same where the checker continues after it
  pub entails-on : {b : Bool} → b ≡ has_failed r → b ≡ false → AnswersParts r (answer_of s call) u → EntailsRedundant u
  entails-on e on h = kept-on r e on (entails-call (went-on r (answer_of s call) u e on h))

-- the entailment is the checker's own, and of the state after a failure nothing is said
pub proof-run : {P T : Type 0} {listens : Listens P} {listens_image : ListensImage T}
    {known : Option (List ℕ)} {s : State} {r : Answer} {s' u : State} {old new : Listeners P T} → EntailsRedundant s → (has_failed r ≡ false → u ≡ s') →
    PartsRun known s r s' listens listens_image old new → ProofRun known s r u listens listens_image old new
proof-run h k p = grind (arith, unless-moved)
