-- What is known of a formula and claims by the literals of an answer.
use Rattle.std.proofs.Common.{◌≡◌, ℕ, Bool, List, Option, Some, None, subst}
use mathlib.Core.Path.{fun_ext}
use Rattle.answer_text.specs.declared.literals.Literals.{Literals}
use Rattle.answer_text.specs.Literals.{has_lit, listed}
use Rattle.answer_text.specs.Reading.{ListsThe}
use Rattle.model_check.specs.Verdicts as models
use Rattle.model_check.specs.declared.verdict.Verdict.{Verdict as Judgment}
use Rattle.model_check.specs.declared.whole.CutFormula.{CutFormula}
use Rattle.follows_check.specs.Answers.{IsJudged}
use Rattle.follows_check.specs.Questions.{FailsClaims}
use Rattle.follows_check.specs.Runs.{IsAnswered, IsUnread, OfAnswer, verdict_of}
use Rattle.follows_check.specs.declared.failing.Failing.{Failing}
use Rattle.follows_check.specs.declared.fault.QuestionFault.{QuestionFault}
use Rattle.follows_check.specs.declared.fault.QuestionFault.TheVariants.{Formula, Claims, FewClaims, NoClaim, ManyVariables, OutOfMemory}
use Rattle.follows_check.specs.declared.verdict.Verdict.{Verdict}

-- what was found of a formula, by the list of the literals
judged_by : (cnf answer : Option (List ℕ)) (table : Literals) (judgment : Judgment) (cut is : Option CutFormula) → cut ≡ is → (r : ListsThe answer table) → models.IsJudged cnf (has_lit table) judgment cut
    → models.IsJudged cnf (listed r.lits) judgment is
judged_by cnf answer table judgment cut is e r h =
    subst (λ (s : ℕ → Bool). models.IsJudged cnf s judgment is) (fun_ext r.has) (subst (λ (k : Option CutFormula). models.IsJudged cnf (has_lit table) judgment k) e h)

pub cut_answered : (cnf answer : Option (List ℕ)) (table : Literals) (judgment : Judgment) (cut : Option CutFormula) (k : CutFormula) → cut ≡ Some k → ListsThe answer table
    → models.IsJudged cnf (has_lit table) judgment cut → OfAnswer answer (λ lits. (v : Judgment) × models.IsJudged cnf (listed lits) v (Some k))
cut_answered cnf answer table judgment cut k e r h =
    record { lits = r.lits; lists = r.said; apart = r.apart; holds = (judgment, judged_by cnf answer table judgment cut (Some k) e r h) }

unread : (cnf claims : Option (List ℕ)) (lits : List ℕ) (judgment : Judgment) → models.IsJudged cnf (listed lits) judgment None → (fault : QuestionFault) → FailsClaims claims fault → IsUnread cnf claims fault lits
unread cnf claims lits judgment f (Formula fault) h = absurd h
unread cnf claims lits judgment f (Claims fault) h = record { judgment = judgment; formula = f; fails = h }
unread cnf claims lits judgment f FewClaims h = record { judgment = judgment; formula = f; fails = h }
unread cnf claims lits judgment f NoClaim h = record { judgment = judgment; formula = f; fails = h }
unread cnf claims lits judgment f ManyVariables h = h
unread cnf claims lits judgment f OutOfMemory h = h

pub unclaimed : (cnf claims answer : Option (List ℕ)) (table : Literals) (judgment : Judgment) (cut : Option CutFormula) → cut ≡ None → ListsThe answer table
    → models.IsJudged cnf (has_lit table) judgment cut → (fault : QuestionFault) → FailsClaims claims fault → OfAnswer answer (IsUnread cnf claims fault)
unclaimed cnf claims answer table judgment cut e r h fault fails =
    record { lits = r.lits; lists = r.said; apart = r.apart; holds = unread cnf claims r.lits judgment (judged_by cnf answer table judgment cut None e r h) fault fails }

pub answered : (cnf claims answer : Option (List ℕ)) (table : Literals) (judgment : Judgment) (cut : Option CutFormula) (failing : Option Failing) (verdict : Verdict) → cut ≡ None → ListsThe answer table
    → models.IsJudged cnf (has_lit table) judgment cut → IsJudged claims (has_lit table) failing → verdict ≡ verdict_of judgment failing → OfAnswer answer (IsAnswered cnf claims verdict)
answered cnf claims answer table judgment cut failing verdict e r h found is = record {
  lits = r.lits;
  lists = r.said;
  apart = r.apart;
  holds = record {
    judgment = judgment;
    formula = judged_by cnf answer table judgment cut None e r h;
    failing = failing;
    claimed = subst (λ (s : ℕ → Bool). IsJudged claims s failing) (fun_ext r.has) found;
    is = is;
  };
}
