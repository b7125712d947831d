-- One line more after those that a checker has accepted.
use Rattle.std.proofs.Common.{arith, ◌≡◌, ℕ, Bool, false, cond, ◌||◌, List, [], ◌∷◌, ◌++◌, Some, None, sym, ap, ◌∙◌, subst}
use Rattle.std.proofs.Math.Bool.{or-false}
use Rattle.sat_rules.specs.Named.{Item}
use Rattle.sat_rules.proofs.HintLineFacts.{some-same}
use Rattle.lrat_rules.specs.Lines.{Line, adds_empty, after, is_refuted, refutes, run, step, then_run, then_test}
use Rattle.lrat_rules.specs.Refusals.{cause_of_line}
use Rattle.lrat_rules.specs.Stores.{formula_store}
use Rattle.lrat_rules.specs.Tables.{IsTableOf, Table, cause_by_table, table_after}
use Rattle.lrat_rules.proofs.Refusing.{causes_exact}
use Rattle.lrat_rules.proofs.Running.{runs_join}
use Rattle.lrat_rules.proofs.Tabling.{tables_decide}
use Rattle.lrat_checker.specs.Causes.{IsCause, cause_of}
use Rattle.lrat_checker.specs.Faults.{fault_of}
use Rattle.lrat_checker.specs.Standing.{IsAnswer}
use Rattle.lrat_checker.specs.declared.fault.Stop.{Stop}
use Rattle.lrat_checker.specs.declared.fault.Stop.TheVariants.{OutOfMemory, Refused}

pub or_assoc : (a b c : Bool) → (a || (b || c)) ≡ ((a || b) || c)
or_assoc a b c = grind arith

module _ (formula : List (List ℕ)) (lines : List Line) (st : List Item) (t : Table) (l : Line) (ran : run (formula_store formula) lines ≡ Some st) (table : IsTableOf t st) where
  -- an accepted line
  module _ (ok : cause_by_table t l ≡ None) where
    no_cause : cause_of_line st l ≡ None
    no_cause = sym (tables_decide.cause t st table l) ∙ ok

    accepted : step st l ≡ Some (after st l)
    accepted = ap (λ b. cond b (Some (after st l)) None) ((causes_exact st l).0 no_cause)

    pub ran_more : run (formula_store formula) (lines ++ l ∷ []) ≡ Some (after st l)
    ran_more = runs_join.run_on (formula_store formula) st lines (l ∷ []) ran ∙ ap (λ o. then_run o (λ su. Some su)) accepted

    refutes_on : refutes (formula_store formula) (lines ++ l ∷ []) ≡ (refutes (formula_store formula) lines || adds_empty l)
    refutes_on = runs_join.refutes_on (formula_store formula) st lines (l ∷ []) ran
        ∙ ap (λ o. refutes (formula_store formula) lines || then_test o (λ su. adds_empty l || false)) accepted
        ∙ ap (λ b. refutes (formula_store formula) lines || b) (or-false (adds_empty l))

    pub refutes_more : is_refuted formula (lines ++ l ∷ []) ≡ (is_refuted formula lines || adds_empty l)
    refutes_more = grind (arith, refutes_on)

    pub table_more : IsTableOf (table_after t l) (after st l)
    table_more = tables_decide.after t st table l no_cause

  -- a refused one
  pub answers : (stop : Stop) → IsCause stop (cause_by_table t l) → IsAnswer formula lines l (fault_of stop)
  answers (Refused cause) e = λ su r. subst (λ x. cause_of_line x l ≡ Some (cause_of cause)) (some-same st su (sym ran ∙ r)) (sym (tables_decide.cause t st table l) ∙ e)
  answers OutOfMemory e = tt
