-- Where a checker stands: the lines that it has accepted after a formula's clauses, and what it holds.
--     has_failed c, has_refuted c      a line was not accepted;  the empty clause is the formula's, or a line added it
--     HoldsFormula formula f      the clauses of the formula were given, and no other
--     lacks_clause f      a clause that was given was not taken
--     HasAccepted formula lines c      the lines were accepted, and whether they refute the formula is known
--     IsReady formula lines c      and the checker holds what is stored after them
--     IsAnswer formula lines line fault      the fault of a line after them
--     HoldsLittle c      the clauses take little room that no clause uses
use Rattle.std.specs.Prelude.{◌≡◌, ℕ, Bool, false, List, length, Some}
use Rattle.sat_rules.specs.Named.{Item}
use Rattle.lrat_rules.specs.Lines.{Line, has_empty, is_refuted, run}
use Rattle.lrat_rules.specs.Refusals.{cause_of_line}
use Rattle.lrat_rules.specs.Stores.{formula_store}
use Rattle.lrat_rules.specs.Tables.{IsTableOf, formula_table}
use Rattle.lrat_checker.specs.Causes.{cause_of}
use Rattle.lrat_checker.specs.Held.{table_of}
use Rattle.clause_table.specs.Named.{TakesLittle}
use Rattle.lrat_checker.specs.declared.checker.LratChecker.{LratChecker}
use Rattle.lrat_checker.specs.declared.formula.LratFormula.{LratFormula}
use Rattle.lrat_checker.specs.declared.fault.LineFault.{LineFault}
use Rattle.lrat_checker.specs.declared.fault.LineFault.TheVariants.{Failed, OutOfMemory, Refused}

-- the clauses were given in this order, and it is known whether one is empty
pub record HoldsFormula (formula : List (List ℕ)) (f : LratFormula) : Type 0 where
  pub table : table_of f.clauses ≡ formula_table formula
  pub count : f.given ≡ length formula
  pub empty : f.has_empty ≡ has_empty formula
  pub tight : TakesLittle f.clauses.named
  pub going : f.failed ≡ false

-- a clause was not taken, so that no line may be accepted
abbrev pub lacks_clause : LratFormula → Bool
lacks_clause f = f.failed

-- a line was not accepted
abbrev pub has_failed : LratChecker → Bool
has_failed c = c.failed

-- the empty clause is one of the formula's, or a line added it
abbrev pub has_refuted : LratChecker → Bool
has_refuted c = c.refuted

-- the lines are accepted after the formula's clauses, and it is known whether these or one of the lines are the empty clause
pub record HasAccepted (formula : List (List ℕ)) (lines : List Line) (c : LratChecker) : Type 0
  where
    pub store : List Item
    pub ran : run (formula_store formula) lines ≡ Some store
    pub refuted : has_refuted c ≡ is_refuted formula lines

-- and no line was refused, and the checker holds what is stored
pub record IsReady (formula : List (List ℕ)) (lines : List Line) (c : LratChecker) : Type 0 where
  pub accepted : HasAccepted formula lines c
  pub table : IsTableOf (table_of c.clauses) accepted.store
  pub going : has_failed c ≡ false

-- the fault of a line after these: its cause by the rules, or out of memory
abbrev pub IsAnswer : List (List ℕ) → List Line → Line → LineFault → Type 0
IsAnswer formula lines line (Refused cause) = (store : List Item) →
    run (formula_store formula) lines ≡ Some store →
    cause_of_line store line ≡ Some (cause_of cause)
IsAnswer formula lines line OutOfMemory = Unit {0}
IsAnswer formula lines line Failed = ⊥

-- the clauses take little room that no clause uses
abbrev pub HoldsLittle : LratChecker → Type 0
HoldsLittle c = TakesLittle c.clauses.named
