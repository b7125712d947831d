-- Verdicts, a clause after the other.
use Rattle.std.proofs.Common.{◌≡◌, ℕ, Bool, List, [], ◌∷◌, ◌++◌, length, Option, Some, None, ap, ◌∙◌, append_assoc, subst}
use mathlib.Core.Path.{fun_ext}
use Rattle.answer_text.specs.declared.literals.Literals.{Literals}
use Rattle.answer_text.specs.Literals.{has_lit}
use Rattle.answer_text.specs.Reading as reading
use Rattle.model_check.specs.declared.verdict.Verdict.{Verdict}
use Rattle.model_check.specs.declared.verdict.Verdict.TheVariants.{Verified}
use Rattle.model_check.specs.Models.{IsSatisfiedBy}
use Rattle.model_check.specs.Runs.{IsShown}
use Rattle.model_check.specs.Verdicts.{IsFirstUnmet, IsJudged, IsLineOf}
use Rattle.model_check.specs.Wholeness.{cut_of}
use Rattle.model_check.specs.declared.whole.CutFormula.{CutFormula}
use Rattle.sat_formula.specs.Notes.{Notes}
use Rattle.model_check.proofs.ModelLemmas.{met_clauses_are_satisfied}

-- one more clause after it
pub still_first : (s : ℕ → Bool) (cs : List (List ℕ)) (c : List ℕ) (n : ℕ) → IsFirstUnmet s cs n → IsFirstUnmet s (cs ++ c ∷ []) n
still_first s cs c n f =
    search (ap (λ (l : List (List ℕ)). l ++ c ∷ []) f.split ∙ append_assoc f.before (f.clause ∷ f.rest) (c ∷ []), f.place, f.met, f.unmet)

pub same_line : (ls : List ℕ) (l n line : ℕ) → IsLineOf ls n line → IsLineOf (ls ++ l ∷ []) n line
same_line ls l n line f = search (ap (λ (k : List ℕ). k ++ l ∷ []) f.split ∙ append_assoc f.before (line ∷ f.rest) (l ∷ []), f.place)

pub shown : (cnf answer : Option (List ℕ)) (table : Literals) (verdict : Verdict) (cut is : Option CutFormula) → cut ≡ is → reading.ListsThe answer table → IsJudged cnf (has_lit table) verdict cut
    → IsShown cnf answer verdict is
shown cnf answer table verdict cut is same read judged = record {
  lits = read.lits;
  lists = read.said;
  apart = read.apart;
  judged = subst (λ (s : ℕ → Bool). IsJudged cnf s verdict is) (fun_ext read.has) (subst (λ (k : Option CutFormula). IsJudged cnf (has_lit table) verdict k) same judged);
}

-- a verdict on two texts that are known
pub satisfied : (cnf answer : Option (List ℕ)) (text said : List ℕ) → cnf ≡ Some text → answer ≡ Some said → IsShown cnf answer Verified None → IsSatisfiedBy text said
satisfied cnf answer text said e d h =
    let shown = rw (e, d) at h in
    let judged = shown.judged in
    record {
      clauses = judged.formula;
      formula = judged.whole;
      whole = ap (λ (n : Notes). cut_of n.1.header (length judged.formula)) judged.noted ∙ judged.lacks;
      lits = shown.lits;
      lists = shown.lists;
      model = met_clauses_are_satisfied shown.lits judged.formula shown.apart judged.shown;
    }
