-- What runs have shown.
use Rattle.std.proofs.Common.{◌≡◌, ℕ, List, Option, Some, None, Result, Ok}
use Rattle.std.specs.Prelude.{IfSome}
use Rattle.std.specs.Option.{option_map}
use Rattle.sha2.specs.Sha256.{sha256}
use Rattle.sat_formula.specs.Lines.{outcome_of}
use Rattle.sat_formula.specs.Outcome.{Ended}
use Rattle.sat_formula.specs.Whole.{IsOutcome}
use Rattle.sat_output.specs.FormulaTexts.{clauses_text}
use Rattle.receipts.specs.Joins.{PartsAreRefuted, ShownIsRefuted}
use Rattle.receipts.specs.Lines.{receipts_text}
use Rattle.receipts.specs.declared.receipt.Receipt.{Receipt}
use Rattle.join_check.specs.Runs.{IsCubesRun, IsCubesShown, IsPiecesRun, IsTextShown}
use Rattle.join_check.specs.Texts.{IsRefutedByParts, IsRefutedByReceipts}
use Rattle.join_check.specs.Verdicts.{IsCubesVerdict, IsTextVerdict}
use Rattle.join_check.specs.declared.fault.RunFault.{RunFault}
use Rattle.join_check.specs.declared.verdict.Verdict.{Verdict}
use Rattle.join_check.specs.declared.verdict.Verdict.TheVariants.{Verified}

-- ---- what was read

on_text : (cnf : Option (List ℕ)) (read digest : List ℕ) (receipts : List Receipt) (verdict : Verdict) → IfSome cnf (λ text. read ≡ text) → digest ≡ sha256 read → IsTextVerdict receipts digest verdict
    → IfSome cnf (λ text. IsTextVerdict receipts (sha256 text) verdict)
on_text None read digest receipts verdict is e shown = tt
on_text (Some text) read digest receipts verdict is e shown = rw is at (rw e at shown)

pub text_shown : (cnf said : Option (List ℕ)) (read digest : List ℕ) (receipts : List Receipt) (verdict : Verdict) → IfSome said (λ text. text ≡ receipts_text receipts) → IfSome cnf (λ text. read ≡ text)
    → digest ≡ sha256 read → IsTextVerdict receipts digest verdict → IsTextShown cnf said verdict
text_shown cnf said read digest receipts verdict lines is e shown = record {
  receipts = receipts;
  lines = lines;
  shown = on_text cnf read digest receipts verdict is e shown;
}

pub cubes_shown : (cnf cubes said : Option (List ℕ)) (formula split : List (List ℕ)) (receipts : List Receipt) (verdict : Verdict) → IfSome said (λ text. text ≡ receipts_text receipts)
    → IsOutcome (option_map outcome_of cnf) (formula, Ended) → IsOutcome (option_map outcome_of cubes) (split, Ended) → IsCubesVerdict receipts formula split verdict → IsCubesShown cnf cubes said verdict
cubes_shown cnf cubes said formula split receipts verdict lines whole parted shown = record {
  receipts = receipts;
  lines = lines;
  formula = formula;
  whole = whole;
  split = split;
  parted = parted;
  shown = shown;
}

-- ---- what it says of the texts

pub refuted_by_receipts : ShownIsRefuted → (cnf said : Option (List ℕ)) (r : Result Verdict RunFault) → IsPiecesRun cnf said r
    → (text lines : List ℕ) → cnf ≡ Some text → said ≡ Some lines → (count : ℕ) → r ≡ Ok (Verified count) → IsRefutedByReceipts lines text
refuted_by_receipts shows cnf said r run text lines e d count verified =
    let known = rw (e, d, verified) at run in
    record {
      receipts = known.receipts;
      lines = known.lines;
      refutes = λ text_of honest stands. shows text_of known.receipts text honest stands known.shown.1;
    }

pub refuted_by_parts : PartsAreRefuted → (cnf cubes said : Option (List ℕ)) (r : Result Verdict RunFault) → IsCubesRun cnf cubes said r
    → (text split lines : List ℕ) → cnf ≡ Some text → cubes ≡ Some split → said ≡ Some lines → (count : ℕ) → r ≡ Ok (Verified count) → IsRefutedByParts lines split text
refuted_by_parts shows cnf cubes said r run text split lines e d f count verified =
    let known = rw (e, d, f, verified) at run in
    record {
      receipts = known.receipts;
      lines = known.lines;
      formula = known.formula;
      whole = known.whole;
      split = known.split;
      parted = known.parted;
      refutes = λ text_of honest stands. (known.formula, known.whole, shows clauses_text text_of known.receipts known.formula known.split honest stands known.shown.1);
    }
