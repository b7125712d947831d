-- What the verdict of a run means.
use Rattle.std.proofs.Common.{◌≡◌, ℕ, List, [], ◌++◌, length, Option, Some, None, Result, Ok, Err, IfOk, refl, subst}
use Rattle.std.specs.Io.KnownBytes.{Appends}
use Rattle.std.specs.Prelude.{IfSome, IsOk}
use Rattle.command.specs.Outputs.{Gives}
use Rattle.checker_rules.specs.WrittenLines.{new_writer}
use Rattle.sat_formula.specs.Refuted.{IsRefuted}
use Rattle.sat_hints.proofs.WrittenRuns.{writer_shows_run}
use Rattle.sat_hints.specs.Writing.{writer_of, written}
use Rattle.sat_hints.specs.WrittenRuns.{takes}
use Rattle.sat_hints.specs.declared.writer.LratWriter.{LratWriter}
use Rattle.varisat_check.specs.LratRuns.{LratRun}
use Rattle.varisat_check.specs.ReadFormula.{ReadsFormula}
use Rattle.varisat_check.specs.declared.verdict.Verdict.{Verdict}
use Rattle.varisat_check.specs.declared.verdict.Verdict.TheVariants.{NotShown, Unsatisfiable, UnsatisfiableWithAdded}
use Rattle.varisat_check_main.specs.Meaning.{AreHints, HasHints, MeansOf}

-- bytes that were read whole are those that are known
pub held_is : (named : Option (List ℕ)) (held text : List ℕ) → IfSome named (λ bytes. held ≡ bytes) → named ≡ Some text → held ≡ text
held_is None held text known is = absurd (cc)
held_is (Some bytes) held text known is = cc

pub means_held : {E : Type 0} (named : Option (List ℕ)) (held : List ℕ) → ((text : List ℕ) → named ≡ Some text → held ≡ text) → (r : Result Verdict E)
    → (r ≡ Ok Unsatisfiable → IsRefuted held) → IfOk r (MeansOf named)
means_held named held known (Ok Unsatisfiable) refutes = λ text is. rw (known text is) at (refutes refl)
means_held named held known (Ok (UnsatisfiableWithAdded count)) refutes = tt
means_held named held known (Ok NotShown) refutes = tt
means_held named held known (Err fault) refutes = tt

-- ---- hints

all_of : (old new : Option (List ℕ)) (text : List ℕ) → Appends old new text → old ≡ Some [] → new ≡ Some text
all_of None new text appends empty = absurd (cc)
all_of (Some xs) None text appends empty = absurd appends
all_of (Some xs) (Some ys) text appends empty =
    let none : xs ≡ [] = cc in
    let all : ys ≡ text = rw none at appends in
    cc

-- what a new writer wrote of a run to an empty file
pub hints_are : (text : List ℕ) (proof : Option (List ℕ)) (formula : List (List ℕ)) (count : ℕ) (writer after : LratWriter) (verdict : Verdict)
    (old new : Option (List ℕ)) → ReadsFormula (Some text) (Ok formula) → count ≡ length formula → writer_of writer ≡ new_writer count → written writer ≡ []
    → LratRun takes proof formula writer verdict after → Appends old new (written after) → old ≡ Some []
    → (bytes : List ℕ) × AreHints text bytes × (new ≡ Some bytes)
hints_are text proof formula count writer after verdict old new reads same fresh blank run appends empty =
    let wrote = writer_shows_run writer after (length formula) (run.of_formula ++ run.of_proof) (rw same at fresh) blank run.ran in (
      written after,
      record {
        formula = formula;
        reads = reads;
        of_formula = run.of_formula;
        clauses = run.clauses;
        inputs_first = run.inputs_first;
        of_proof = run.of_proof;
        is_run = run.is_run;
        are = wrote.text;
      },
      all_of old new (written after) appends empty,
    )

-- a verdict that was reached means that, and the file that got its name has the bytes that were written
pub names_hints : {E E' : Type 0} (cnf unwritten place contents : Option (List ℕ)) (old new : Option (List (List ℕ × List ℕ))) (held : List ℕ)
    (checked : Result Verdict E) (named : Result Verdict E') → ((text : List ℕ) → cnf ≡ Some text → held ≡ text) → IfOk named (λ verdict. checked ≡ Ok verdict)
    → IfOk checked (MeansOf cnf) → (unwritten ≡ Some [] → IfOk checked (λ verdict. (bytes : List ℕ) × AreHints held bytes × (contents ≡ Some bytes)))
    → (IsOk named → Gives old new place contents) → IfOk named (λ verdict. MeansOf cnf verdict × HasHints cnf unwritten place old new)
names_hints cnf unwritten place contents old new held checked (Ok verdict) read same means hints gives = (
  rw same at means,
  λ fresh.
      let wrote = rw same at (hints fresh) in
      (wrote.0, (λ text known. subst (λ (t : List ℕ). AreHints t wrote.0) (read text known) wrote.1), rw wrote.2 at (gives refl)),
)
names_hints cnf unwritten place contents old new held checked (Err fault) read same means hints gives = tt
