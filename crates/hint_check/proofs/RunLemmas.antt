-- A proof that is checked by its hints over a formula, by what the calls of the run ensure.
--     accepted_hints      all its lines were accepted
--     no_memory, unread_hints      there was no memory; a read of it failed
use Rattle.std.proofs.Common.{◌≡◌, ℕ, Bool, true, false, List, length, Option, refl, sym, subst}
use Rattle.std.specs.Prelude.{Err}
use Rattle.std.specs.declared.io.Error.{Error}
use Rattle.std.proofs.lemmas.Bool.{false_from_ne_true}
use Rattle.sat_rules.specs.Clauses.{all_true}
use Rattle.sat_rules.specs.HintLines.{Follows, HintLine, Listed, listing}
use Rattle.sat_rules.proofs.HintLineFacts.{hints_refute}
use Rattle.lrat_binary.specs.declared.ids.Ids.{Ids}
use Rattle.lrat_binary.specs.declared.ids.LratForm.{LratForm}
use Rattle.lrat_binary.specs.declared.ids.LratForm.TheVariants as forms
use Rattle.lrat_binary.specs.TakenLines.{IsToldForm}
use Rattle.lrat_binary.proofs.GivenLines.{some_text, told_form}
use Rattle.lrat_binary.proofs.ReadLemmas.{Known}
use Rattle.hint_checker.specs.declared.fault.HintFault.{HintFault}
use Rattle.hint_checker.specs.declared.fault.HintFault.TheVariants.{OutOfMemory}
use Rattle.hint_checker.specs.declared.fault.HintTextFault.TheVariants.{Refused}
use Rattle.hint_check.specs.Proofs.{AcceptsIn, AcceptsProof, IsProofRefusal}
use Rattle.hint_check.specs.Runs.{AcceptsHints, ChecksHints, IsUnread}
use Rattle.verdicts.specs.Verdicts.{verdict_of}
use Rattle.hint_check.specs.declared.fault.RunFault.{RunFault}
use Rattle.hint_check.specs.declared.fault.RunFault.TheVariants.{Hints, Read}
use Rattle.verdicts.specs.declared.verdict.Verdict.TheVariants.{Verified}

lines_follow : (form : LratForm) (h k : Listed) (text : List ℕ) → AcceptsIn form h text k → (lines : List HintLine) × Follows h lines k
lines_follow forms.Text h k text a = (a.lines, a.follow)
lines_follow (forms.Binary ids) h k text a = (a.leads_to.lines, a.leads_to.follow)

-- all its lines were accepted
pub accepted_hints : (ids : Option Ids) (known : Known) (formula : List (List ℕ)) (count : ℕ) (answer : Bool) → count ≡ length formula →
    (form : LratForm) × IsToldForm ids count known form × AcceptsProof form known (listing formula) answer → AcceptsHints ids known formula (verdict_of answer)
accepted_hints ids known formula count answer counted found = record {
  form = found.0;
  told = subst (λ n. IsToldForm ids n known found.0) counted found.1;
  refuted = answer;
  accepts = found.2;
  verdict_is = refl;
  refutes = by answer found.2.answer;
}
  where
    by : (b : Bool) → b ≡ found.2.held.added_empty → verdict_of b ≡ Verified → (a : ℕ → Bool) → all_true a formula ≡ false
    by true r e a =
        let lines = lines_follow found.0 (listing formula) found.2.held found.2.text found.2.accepts in
        false_from_ne_true (all_true a formula) (hints_refute formula lines.0 found.2.held lines.1 (sym r) a)
    by false r e a = absurd cc

-- a line was rejected
pub refused_hints : (ids : Option Ids) (known : Known) (formula : List (List ℕ)) (count : ℕ) (fault : HintFault) → count ≡ length formula →
    (form : LratForm) × IsToldForm ids count known form × IsProofRefusal form known (listing formula) (Refused fault) → ChecksHints ids known formula (Err (Hints fault))
refused_hints ids known formula count fault counted found = record { form = found.0; told = subst (λ n. IsToldForm ids n known found.0) counted found.1; refusal = found.2 }

-- there was no memory
pub no_memory : (ids : Option Ids) (known : Known) (formula : List (List ℕ)) (fault : HintFault) → fault ≡ OutOfMemory → ChecksHints ids known formula (Err (Hints fault))
no_memory ids known formula fault e =
    let told = told_form ids (length formula) known in
    let given = some_text known in
    rw e (refused_hints ids known formula (length formula) OutOfMemory refl (told.0, told.1, (given.0, given.1, tt)))

-- a read of it failed
pub unread_hints : (ids : Option Ids) (known : Known) (formula : List (List ℕ)) (cause : Error) (fault : RunFault) → IsUnread cause fault → ChecksHints ids known formula (Err fault)
unread_hints ids known formula cause (Hints fault) u = no_memory ids known formula fault u.1
unread_hints ids known formula cause (Read error) u = rw u.1 u.0
unread_hints ids known formula cause _ u = absurd u
