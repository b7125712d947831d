-- Claims under the literals of an answer, one after the other.
use Rattle.std.proofs.Common.{◌≡◌, ℕ, Bool, true, false, List, [], ◌∷◌, ◌++◌, length, Option, Some, None, refl, ap, ◌∙◌, append_assoc, arith}
use Rattle.std.proofs.lemmas.List.Folds.{list_all-append}
use Rattle.sat_rules.specs.Clauses.{Agrees, all_true, clause_true, is_falsified, negate}
use Rattle.sat_rules.proofs.Chains.{lit_true-negate}
use Rattle.sat_formula.specs.Notes.{Notes}
use Rattle.answer_text.specs.Literals.{listed}
use Rattle.model_check.proofs.ModelLemmas.{met_clauses_are_satisfied}
use Rattle.model_check.proofs.VerdictLemmas.{same_line}
use Rattle.model_check.specs.Wholeness.{cut_of}
use Rattle.model_check.specs.declared.verdict.Verdict.{Verdict as Judgment}
use Rattle.model_check.specs.declared.verdict.Verdict.TheVariants as judgments
use Rattle.follows_check.specs.Answers.{IsFirstFailing, IsFound}
use Rattle.follows_check.specs.Runs.{IsAnswered, OfAnswer, verdict_of}
use Rattle.follows_check.specs.Texts.{NotFollowsText}
use Rattle.follows_check.specs.declared.failing.Failing.{Failing}
use Rattle.follows_check.specs.declared.verdict.Verdict.TheVariants.{NotFollows}

-- ---- one claim more

still_failing : (s : ℕ → Bool) (cs : List (List ℕ)) (c : List ℕ) (n : ℕ) → IsFirstFailing s cs n → IsFirstFailing s (cs ++ c ∷ []) n
still_failing s cs c n f =
    search (ap (λ (l : List (List ℕ)). l ++ c ∷ []) f.split ∙ append_assoc f.before (f.claim ∷ f.rest) (c ∷ []), f.place, f.first, f.fails)

pub still_found : (s : ℕ → Bool) (cs : List (List ℕ)) (c : List ℕ) (lines : List ℕ) (line : ℕ) (failing : Failing) → IsFound s cs lines (Some failing)
    → IsFound s (cs ++ c ∷ []) (lines ++ line ∷ []) (Some failing)
still_found s cs c lines line failing f = (still_failing s cs c failing.claim f.0, same_line lines line failing.claim failing.line f.1)

-- ---- a claim that fails

falsified_false : (s a : ℕ → Bool) (c : List ℕ) → Agrees a s → is_falsified s c ≡ true → clause_true a c ≡ false
falsified_false s a [] ag h = refl
falsified_false s a (m ∷ ms) ag h = grind (arith, lit_true-negate a m, ag (negate m), falsified_false s a ms ag)

claim_fails : (s a : ℕ → Bool) (claims : List (List ℕ)) (n : ℕ) → Agrees a s → IsFirstFailing s claims n → all_true a claims ≡ false
claim_fails s a claims n agrees f =
    rw (f.split, list_all-append) (grind (arith, falsified_false s a f.claim agrees f.fails))

-- what was found, where the verdict is that a claim fails
found_by : (judgment : Judgment) (failing : Option Failing) (claim line : ℕ) → NotFollows claim line ≡ verdict_of judgment failing
    → (judgment ≡ judgments.Verified) × (f : Failing) × (failing ≡ Some f)
found_by judgments.Verified (Some f) claim line e = (refl, f, refl)
found_by judgments.Verified None claim line e = absurd cc
found_by (judgments.NotVerified c l) failing claim line e = absurd cc

-- a verdict on texts that are known
pub not_follows : (cnf claims answer : Option (List ℕ)) (text said : List ℕ) (claim line : ℕ) → cnf ≡ Some text → claims ≡ Some said → OfAnswer answer (IsAnswered cnf claims (NotFollows claim line))
    → NotFollowsText text said
not_follows cnf claims answer text said claim line e d h =
    let known = rw (e, d) at h in
    let shown = known.holds in
    let found = found_by shown.judgment shown.failing claim line shown.is in
    let judged = rw found.0 at shown.formula in
    let failed = rw found.2 at shown.claimed in
    let model = met_clauses_are_satisfied known.lits judged.formula known.apart judged.shown in
    record {
      formula = judged.formula;
      read = judged.whole;
      whole = ap (λ (n : Notes). cut_of n.1.header (length judged.formula)) judged.noted ∙ judged.lacks;
      claims = failed.claims;
      are = failed.are;
      assignment = model.agreeing;
      satisfies = model.satisfies model.agreeing model.agrees;
      fails = claim_fails (listed known.lits) model.agreeing failed.claims found.1.claim model.agrees failed.found.0;
    }
