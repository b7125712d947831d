-- What is known of a formula and claims, as clauses and as texts.
use Rattle.std.proofs.Common.{◌≡◌, ℕ, Bool, true, false, List, Option, Some, refl, subst}
use Rattle.std.specs.Io.KnownBytes.{Appends, Keeps}
use Rattle.std.proofs.KnownBytes.{Appends-kept}
use Rattle.whole_writes.specs.Beginnings.{AppendsBeginning}
use Rattle.sat_output.specs.FormulaTexts.{formula_text}
use Rattle.sat_output.proofs.Beginnings.{begins_whole}
use Rattle.follows_check.specs.Runs.{BeginsQuestion}
use Rattle.refutation_rules.specs.Cubes.{IsRefuted}
use Rattle.follows_check.specs.Questions.{OfQuestion, asks}
use Rattle.follows_check.specs.Texts.{FollowsText}
use Rattle.follows_check.specs.Verdicts.{IsShown, verdict_on}
use Rattle.follows_check.specs.declared.verdict.Verdict.TheVariants.{Follows}
use Rattle.follows_check.proofs.Selecting.{follows_by}

module _ (cnf claims : Option (List ℕ)) (asked : List (List ℕ)) (q : OfQuestion cnf claims (λ formula claimed. asks formula claimed asked)) where
  shown_follows : IsRefuted asked → OfQuestion cnf claims (λ formula claimed. IsShown formula claimed Follows)
  shown_follows refuted = record {
    formula = q.formula;
    claimed = q.claimed;
    read = q.read;
    are = q.are;
    holds = follows_by q.formula q.claimed asked q.holds refuted;
  }

  -- by whether it is refuted
  pub shown_on : (refuted : Bool) → (refuted ≡ true → IsRefuted asked) → OfQuestion cnf claims (λ formula claimed. IsShown formula claimed (verdict_on refuted))
  shown_on true known = shown_follows (known refl)
  shown_on false known = record { formula = q.formula; claimed = q.claimed; read = q.read; are = q.are; holds = tt }

  -- the text of the formula that is asked was written, and then something was not
  pub begun : (old now new : Option (List ℕ)) → Appends old now (formula_text asked) → Keeps now new → BeginsQuestion cnf claims old new
  begun old now new written kept = record {
    formula = q.formula;
    claimed = q.claimed;
    read = q.read;
    are = q.are;
    holds = subst (λ (cs : List (List ℕ)). AppendsBeginning old new (formula_text cs)) q.holds (begins_whole old new (formula_text asked) (Appends-kept old now new (formula_text asked) written kept));
  }

pub text_follows : (cnf claims : Option (List ℕ)) (text said : List ℕ) → cnf ≡ Some text → claims ≡ Some said → OfQuestion cnf claims (λ formula claimed. IsShown formula claimed Follows) → FollowsText text said
text_follows cnf claims text said e d h =
    let known = rw (e, d) at h in
    record { formula = known.formula; read = known.read; claims = known.claimed; are = known.are; follows = known.holds }
