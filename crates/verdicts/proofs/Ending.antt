-- How a call ends, from how its run ends.
use Rattle.std.proofs.Common.{◌≡◌, ℕ, Bool, List, Option, Result, Ok, Err, IfOk, IsErr, refl, inl, inr}
use Rattle.std.specs.Prelude.{IsErrAnd, MatchResult}
use Rattle.verdicts.specs.Statuses.{Ends, ShowsLine, ended_of, status_shown}
use Rattle.verdicts.specs.declared.status.Refusal.{Refusal}
use Rattle.verdicts.specs.declared.status.Refusal.TheVariants.{Failed}

module _ {V E : Type 0} (line : V → List ℕ) (shows : V → Bool) (Holds : V → Type 0) (Left : Type 0) (old new : Option (List ℕ)) where
  -- what was reached and holds was shown, or not
  pub ends_shown : (checked r : Result V E) → ShowsLine line checked old new r → IfOk checked Holds → (IsErr checked → Left)
      → Ends line (status_shown shows) Holds Left old new (ended_of shows r)
  ends_shown checked (Ok verdict) shown holds left = (verdict, refl, shown.1, rw shown.0 at holds)
  ends_shown checked (Err fault) (inl none) holds left = inl (none.1, left none.0)
  ends_shown checked (Err fault) (inr begun) holds left = inr (refl, (begun.0, begun.2, rw begun.1 at holds))

module _ {V : Type 0} (line : V → List ℕ) (status : V → ℕ) (Holds Holds' : V → Type 0) (Left Left' : Type 0) (old new : Option (List ℕ)) where
  -- what holds of each verdict says more than what is asked
  pub ends_weaker : ((verdict : V) → Holds verdict → Holds' verdict) → (Left → Left') → (result : Result ℕ Refusal)
      → Ends line status Holds Left old new result → Ends line status Holds' Left' old new result
  ends_weaker more left (Ok shown) ends = (ends.0, ends.1, ends.2, more ends.0 ends.3)
  ends_weaker more left (Err refusal) (inl none) = inl (none.0, left none.1)
  ends_weaker more left (Err refusal) (inr begun) = inr (begun.0, (begun.1.0, begun.1.1, more begun.1.0 begun.1.2))

-- a run whose fault is told in another way has the same verdict
pub same_verdict : {V E E' : Type 0} (P : V → Type 0) (Told : E → E' → Type 0) (r : Result V E) (checked : Result V E')
    → MatchResult r (λ verdict. checked ≡ Ok verdict) (λ fault. IsErrAnd checked (Told fault)) → IfOk r P → IfOk checked P
same_verdict P Told (Ok verdict) checked is holds = rw is holds
same_verdict P Told (Err fault) (Ok verdict) told holds = absurd told
same_verdict P Told (Err fault) (Err other) told holds = tt

-- what is so of each verdict is so of the one that was reached
pub each_verdict : {V E : Type 0} (P : V → Type 0) → ((verdict : V) → P verdict) → (r : Result V E) → IfOk r P
each_verdict P each (Ok verdict) = each verdict
each_verdict P each (Err fault) = tt
