-- The exit of a `?`.
use Rattle.std.proofs.Common.{◌≡◌, Result, Err, sym, ap, ◌∙◌, subst}
use Rattle.std.specs.Prelude.{IsErrAnd}
use Rattle.std.proofs.lemmas.Result.{err_from_is_err_and}

pub error_is : {X E : Type 0} (r : Result X E) (e : E) → IsErrAnd r (λ d. d ≡ e) → r ≡ Err e
error_is r e h = let q = err_from_is_err_and r h in q.1 ∙ ap (λ d. Err d) q.2

pub exits : {X E : Type 0} (P : Result X E → Type 0) (e : E) (r : Result X E) → IsErrAnd r (λ d. d ≡ e) → P (Err e) → P r
exits P e r h p = subst P (sym (error_is r e h)) p
