-- Faults of a part are faults of the whole.
use Rattle.std.proofs.Common.{◌≡◌, inl, inr, ℕ, ◌+◌, ◌*◌, ◌-◌, ◌^◌, true, false, nat_lt, List, ◌∷◌, ◌++◌, Option, Some, None, ◌<◌, Result, Err, length, drop, get_or, suc, sym, subst, ap, ◌∙◌, drop-cons, arith}
use Rattle.std.specs.Prelude.{IfErr, IsErrAnd}
use Rattle.std.proofs.lemmas.Result.{err_from_is_err_and}
use Rattle.package_rules.specs.Debian.{behind_hyphen, is_digit, ranks, until_hyphen, without_epoch}
use Rattle.packages.specs.Versions.{IsFaultOf, IsVersionFault, are_small}
use Rattle.packages.specs.declared.fault.VersionFault.{VersionFault}
use Rattle.packages.proofs.Numbers.{among, at_digit}

pub too_large : (n byte : ℕ) (number : Option ℕ) (cs : List ℕ) → number ≡ Some n → is_digit byte ≡ true → nat_lt (10 * n + (byte - 48)) (2 ^ 64) ≡ false →
    are_small (ranks number (byte ∷ cs)) ≡ false
too_large n byte number cs e d h = at_digit (2 ^ 64) n byte number cs e d h

pub behind : (xs ns all : List ℕ) (fault : VersionFault) → xs ++ ns ≡ all → IsFaultOf ns fault → IsFaultOf all fault
behind xs ns all fault e (inl h) = inl h
behind xs ns all fault e (inr h) = inr (h.0, grind (arith, e, among (2 ^ 64) xs ns h.1))

pub of_upstream : (v rest part : List ℕ) (fault : VersionFault) → rest ≡ without_epoch v → part ≡ until_hyphen rest → IsFaultOf (ranks None part) fault → IsVersionFault v fault
of_upstream v rest part fault d e (inl h) = inl h
of_upstream v rest part fault d e (inr h) = inr (h.0, grind (arith, d, e, h.1))

pub of_revision : (v rest part : List ℕ) (fault : VersionFault) → rest ≡ without_epoch v → part ≡ behind_hyphen rest → IsFaultOf (ranks None part) fault → IsVersionFault v fault
of_revision v rest part fault d e (inl h) = inl h
of_revision v rest part fault d e (inr h) = inr (h.0, grind (arith, d, e, h.1))

pub behind_at : (text xs : List ℕ) (i : ℕ) (number : Option ℕ) (fault : VersionFault) → i < length text → xs ++ ranks number (drop i text) ≡ ranks None text →
    ((cs : List ℕ) → IsFaultOf (ranks number (get_or text i 0 ∷ cs)) fault) → IsFaultOf (ranks None text) fault
behind_at text xs i number fault lt e h =
    behind xs (ranks number (drop i text)) (ranks None text) fault e (subst (λ cs. IsFaultOf (ranks number cs) fault) (sym (drop-cons text i 0 lt)) (h (drop (suc i) text)))

-- the exit of a `?`
pub passes : {X : Type 0} (P : VersionFault → Type 0) (e : VersionFault) (r : Result X VersionFault) → IsErrAnd r (λ d. d ≡ e) → P e → IfErr r P
passes P e r h p =
    let q = err_from_is_err_and r h in
    subst (λ s. IfErr s P) (sym (q.1 ∙ ap (λ d. Err d) q.2)) p
