-- Ids that name clauses, one after the other.
use Rattle.std.proofs.Common.{◌≡◌, ◌↔◌, ◌==◌, ℕ, IsTrue, List, [], ◌∷◌, Option, length, refl, sym, ◌∙◌, subst}
use Rattle.std.proofs.Math.Dec.{eqb-suc-zero}
use mathlib.Core.Path.{fun_ext}
use Rattle.std.proofs.lemmas.Bool.{false≢true}
use Rattle.sat_rules.specs.Named.{NamedBy}

-- the same in the words of another map that names alike
pub named_as : (P : Type 0) (f g : ℕ → Option (List ℕ)) (ids : List ℕ) (cs : List (List ℕ)) → ((i : ℕ) → f i ≡ g i) → P ↔ NamedBy f ids cs → P ↔ NamedBy g ids cs
named_as P f g ids cs same k = subst (λ h. P ↔ NamedBy h ids cs) (fun_ext same) k

-- where no clause is left, no id may be
pub named_end : (f : ℕ → Option (List ℕ)) (P : Type 0) (ids : List ℕ) (cs : List (List ℕ)) → P ↔ NamedBy f ids cs → cs ≡ [] → IsTrue (length ids == 0) ↔ P
named_end f P [] cs k none = (λ t. k.1 (subst (λ ds. NamedBy f [] ds) (sym none) tt), λ p. refl)
named_end f P (i ∷ ids) cs k none = (
  λ t. absurd (false≢true (sym (eqb-suc-zero (length ids)) ∙ t)),
  λ p. absurd (subst (λ ds. NamedBy f (i ∷ ids) ds) none (k.0 p)),
)
