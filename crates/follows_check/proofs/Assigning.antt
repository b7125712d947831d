-- Values after one literal more.
use Rattle.std.proofs.Common.{◌≡◌, ℕ, Bool, List, [], ◌∷◌, ◌++◌, refl}
use Rattle.std.specs.Prelude.{◌==◌, not, if◌then◌else◌}
use Rattle.sat_rules.specs.Clauses.{is_negative, var_of}
use Rattle.follows_check.specs.Minimal.{assigned}

pub assigned_more : (model : List ℕ) (l : ℕ) (truth : ℕ → Bool) (x : ℕ)
    → assigned (model ++ l ∷ []) truth x ≡ (if x == var_of l then not (is_negative l) else assigned model truth x)
assigned_more [] l truth x = refl
assigned_more (k ∷ model) l truth x = assigned_more model l (λ y. if y == var_of k then not (is_negative k) else truth y) x
