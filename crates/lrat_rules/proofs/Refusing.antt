-- A line has no cause exactly where it is accepted.
use Rattle.std.proofs.Common.{◌≡◌, ◌↔◌, ℕ, Bool, true, cond, not, ◌&&◌, ◌||◌, Option, Some, None, is_some, refl, arith}
use Rattle.lrat_rules.specs.Causes.{Cause, id_taken}
use Rattle.lrat_rules.specs.Groups.{all_met}
use Rattle.lrat_rules.specs.Lines.{adds, deletes, groups, led}
use Rattle.lrat_rules.specs.Propagation.{Ending, at_end, conflict, is_conflict, open_at, stuck}
use Rattle.lrat_rules.specs.Refusals.{CausesAreExact, cause_at, unmet}
use Rattle.lrat_rules.specs.Stores.{find}

-- where the leading hints end
end_exact : (e : Ending) (test : (ℕ → Bool) → Bool) (k : (ℕ → Bool) → Cause) →
    (cause_at e (λ s. cond (test s) None (Some (k s))) ≡ None) ↔ ((is_conflict e || at_end e test) ≡ true)
end_exact conflict test k = (λ h. refl, λ h. refl)
end_exact (open_at s) test k = grind arith
end_exact (stuck j) test k = grind arith

-- first the id
id_exact : (taken t : Bool) (o : Option Cause) → (o ≡ None) ↔ (t ≡ true) → (cond taken (Some id_taken) o ≡ None) ↔ ((not taken && t) ≡ true)
id_exact taken t o h = grind arith

pub causes_exact : CausesAreExact
causes_exact st (adds i c hs) = id_exact (is_some (find st i)) _ _ (end_exact (led st c hs) (λ s. all_met st s c (groups hs)) (λ s. unmet st s c (groups hs)))
causes_exact st (deletes is) = (λ h. refl, λ h. refl)
