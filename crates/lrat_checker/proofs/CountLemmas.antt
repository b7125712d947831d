-- Counts of literals, by places and by a map.
use Rattle.std.proofs.Common.{◌≡◌, ℕ, ◌+◌, eqb, List, [], get_or, unwrap_or, refl, ap, arith}
use Rattle.std.specs.Map.{lookup}
use Rattle.std.specs.HashMap.{HashMap}
use Rattle.std.specs.declared.hash.BuildHasherDefault.{BuildHasherDefault}
use Rattle.std.specs.declared.hash.FoldHasher.{FoldHasher}
use Rattle.lrat_checker.specs.Counts.{count_by}
use Rattle.lrat_checker.specs.FarCounts.{far_count}

abbrev Far : Type 0
Far = HashMap ℕ ℕ (BuildHasherDefault FoldHasher)

-- by its parts
pub count-parts : (near : List ℕ) (far : Far) (l : ℕ) → count_by near far l ≡ get_or near l 0 + far_count far l
unfolding count_by
count-parts near far l = refl

-- nothing is counted at first
pub count-none : (near : List ℕ) (far : Far) → near ≡ [] → far.entries ≡ [] → (l : ℕ) → count_by near far l ≡ 0
count-none near far e f l = omega (arith, count-parts near far l, ap (λ xs. get_or xs l 0) e, ap (λ es. unwrap_or (lookup (eqb l) es) 0) f)
