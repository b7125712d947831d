-- The packages that can meet a need are those that have its name, as their own or as a feature's: so an encoder needs
-- only look these up, and no rule has to be tried on each pair of packages.
--     LookUpIsEnough      the literals are the same
use Rattle.std.specs.Prelude.{◌≡◌, ℕ, suc, Bool, if◌then◌else◌, ◌||◌, List, [], ◌∷◌}
use Rattle.std.specs.List.{list_any}
use Rattle.package_rules.specs.Packages.{Need, Package, System, meets, same_name}
use Rattle.package_rules.specs.Formulas.{lit_of, lits_of}

-- a package and its place
pub record Placed : Type 0 where
  pub place : ℕ
  pub held : Package

-- a package has a name, as its own or as a feature's
abbrev pub has_name : List ℕ → Package → Bool
has_name name p = same_name name p.name || list_any (λ f. same_name name f.name) p.provides

-- the packages from place n on that have this name, by their places
abbrev pub named : List ℕ → ℕ → List Package → List Placed
named name n [] = []
named name n (p ∷ ps) = if has_name name p then record { place = n; held = p } ∷ named name (suc n) ps else named name (suc n) ps

-- the literals of those that pass a test
abbrev pub lits_among : (Package → Bool) → List Placed → List ℕ
lits_among test [] = []
lits_among test (x ∷ xs) = if test x.held then lit_of x.place ∷ lits_among test xs else lits_among test xs

-- the literals of what meets a need are found among the packages of its name
abbrev pub LookUpIsEnough : Type 0
LookUpIsEnough = (s : System) (d : Need) (n : ℕ) (ps : List Package) →
    lits_of (meets s d) n ps ≡ lits_among (meets s d) (named d.name n ps)
