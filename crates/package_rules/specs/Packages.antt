-- Packages, and sets of packages that can be installed together. A package is known by its place in the list: an
-- installation is any set of places.
--     System      how versions compare, and two rules in which package systems differ
--     meets s d p      the package p meets the need d
--     is_sound s i u      each installed package has what it depends on and none of what it conflicts with
--     is_installation s i u w      it is sound, and has what is wanted
--     NoneHas s u w n      no installation has the package at place n
use Rattle.std.specs.Prelude.{◌≡◌, ℕ, suc, Bool, true, false, not, ◌&&◌, ◌||◌, nat_eq, List, [], ◌∷◌, Option, Some, None}
use Rattle.std.specs.List.{list_any, list_all}
use Rattle.std.specs.Ordering.{is_eq, is_ge, is_gt, is_le, is_lt}
use Rattle.std.specs.declared.cmp.Ordering.{Ordering}

-- how a version must compare with the one that a need names
pub data Relation : Type 0 where
  less less_or_equal equal greater_or_equal greater : Relation

-- which versions will do; names and versions are texts, by their bytes
pub record Bound : Type 0 where
  pub relation : Relation
  pub version : List ℕ

-- a name, perhaps a bound, and whether only a package will do that allows it for any architecture (`python3:any`)
pub record Need : Type 0 where
  pub name : List ℕ
  pub bound : Option Bound
  pub any : Bool

-- what a package provides beside itself (a virtual package): a name, perhaps at a version
pub record Feature : Type 0 where
  pub name : List ℕ
  pub version : Option (List ℕ)

-- of each group of `depends` one need must be met by an installed package; those of `conflicts` by no other one
pub record Package : Type 0 where
  pub name : List ℕ
  pub version : List ℕ
  pub depends : List (List Need)
  pub conflicts : List Need
  pub provides : List Feature
  pub allows_any : Bool

-- how two versions compare; whether a feature with no version meets each need of its name, or only those with no
-- bound; and whether two packages of one name exclude each other
pub record System : Type 0 where
  pub compare : List ℕ → List ℕ → Ordering
  pub meets_all : Bool
  pub excludes_same_name : Bool

-- the relation holds of two versions that compare so
abbrev pub holds : Relation → Ordering → Bool
holds less o = is_lt o
holds less_or_equal o = is_le o
holds equal o = is_eq o
holds greater_or_equal o = is_ge o
holds greater o = is_gt o

-- two texts are the same
abbrev pub same_name : List ℕ → List ℕ → Bool
same_name [] [] = true
same_name (x ∷ xs) (y ∷ ys) = nat_eq x y && same_name xs ys
same_name xs ys = false

-- a version is within a bound
abbrev pub in_bound : System → Option Bound → List ℕ → Bool
in_bound s None v = true
in_bound s (Some b) v = holds b.relation (s.compare v b.version)

-- what a feature offers, with a version or without, is within a bound
abbrev pub is_offered : System → Option Bound → Option (List ℕ) → Bool
is_offered s bound (Some v) = in_bound s bound v
is_offered s None None = true
is_offered s (Some b) None = s.meets_all

-- a package meets a need by its name and version, or by a feature that it provides
abbrev pub meets : System → Need → Package → Bool
meets s d p = (not d.any || p.allows_any) && ((same_name d.name p.name && in_bound s d.bound p.version)
    || list_any (λ f. same_name d.name f.name && is_offered s d.bound f.version) p.provides)

-- of the packages from place n on, one that is installed passes a test
abbrev pub some_installed : (ℕ → Bool) → (Package → Bool) → ℕ → List Package → Bool
some_installed i test n [] = false
some_installed i test n (p ∷ ps) = (i n && test p) || some_installed i test (suc n) ps

-- one that is installed, and is not at place m, passes a test
abbrev pub another_installed : (ℕ → Bool) → (Package → Bool) → ℕ → ℕ → List Package → Bool
another_installed i test m n [] = false
another_installed i test m n (p ∷ ps) = (i n && (test p && not (nat_eq n m))) || another_installed i test m (suc n) ps

-- one of these needs is met
abbrev pub is_met : System → (ℕ → Bool) → List Package → List Need → Bool
is_met s i u ds = list_any (λ d. some_installed i (meets s d) 0 u) ds

-- one of these needs is met by another package than the one at place m
abbrev pub is_met_beside : System → (ℕ → Bool) → List Package → ℕ → List Need → Bool
is_met_beside s i u m ds = list_any (λ d. another_installed i (meets s d) m 0 u) ds

-- what the package p at place m says of its dependencies, its conflicts, and others of its name
abbrev pub is_content : System → (ℕ → Bool) → List Package → ℕ → Package → Bool
is_content s i u m p = list_all (is_met s i u) p.depends
    && (not (is_met_beside s i u m p.conflicts)
    && not (s.excludes_same_name && another_installed i (λ q. same_name p.name q.name) m 0 u))

-- so say the installed ones of the packages from place n on
abbrev pub is_sound_from : System → (ℕ → Bool) → List Package → ℕ → List Package → Bool
is_sound_from s i u n [] = true
is_sound_from s i u n (p ∷ ps) = (not (i n) || is_content s i u n p) && is_sound_from s i u (suc n) ps

-- so say all installed packages
abbrev pub is_sound : System → (ℕ → Bool) → List Package → Bool
is_sound s i u = is_sound_from s i u 0 u

-- what is asked for: of each group of `wanted` a need is to be met, and none of `unwanted`
pub record Wish : Type 0 where
  pub wanted : List (List Need)
  pub unwanted : List Need

-- a set of places that is sound and has what is asked for
abbrev pub is_installation : System → (ℕ → Bool) → List Package → Wish → Bool
is_installation s i u w = is_sound s i u && (list_all (is_met s i u) w.wanted && not (is_met s i u w.unwanted))

-- no set of packages is an installation
abbrev pub HasNone : System → List Package → Wish → Type 0
HasNone s u w = (i : ℕ → Bool) → is_installation s i u w ≡ false

-- no installation has the package at place n
abbrev pub NoneHas : System → List Package → Wish → ℕ → Type 0
NoneHas s u w n = (i : ℕ → Bool) → is_installation s i u w ≡ true → i n ≡ false
