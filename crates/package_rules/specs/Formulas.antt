-- Clauses that say the same, with a variable for each place.
--     installation_clauses s u w      the clauses
--     InstallationsAreModels      a set of places is an installation exactly if it satisfies them
--     NoneIsShown      where they are refuted there is no installation
--     NoneHasIsShown      where they are refuted with the clause of some places, no installation has a package there
use Rattle.std.specs.Prelude.{◌≡◌, ℕ, suc, ◌*◌, Bool, if◌then◌else◌, not, ◌&&◌, nat_eq, List, [], ◌∷◌, ◌++◌, map}
use Rattle.std.specs.List.{All}
use Rattle.sat_rules.specs.Clauses.{all_true, negate}
use Rattle.refutation_rules.specs.Cubes.{IsRefuted}
use Rattle.package_rules.specs.Packages.{System, Need, Package, Wish, HasNone, NoneHas, is_installation, meets, same_name}

-- the literal of a place
abbrev pub lit_of : ℕ → ℕ
lit_of n = 2 * n

-- the literals of the packages from place n on that pass a test
abbrev pub lits_of : (Package → Bool) → ℕ → List Package → List ℕ
lits_of test n [] = []
lits_of test n (p ∷ ps) = if test p then lit_of n ∷ lits_of test (suc n) ps else lits_of test (suc n) ps

-- a clause for each of them but the one at place m: it and that one are not both installed
abbrev pub not_both : (Package → Bool) → ℕ → ℕ → List Package → List (List ℕ)
not_both test m n [] = []
not_both test m n (p ∷ ps) = if test p && not (nat_eq n m)
    then (negate (lit_of m) ∷ negate (lit_of n) ∷ []) ∷ not_both test m (suc n) ps else not_both test m (suc n) ps

-- the literals of all packages that meet one of these needs
abbrev pub lits_meeting : System → List Package → List Need → List ℕ
lits_meeting s u [] = []
lits_meeting s u (d ∷ ds) = lits_of (meets s d) 0 u ++ lits_meeting s u ds

-- the package at place m excludes all others that meet one of these needs
abbrev pub conflict_clauses : System → List Package → ℕ → List Need → List (List ℕ)
conflict_clauses s u m [] = []
conflict_clauses s u m (d ∷ ds) = not_both (meets s d) m 0 u ++ conflict_clauses s u m ds

-- and those of its name, where the system says so
abbrev pub same_name_clauses : System → List Package → ℕ → Package → List (List ℕ)
same_name_clauses s u m p = if s.excludes_same_name then not_both (λ q. same_name p.name q.name) m 0 u else []

-- the clauses of a package: it implies a clause for each group, and excludes what it conflicts with
abbrev pub package_clauses : System → List Package → ℕ → Package → List (List ℕ)
package_clauses s u m p = map (λ g. negate (lit_of m) ∷ lits_meeting s u g) p.depends
    ++ (conflict_clauses s u m p.conflicts ++ same_name_clauses s u m p)

-- the clauses of all packages from place n on
abbrev pub clauses_from : System → List Package → ℕ → List Package → List (List ℕ)
clauses_from s u n [] = []
clauses_from s u n (p ∷ ps) = package_clauses s u n p ++ clauses_from s u (suc n) ps

-- no package meets an unwanted need
abbrev pub unwanted_clauses : System → List Package → List Need → List (List ℕ)
unwanted_clauses s u ds = map (λ l. negate l ∷ []) (lits_meeting s u ds)

-- the clauses of all packages, of what is wanted and of what is unwanted
abbrev pub installation_clauses : System → List Package → Wish → List (List ℕ)
installation_clauses s u w = clauses_from s u 0 u
    ++ (map (lits_meeting s u) w.wanted ++ unwanted_clauses s u w.unwanted)

-- a set of places satisfies the clauses exactly if it is an installation
abbrev pub InstallationsAreModels : Type 0
InstallationsAreModels = (s : System) (u : List Package) (w : Wish) (i : ℕ → Bool) →
    all_true i (installation_clauses s u w) ≡ is_installation s i u w

-- where the clauses are refuted there is no installation
abbrev pub NoneIsShown : Type 0
NoneIsShown = (s : System) (u : List Package) (w : Wish) → IsRefuted (installation_clauses s u w) → HasNone s u w

-- where they are refuted with the clause of these places, no installation has a package at one of them
abbrev pub NoneHasIsShown : Type 0
NoneHasIsShown = (s : System) (u : List Package) (w : Wish) (ns : List ℕ) →
    IsRefuted (installation_clauses s u w ++ map lit_of ns ∷ []) → All (NoneHas s u w) ns
