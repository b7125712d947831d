-- Worked rows: versions of Debian, and a small archive.
use Rattle.std.specs.Prelude.{◌≡◌, ℕ, true, false, if◌then◌else◌, ◌==◌, List, [], ◌∷◌, None}
use Rattle.std.specs.declared.cmp.Ordering.TheVariants.{Less, Equal, Greater}
use Rattle.package_rules.specs.Packages.{Need, Package, Wish, is_installation}
use Rattle.package_rules.specs.Debian.{compare_versions, debian}
use Rattle.package_rules.specs.Formulas.{installation_clauses}

-- a name with no bound
abbrev pub any : ℕ → Need
any c = record { name = c ∷ []; bound = None; any = false }

-- `postfix` (p) and `exim` (e) provide `mail-transport-agent` (m) and conflict with it; `mutt` (u) depends on `p | m`
abbrev pub postfix : Package
postfix = record { name = 112 ∷ []; version = 51 ∷ []; depends = []; conflicts = any 109 ∷ []; provides = record { name = 109 ∷ []; version = None } ∷ []; allows_any = false }

abbrev pub exim : Package
exim = record { name = 101 ∷ []; version = 52 ∷ []; depends = []; conflicts = any 109 ∷ []; provides = record { name = 109 ∷ []; version = None } ∷ []; allows_any = false }

abbrev pub mutt : Package
mutt = record { name = 117 ∷ []; version = 50 ∷ []; depends = (any 112 ∷ any 109 ∷ []) ∷ []; conflicts = []; provides = []; allows_any = false }

abbrev pub archive : List Package
archive = postfix ∷ exim ∷ mutt ∷ []

-- both agents are wanted
abbrev pub both : Wish
both = record { wanted = (any 112 ∷ []) ∷ (any 101 ∷ []) ∷ []; unwanted = [] }

-- one fact a row; texts by their bytes
pub record PackageRows : Type 0 where
  -- 1.0~rc1 is before 1.0
  pub tilde : compare_versions (49 ∷ 46 ∷ 48 ∷ 126 ∷ 114 ∷ 99 ∷ 49 ∷ []) (49 ∷ 46 ∷ 48 ∷ []) ≡ Less
  -- 1.0+b is after 1.0a, since letters come before all else
  pub letters : compare_versions (49 ∷ 46 ∷ 48 ∷ 43 ∷ 98 ∷ []) (49 ∷ 46 ∷ 48 ∷ 97 ∷ []) ≡ Greater
  -- 1.10 is after 1.9
  pub numbers : compare_versions (49 ∷ 46 ∷ 49 ∷ 48 ∷ []) (49 ∷ 46 ∷ 57 ∷ []) ≡ Greater
  -- 1:0 is after 2
  pub epochs : compare_versions (49 ∷ 58 ∷ 48 ∷ []) (50 ∷ []) ≡ Greater
  -- 1.0-0 and 0:01.0 are the same
  pub zeros : compare_versions (49 ∷ 46 ∷ 48 ∷ 45 ∷ 48 ∷ []) (48 ∷ 58 ∷ 48 ∷ 49 ∷ 46 ∷ 48 ∷ []) ≡ Equal
  -- postfix excludes exim and exim postfix, neither itself; mutt implies postfix, or one of both agents; both are wanted
  pub formula : installation_clauses debian archive both ≡ (1 ∷ 3 ∷ []) ∷ (3 ∷ 1 ∷ []) ∷ (5 ∷ 0 ∷ 0 ∷ 2 ∷ []) ∷ (0 ∷ []) ∷ (2 ∷ []) ∷ []
  -- exim and mutt can be installed, mutt alone can't
  pub fine : is_installation debian (λ n. if n == 0 then false else true) archive (record { wanted = []; unwanted = [] }) ≡ true
  pub alone : is_installation debian (λ n. if n == 2 then true else false) archive (record { wanted = []; unwanted = [] }) ≡ false
