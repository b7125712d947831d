-- Versions that were read.
--     HasParts v version      its parts are those of the text
--     IsVersionFault v fault      memory ran out, or a number of the text is too large
use Rattle.std.specs.Prelude.{◌≡◌, ◌⊎◌, ℕ, ◌+◌, ◌^◌, Bool, false, if◌then◌else◌, ◌&&◌, nat_eq, nat_lt, List, [], ◌∷◌, Option, Some, None}
use Rattle.std.specs.List.{list_all}
use Rattle.package_rules.specs.Debian.{behind_hyphen, epoch, ranks, until_hyphen, without_epoch}
use Rattle.packages.specs.declared.fault.VersionFault.{VersionFault}
use Rattle.packages.specs.declared.fault.VersionFault.TheVariants.{OutOfMemory, TooLarge}
use Rattle.packages.specs.declared.version.Version.{Version}

-- the ranks of the epoch, the upstream version and the revision
pub record HasParts (v : List ℕ) (version : Version) : Type 0 where
  pub of_epoch : version.epoch.items ≡ ranks None (epoch v)
  pub of_upstream : version.upstream.items ≡ ranks None (until_hyphen (without_epoch v))
  pub of_revision : version.revision.items ≡ ranks None (behind_hyphen (without_epoch v))

-- all numbers are below 2^64
abbrev pub are_small : List ℕ → Bool
are_small ns = list_all (λ n. nat_lt n (2 ^ 64)) ns

-- memory ran out, or one of the numbers is too large
abbrev pub IsFaultOf : List ℕ → VersionFault → Type 0
IsFaultOf ns fault = (fault ≡ OutOfMemory) ⊎ ((fault ≡ TooLarge) × (are_small ns ≡ false))

-- all numbers of a version are small
abbrev pub is_small : List ℕ → Bool
is_small v = are_small (ranks None (epoch v)) && (are_small (ranks None (until_hyphen (without_epoch v)))
    && are_small (ranks None (behind_hyphen (without_epoch v))))

-- memory ran out, or a number of the version is too large
abbrev pub IsVersionFault : List ℕ → VersionFault → Type 0
IsVersionFault v fault = (fault ≡ OutOfMemory) ⊎ ((fault ≡ TooLarge) × (is_small v ≡ false))

-- the place of the last hyphen of a text from place n on, or else what was found before it
abbrev pub last_hyphen : ℕ → Option ℕ → List ℕ → Option ℕ
last_hyphen n found [] = found
last_hyphen n found (c ∷ cs) = last_hyphen (n + 1) (if nat_eq c 45 then Some n else found) cs
