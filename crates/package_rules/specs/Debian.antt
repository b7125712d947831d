-- Versions of Debian packages (deb-version(7)), and Debian's rules.
--     compare_versions v w      by epoch, then upstream version, then revision
--     debian      a feature with no version meets needs with no bound alone, and one version of a name is installed
use Rattle.std.specs.Prelude.{ℕ, ◌+◌, ◌*◌, ◌-◌, Bool, true, false, if◌then◌else◌, not, ◌&&◌, ◌||◌, nat_eq, nat_lt, nat_le, List, [], ◌∷◌, Option, Some, None}
use Rattle.std.specs.List.{list_any}
use Rattle.std.specs.Ordering.{nat_cmp, ordering_reverse, ordering_then}
use Rattle.std.specs.declared.cmp.Ordering.{Ordering}
use Rattle.std.specs.declared.cmp.Ordering.TheVariants.{Equal}
use Rattle.package_rules.specs.Packages.{System}

-- a digit
abbrev pub is_digit : ℕ → Bool
is_digit c = nat_le 48 c && nat_lt c 58

-- a letter
abbrev pub is_letter : ℕ → Bool
is_letter c = (nat_le 65 c && nat_lt c 91) || (nat_le 97 c && nat_lt c 123)

-- `~` is before the end of a part, which is before letters, which are before all else
abbrev pub rank : ℕ → ℕ
rank c = if nat_eq c 126 then 0 else (if is_letter c then c + 2 else c + 130)

-- a text as numbers: ranks of what is no digit, 1 for their end, the number of the digits behind, and so on; the first
-- argument is the number of the digits so far, if the last byte was one
abbrev pub ranks : Option ℕ → List ℕ → List ℕ
ranks None [] = []
ranks (Some n) [] = n ∷ []
ranks None (c ∷ cs) = if is_digit c then 1 ∷ ranks (Some (c - 48)) cs else rank c ∷ ranks None cs
ranks (Some n) (c ∷ cs) = if is_digit c then ranks (Some (10 * n + (c - 48))) cs else n ∷ rank c ∷ ranks None cs

-- the first difference decides; the shorter one goes on with no digits and nothing else: 1, 0, 1, 0 ..
abbrev pub against_rest : Bool → List ℕ → Ordering
against_rest number [] = Equal
against_rest number (x ∷ xs) = ordering_then (nat_cmp x (if number then 0 else 1)) (against_rest (not number) xs)

-- `number` says that a number is next, after a 1
abbrev pub compare_ranks : Bool → List ℕ → List ℕ → Ordering
compare_ranks number [] ys = ordering_reverse (against_rest number ys)
compare_ranks number (x ∷ xs) [] = against_rest number (x ∷ xs)
compare_ranks number (x ∷ xs) (y ∷ ys) = ordering_then (nat_cmp x y) (compare_ranks (not number && nat_eq x 1) xs ys)

-- two parts of versions
abbrev pub compare_parts : List ℕ → List ℕ → Ordering
compare_parts v w = compare_ranks false (ranks None v) (ranks None w)

-- a text has a colon
abbrev pub has_colon : List ℕ → Bool
has_colon v = list_any (nat_eq 58) v

-- a text has a hyphen
abbrev pub has_hyphen : List ℕ → Bool
has_hyphen v = list_any (nat_eq 45) v

-- what is before the first colon
abbrev pub until_colon : List ℕ → List ℕ
until_colon [] = []
until_colon (c ∷ cs) = if nat_eq c 58 then [] else c ∷ until_colon cs

-- what is behind it
abbrev pub behind_colon : List ℕ → List ℕ
behind_colon [] = []
behind_colon (c ∷ cs) = if nat_eq c 58 then cs else behind_colon cs

-- the epoch of a version; none where there is no colon
abbrev pub epoch : List ℕ → List ℕ
epoch v = if has_colon v then until_colon v else []

-- the upstream version and the revision
abbrev pub without_epoch : List ℕ → List ℕ
without_epoch v = if has_colon v then behind_colon v else v

-- what is before the last hyphen; all where there is none
abbrev pub until_hyphen : List ℕ → List ℕ
until_hyphen [] = []
until_hyphen (c ∷ cs) = if nat_eq c 45 && not (has_hyphen cs) then [] else c ∷ until_hyphen cs

-- what is behind it; nothing where there is none
abbrev pub behind_hyphen : List ℕ → List ℕ
behind_hyphen [] = []
behind_hyphen (c ∷ cs) = if nat_eq c 45 && not (has_hyphen cs) then cs else behind_hyphen cs

-- by epoch, then upstream version, then revision
abbrev pub compare_versions : List ℕ → List ℕ → Ordering
compare_versions v w = ordering_then (compare_parts (epoch v) (epoch w))
    (ordering_then (compare_parts (until_hyphen (without_epoch v)) (until_hyphen (without_epoch w)))
    (compare_parts (behind_hyphen (without_epoch v)) (behind_hyphen (without_epoch w))))

-- Debian's rules
abbrev pub debian : System
debian = record { compare = compare_versions; meets_all = false; excludes_same_name = true }
