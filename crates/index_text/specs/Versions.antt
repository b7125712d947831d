-- Versions of Debian packages, as deb-version(7) has them.
--     is_version text      [epoch:]upstream[-revision]
use Rattle.std.specs.Prelude.{ℕ, ◌-◌, Bool, false, not, ◌&&◌, List, [], ◌∷◌, length, slice_index, ◌==◌, if◌then◌else◌}
use Rattle.sat_formula.specs.Bytes.{is_digit}
use Rattle.sat_formula.specs.Lines.{has_bytes}
use Rattle.index_text.specs.declared.class.Class.TheVariants.{Digit, Version, EpochVersion}
use Rattle.index_text.specs.Classes.{behind, is_of, leading}

-- a version without its epoch: a digit and bytes that pass the test, and the revision, which follows the last `-`, is not empty
abbrev pub is_upstream : (ℕ → Bool) → List ℕ → Bool
is_upstream test [] = false
is_upstream test (b ∷ bs) = is_digit b && not (has_bytes (behind test bs))
    && not (slice_index (b ∷ bs) (length (b ∷ bs) - 1) == 45)

-- after digits: a `:` ends an epoch, and only behind one a version may have another `:`
abbrev pub is_version_by : List ℕ → List ℕ → List ℕ → Bool
is_version_by digits [] text = is_upstream (is_of Version) text
is_version_by digits (b ∷ bs) text =
    if has_bytes digits && (b == 58) then is_upstream (is_of EpochVersion) bs else is_upstream (is_of Version) text

-- the text is a version
abbrev pub is_version : List ℕ → Bool
is_version text = is_version_by (leading (is_of Digit) text) (behind (is_of Digit) text) text
