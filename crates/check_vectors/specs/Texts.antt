-- Texts that grow.
use Rattle.std.specs.Prelude.{◌≡◌, ℕ, List, ◌++◌}

-- the old text is a beginning of the new one
abbrev pub Appends : List ℕ → List ℕ → Type 0
Appends old new = (more : List ℕ) × (new ≡ old ++ more)
