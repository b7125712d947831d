-- The positions of names.
--     position_of s name      the position that is kept for a name
--     HasNames n names s      those of n names are kept
use Rattle.std.specs.Prelude.{◌≡◌, ◌≢◌, ℕ, ◌<◌, List, [], Option, Some}
use Rattle.std.specs.HashMap.{get_by}
use Rattle.std.specs.Str.{bytes_eq}
use Rattle.circuit_names.specs.declared.positions.Positions.{Positions}

abbrev pub position_of : Positions → List ℕ → Option ℕ
position_of s name = get_by (λ k. bytes_eq name k.now) s.positions

-- the position of each of the first n names, which are not empty, and of no other one
pub record HasNames (n : ℕ) (names : ℕ → List ℕ) (s : Positions) : Type 0 where
  pub each : (p : ℕ) → p < n → position_of s (names p) ≡ Some p
  pub some : (p : ℕ) → p < n → names p ≢ []
  pub only : (name : List ℕ) (p : ℕ) → position_of s name ≡ Some p → (p < n) × (names p ≡ name)
