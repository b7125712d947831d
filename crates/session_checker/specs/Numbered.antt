-- Clauses by their numbers.
--     first_clauses f n      those of the first n numbers, in their order
use Rattle.std.specs.Prelude.{ℕ, List, [], Option, map}
use Rattle.std.specs.List.{range_with_len}
use Rattle.std.specs.Option.{unwrap_or}

-- those of the first n numbers, in their order, where each has one
abbrev pub first_clauses : (ℕ → Option (List ℕ)) → ℕ → List (List ℕ)
first_clauses f n = map (λ k. unwrap_or (f k) []) (range_with_len 0 n)
