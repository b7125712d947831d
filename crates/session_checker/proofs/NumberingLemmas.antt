-- Clauses of the first numbers: how many there are, which they are, and when one is added.
use Rattle.std.proofs.Common.{◌≡◌, ℕ, ◌+◌, ◌<◌, cond, eqb, List, [], ◌∷◌, ◌++◌, Option, Some, length, get_or, ap, ◌∙◌, arith}
use Rattle.std.proofs.lemmas.List.FromFn.{fill_by_all, get_or-map-range_with_len, length-map-range_with_len, map-range_with_len_more}
use Rattle.std.specs.Option.{unwrap_or}
use Rattle.session_checker.specs.Numbered.{first_clauses}

pub first_len : (f : ℕ → Option (List ℕ)) (n : ℕ) → length (first_clauses f n) ≡ n
first_len f n = length-map-range_with_len (λ k. unwrap_or (f k) []) 0 n

pub first_at : (f : ℕ → Option (List ℕ)) (n k : ℕ) → k < n → get_or (first_clauses f n) k [] ≡ unwrap_or (f k) []
first_at f n k h = get_or-map-range_with_len (λ k. unwrap_or (f k) []) 0 n k k [] h (omega arith)

pub first_same : (f g : ℕ → Option (List ℕ)) (n : ℕ) → ((k : ℕ) → k < n → g k ≡ f k) → first_clauses g n ≡ first_clauses f n
first_same f g n same = fill_by_all (λ k. unwrap_or (f k) []) (first_clauses g n) n [] (first_len g n)
    (λ k h. first_at g n k h ∙ ap (λ (o : Option (List ℕ)). unwrap_or o []) (same k h))

pub first_more : (f g : ℕ → Option (List ℕ)) (n : ℕ) (c : List ℕ) → ((k : ℕ) → g k ≡ cond (eqb k n) (Some c) (f k)) → first_clauses g (n + 1) ≡ first_clauses f n ++ c ∷ []
first_more f g n c put =
    map-range_with_len_more (λ k. unwrap_or (g k) []) 0 n n (omega arith)
    ∙ ap (λ (cs : List (List ℕ)). cs ++ unwrap_or (g n) [] ∷ []) (first_same f g n (λ k h. other k h))
    ∙ ap (λ (o : Option (List ℕ)). first_clauses f n ++ unwrap_or o [] ∷ []) last
  where
    other : (k : ℕ) → k < n → g k ≡ f k
    other k h = grind (arith, put k)

    last : g n ≡ Some c
    last = grind (arith, put n)
