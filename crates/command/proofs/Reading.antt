-- Bytes that are read up to a limit.
use Rattle.std.proofs.Common.{◌≡◌, ◌<◌, ℕ, List, [], ◌++◌, length, take, Option, Some, None, IfSome, arith}
use Rattle.std.specs.Io.Take.{take_inner, take_limit, take_remaining}
use Rattle.std.specs.Option.{option_map}
use Rattle.std.specs.declared.io.traits.Take.{Take}
use Rattle.std.proofs.lemmas.List.{length-take, take_all}

-- fewer bytes than the limit are all
uncut : (limit : ℕ) (xs : List ℕ) → length (take limit xs) < limit → take limit xs ≡ xs
uncut limit xs l = take_all limit xs (grind (arith, length-take limit xs))

-- the same of bytes that may be known
known : (remaining : Option (List ℕ)) (limit : ℕ) (before items : List ℕ) → before ≡ [] → IfSome (option_map (take limit) remaining) (λ xs. items ≡ before ++ xs)
    → length items < limit → IfSome remaining (λ xs. items ≡ xs)
known None limit before items e h l = tt
known (Some xs) limit before items e h l = grind (arith, uncut limit xs)

-- what was read after nothing is all that the reader had, if it is shorter than the limit
pub read_whole : {R : Type 0} (remaining : R → Option (List ℕ)) (from : R) (limited : Take R) (limit : ℕ) (before items : List ℕ)
    → take_inner limited ≡ from → take_limit limited ≡ limit → before ≡ [] → IfSome (take_remaining remaining limited) (λ xs. items ≡ before ++ xs)
    → length items < limit → IfSome (remaining from) (λ xs. items ≡ xs)
read_whole remaining from limited limit before items inner same empty h short = known (remaining from) limit before items empty (rw (← same, ← inner) h) short
