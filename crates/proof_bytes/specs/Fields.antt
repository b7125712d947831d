-- How the fields of steps are read.
use Rattle.std.specs.Prelude.{ℕ, zero, suc, ◌+◌, ◌*◌, ◌^◌, Bool, List, [], ◌∷◌, Option, Some, None, Ok, Err, nat_lt, ◌==◌, if◌then◌else◌}
use Rattle.checker_rules.specs.Step.{Justification, by_redundant, by_satisfied, by_simplified}
use Rattle.proof_bytes.specs.declared.fault.MalformedStep.TheVariants.{OutOfRange}
use Rattle.proof_bytes.specs.declared.format.Format.{Format}
use Rattle.proof_bytes.specs.declared.format.Format.TheVariants as formats
use Rattle.proof_bytes.specs.Formats.{bytes_of}
use Rattle.proof_bytes.specs.Reading.{Wrong, Found, ◌>>=◌, byte_at, number_at}

-- a number below a limit
unfoldable pub below_at : ℕ → List ℕ → Found ℕ
below_at limit bytes = do
  n ← number_at bytes
  if nat_lt n.0 limit then Ok (n.0, n.1) else Err (Wrong OutOfRange)

-- this many bytes, the low one first
unfoldable pub bytes_at : ℕ → ℕ → ℕ → List ℕ → Found ℕ
bytes_at zero value weight bytes = Ok (value, bytes)
bytes_at (suc left) value weight bytes = do
  b ← byte_at bytes
  bytes_at left (value + weight * b.0) (weight * 256) b.1

-- a number of this many bits, in bytes
unfoldable pub wide_at : ℕ → List ℕ → Found ℕ
wide_at width bytes = do
  n ← bytes_at (bytes_of width) 0 1 bytes
  if nat_lt n.0 (2 ^ width) then Ok (n.0, n.1) else Err (Wrong OutOfRange)

-- a hash, as the format spells it
abbrev pub hash_at : Format → List ℕ → Found ℕ
hash_at formats.Start = number_at
hash_at formats.Numbers = number_at
hash_at (formats.Bytes width) = wide_at width

-- a field seen otherwise
unfoldable pub made_at : {A B : Type 0} → (List ℕ → Found A) → (A → B) → List ℕ → Found B
made_at item make bytes = do
  x ← item bytes
  Ok (make x.0, x.1)

-- one after the other
unfoldable pub pair_at : {A B : Type 0} → (List ℕ → Found A) → (List ℕ → Found B) → List ℕ →
    Found (A × B)
pair_at first second bytes = do
  x ← first bytes
  y ← second x.1
  Ok ((x.0, y.0), y.1)

-- this many, one after the other
unfoldable pub many_at : {A : Type 0} → (List ℕ → Found A) → ℕ → List ℕ → Found (List A)
many_at item zero bytes = Ok ([], bytes)
many_at item (suc n) bytes = do
  first ← item bytes
  others ← many_at item n first.1
  Ok (first.0 ∷ others.0, others.1)

-- a count, and this many
unfoldable pub list_at : {A : Type 0} → (List ℕ → Found A) → List ℕ → Found (List A)
list_at item bytes = do
  n ← number_at bytes
  many_at item n.0 n.1

-- a variable, by its index
abbrev pub var_at : List ℕ → Found ℕ
var_at = below_at (2 ^ 28)

-- a literal, by its code
abbrev pub lit_at : List ℕ → Found ℕ
lit_at = below_at (2 ^ 29)

-- 0 or 1
abbrev pub flag_at : List ℕ → Found Bool
flag_at = made_at (below_at 2) (λ n. n == 1)

-- 0, or an index and 1
abbrev pub named : ℕ → Option ℕ
named zero = None
named (suc index) = Some index

-- a name, or none
abbrev pub name_at : List ℕ → Found (Option ℕ)
name_at = made_at (below_at (2 ^ 28 + 1)) named

-- 0, 1 or 2
abbrev pub justified : ℕ → Justification
justified zero = by_redundant
justified (suc zero) = by_satisfied
justified (suc (suc n)) = by_simplified

-- the justification of a deletion
abbrev pub justification_at : List ℕ → Found Justification
justification_at = made_at (below_at 3) justified

-- a list of literals
abbrev pub lits_at : List ℕ → Found (List ℕ)
lits_at = list_at lit_at

-- a list of hashes
abbrev pub hashes_at : Format → List ℕ → Found (List ℕ)
hashes_at format = list_at (hash_at format)

-- a literal and the hash beside it
abbrev pub unit_at : Format → List ℕ → Found (ℕ × ℕ)
unit_at format = pair_at lit_at (hash_at format)
