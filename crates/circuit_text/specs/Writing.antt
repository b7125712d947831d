-- The text that a writer makes of a circuit, in the binary form: decimal numbers without zeros in front, all counts, each reset,
-- and as few bytes as there can be.
--     binary_text c      the text
--     IsNumbered c      inputs, latches and gates have their variables in this order, and all literals are theirs
use Rattle.std.specs.Prelude.{◌≡◌, ℕ, suc, ◌+◌, ◌-◌, ◌*◌, ◌/◌, ◌%◌, zero, ◌<◌, ◌≤◌, List, [], ◌∷◌, ◌++◌, length, codes, decimal, nat_lt, if◌then◌else◌}
use Rattle.sat_rules.specs.Clauses.{var_of}
use Rattle.circuit_rules.specs.Circuits.{Gate, Latch}
use Rattle.circuit_text.specs.Circuits.{Circuit}
use Rattle.circuit_text.specs.Written.{IsSized, maximum, reset_code}

-- numbers, each after a space, and an LF
abbrev pub spaced : List ℕ → List ℕ
spaced [] = 10 ∷ []
spaced (n ∷ ns) = 32 ∷ (decimal n ++ spaced ns)

-- a text for each of a list
abbrev pub each : {A : Type 0} → (A → List ℕ) → List A → List ℕ
each text [] = []
each text (x ∷ xs) = text x ++ each text xs

-- bytes of seven bits, the low ones first
unfoldable pub groups : ℕ → ℕ → List ℕ
groups zero n = n ∷ []
groups (suc left) n = if nat_lt n 128 then n ∷ [] else (128 + n % 128) ∷ groups left (n / 128)

abbrev pub header_text : Circuit → List ℕ
header_text c = codes "aig" ++ spaced (maximum c ∷ c.inputs ∷ length c.latches ∷ length c.outputs ∷ length c.gates
    ∷ length c.bad ∷ length c.constraints ∷ [])

abbrev pub latch_text : Latch → List ℕ
latch_text x = decimal x.next ++ spaced (reset_code x.reset (2 * x.var) ∷ [])

abbrev pub lit_text : ℕ → List ℕ
lit_text l = decimal l ++ 10 ∷ []

abbrev pub gate_bytes : Gate → List ℕ
gate_bytes g = groups 4 (2 * g.var - g.left) ++ groups 4 (g.left - g.right)

abbrev pub binary_text : Circuit → List ℕ
binary_text c = header_text c ++ (each latch_text c.latches ++ (each lit_text c.outputs ++ (each lit_text c.bad
    ++ (each lit_text c.constraints ++ each gate_bytes c.gates))))

-- ---- circuits that have a text

-- latches with the variables from v on, whose next literals are of m variables at most
abbrev pub AreLatches : ℕ → ℕ → List Latch → Type 0
AreLatches m v [] = Unit {0}
AreLatches m v (x ∷ xs) = (x.var ≡ v) × (var_of x.next ≤ m) × AreLatches m (suc v) xs

abbrev pub AreGates : ℕ → List Gate → Type 0
AreGates v [] = Unit {0}
AreGates v (g ∷ gs) = (g.var ≡ v) × (g.left < 2 * v) × (g.right ≤ g.left) × AreGates (suc v) gs

abbrev pub AreLits : ℕ → List ℕ → Type 0
AreLits m [] = Unit {0}
AreLits m (l ∷ ls) = (var_of l ≤ m) × AreLits m ls

pub record IsNumbered (c : Circuit) : Type 0 where
  pub sized : IsSized c
  pub latches : AreLatches (maximum c) (suc c.inputs) c.latches
  pub outputs : AreLits (maximum c) c.outputs
  pub bad : AreLits (maximum c) c.bad
  pub constraints : AreLits (maximum c) c.constraints
  pub gates : AreGates (suc (c.inputs + length c.latches)) c.gates
