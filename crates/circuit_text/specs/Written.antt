-- AIGER as it is written: which texts are of a circuit.
--     IsAiger text c      the text is of this circuit, in the binary form or the text form
use Rattle.std.specs.Prelude.{◌≡◌, ℕ, zero, suc, ◌+◌, ◌-◌, ◌*◌, ◌^◌, ◌%◌, ◌<◌, ◌≤◌, Bool, true, false, ◌==◌, List, [], ◌∷◌, ◌++◌, length, codes, Option, Some, None, ◌⊎◌, not}
use Rattle.std.specs.List.{list_all}
use Rattle.sat_rules.specs.Clauses.{var_of}
use Rattle.sat_formula.specs.Bytes.{is_digit, is_lf}
use Rattle.circuit_rules.specs.Circuits.{Gate, Latch}
use Rattle.circuit_text.specs.Circuits.{Circuit}

-- the text is these bytes
abbrev pub Is : List ℕ → List ℕ → Type 0
Is bytes text = text ≡ bytes

-- the text is one of the first form, followed by one of the second
pub record Then (first second : List ℕ → Type 0) (text : List ℕ) : Type 0 where
  pub before : List ℕ
  pub after : List ℕ
  pub whole : text ≡ before ++ after
  pub begins : first before
  pub ends : second after

-- the text is one of this form for each of a list, whose variables count from v
abbrev pub Each : {A : Type 0} → (ℕ → A → List ℕ → Type 0) → ℕ → List A → List ℕ → Type 0
Each form v [] = Is []
Each form v (x ∷ xs) = Then (form v x) (Each form (suc v) xs)

-- the value of decimal digits, after those of the value v
abbrev pub decimal_from : ℕ → List ℕ → ℕ
decimal_from v [] = v
decimal_from v (d ∷ ds) = decimal_from (v * 10 + (d - 48)) ds

-- one or more decimal digits of this value; zeros may come first
pub record Number (n : ℕ) (text : List ℕ) : Type 0 where
  pub some : 0 < length text
  pub digits : list_all is_digit text ≡ true
  pub value : decimal_from 0 text ≡ n

-- a space and a number
abbrev pub Field : ℕ → List ℕ → Type 0
Field n = Then (Is (32 ∷ [])) (Number n)

-- a number in at most this many bytes of seven bits, the low ones first; each but the last has 128 added; the last ones may be 0
abbrev pub Groups : ℕ → ℕ → List ℕ → Type 0
Groups left n [] = ⊥
Groups zero n (b ∷ bs) = ⊥
Groups (suc left) n (b ∷ bs) = ((b < 128) × (n ≡ b) × (bs ≡ []))
    ⊎ ((128 ≤ b) × ((high : ℕ) × (n ≡ b % 128 + high * 128) × Groups left high bs))

-- ---- the header

-- the maximal variable: inputs, latches and gates have the variables from 1 on, in this order
abbrev pub maximum : Circuit → ℕ
maximum c = c.inputs + length c.latches + length c.gates

-- numbers up to the end of the line; zeros that come last may be left out
abbrev pub Counts : List ℕ → List ℕ → Type 0
Counts [] text = Is (10 ∷ []) text
Counts (n ∷ ns) text = ((list_all (λ m. m == 0) (n ∷ ns) ≡ true) × Is (10 ∷ []) text) ⊎ Then (Field n) (Counts ns) text

-- M I L O A, then B C J F; there is no justice property and no fairness constraint
abbrev pub Header : List ℕ → Circuit → List ℕ → Type 0
Header word c = Then (Is word) (Then (Field (maximum c)) (Then (Field c.inputs) (Then (Field (length c.latches))
    (Then (Field (length c.outputs)) (Then (Field (length c.gates))
    (Counts (length c.bad ∷ length c.constraints ∷ 0 ∷ 0 ∷ [])))))))

-- each count, and so each variable, is below 2^28
pub record IsSized (c : Circuit) : Type 0 where
  pub variables : maximum c < 2 ^ 28
  pub outputs : length c.outputs < 2 ^ 28
  pub bad : length c.bad < 2 ^ 28
  pub constraints : length c.constraints < 2 ^ 28

-- ---- literals, latches and gates

-- the code of a literal whose variable is at most m
abbrev pub Lit : ℕ → ℕ → List ℕ → Type 0
Lit m l text = (var_of l ≤ m) × Number l text

-- such a literal on a line of its own
abbrev pub LitLine : ℕ → ℕ → ℕ → List ℕ → Type 0
LitLine m v l = Then (Lit m l) (Is (10 ∷ []))

-- outputs, bad state properties and invariant constraints, and then a text of another form
abbrev pub LitLines : Circuit → (List ℕ → Type 0) → List ℕ → Type 0
LitLines c rest = Then (Each (LitLine (maximum c)) 0 c.outputs)
    (Then (Each (LitLine (maximum c)) 0 c.bad) (Then (Each (LitLine (maximum c)) 0 c.constraints) rest))

-- the code of a reset: 0, 1, or the latch itself, whose first value is free then
abbrev pub reset_code : Option Bool → ℕ → ℕ
reset_code (Some false) own = 0
reset_code (Some true) own = 1
reset_code None own = own

-- the reset of a latch and the end of its line; a 0 may be left out
abbrev pub Reset : Latch → List ℕ → Type 0
Reset x text = ((x.reset ≡ Some false) × Is (10 ∷ []) text)
    ⊎ Then (Field (reset_code x.reset (2 * x.var))) (Is (10 ∷ [])) text

-- the latch of the variable v; in the text form its own literal comes first
abbrev pub LatchLine : ℕ → ℕ → Latch → List ℕ → Type 0
LatchLine m v x text = (x.var ≡ v) × Then (Lit m x.next) (Reset x) text

abbrev pub OwnLatchLine : ℕ → ℕ → Latch → List ℕ → Type 0
OwnLatchLine m v x = Then (Number (2 * v)) (Then (Is (32 ∷ [])) (LatchLine m v x))

-- the gate of the variable v: in the binary form two differences, in the text form a line of three literals
abbrev pub GateBytes : ℕ → Gate → List ℕ → Type 0
GateBytes v g text = (g.var ≡ v) × (g.left < 2 * v) × (g.right ≤ g.left)
    × Then (Groups 5 (2 * v - g.left)) (Groups 5 (g.left - g.right)) text

abbrev pub GateLine : ℕ → Gate → List ℕ → Type 0
GateLine v g text = (g.var ≡ v) × (g.left < 2 * v) × (g.right < 2 * v)
    × Then (Number (2 * v)) (Then (Field g.left) (Then (Field g.right) (Is (10 ∷ [])))) text

-- the literals of n inputs from the variable v on, in the text form
abbrev pub InputLines : ℕ → ℕ → List ℕ → Type 0
InputLines v zero = Is []
InputLines v (suc n) = Then (Then (Number (2 * v)) (Is (10 ∷ []))) (InputLines (suc v) n)

-- ---- after the gates

-- the letter of a kind of symbols (i, l, o, b, c), and how many there may be
abbrev pub IsKind : Circuit → ℕ → ℕ → Type 0
IsKind c letter count = ((letter ≡ 105) × (count ≡ c.inputs)) ⊎ (((letter ≡ 108) × (count ≡ length c.latches))
    ⊎ (((letter ≡ 111) × (count ≡ length c.outputs)) ⊎ (((letter ≡ 98) × (count ≡ length c.bad))
    ⊎ ((letter ≡ 99) × (count ≡ length c.constraints)))))

-- the line of a symbol: its kind, its position, a space and a name
pub record Symbol (c : Circuit) (name text : List ℕ) : Type 0 where
  pub letter : ℕ
  pub count : ℕ
  pub position : ℕ
  pub kind : IsKind c letter count
  pub small : position < count
  pub in_line : list_all (λ b. not (is_lf b)) name ≡ true
  pub line : Then (Is (letter ∷ [])) (Then (Number position) (Is (32 ∷ name ++ 10 ∷ []))) text

-- nothing, or a line that is `c` alone, and any bytes
abbrev pub Comment : List ℕ → Type 0
Comment text = (text ≡ []) ⊎ ((any : List ℕ) × (text ≡ 99 ∷ 10 ∷ any))

-- symbols and a comment
abbrev pub Rest : Circuit → List ℕ → Type 0
Rest c text = (names : List (List ℕ)) × Then (Each (λ v name. Symbol c name) 0 names) Comment text

-- ---- the two forms

abbrev pub BinaryForm : Circuit → List ℕ → Type 0
BinaryForm c = Then (Header (codes "aig") c) (Then (Each (LatchLine (maximum c)) (suc c.inputs) c.latches)
    (LitLines c (Then (Each GateBytes (suc (c.inputs + length c.latches)) c.gates) (Rest c))))

abbrev pub TextForm : Circuit → List ℕ → Type 0
TextForm c = Then (Header (codes "aag") c) (Then (InputLines 1 c.inputs)
    (Then (Each (OwnLatchLine (maximum c)) (suc c.inputs) c.latches)
    (LitLines c (Then (Each GateLine (suc (c.inputs + length c.latches)) c.gates) (Rest c)))))

-- the text is of this circuit
pub record IsAiger (text : List ℕ) (c : Circuit) : Type 0 where
  pub sized : IsSized c
  pub form : BinaryForm c text ⊎ TextForm c text
