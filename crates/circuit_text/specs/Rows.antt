-- What some texts say: a circuit, or a fault and where it is.
use Rattle.std.specs.Prelude.{◌≡◌, [], ◌∷◌, ◌++◌, codes, Some, None, true, false}
use Rattle.circuit_text.specs.declared.fault.AigerKind.TheVariants as kinds
use Rattle.circuit_text.specs.declared.fault.Location.TheVariants.{Line, Gate}
use Rattle.circuit_text.specs.automaton.Aigers.{Says, Faulty, outcome_of}

-- one fact a row
pub record AigerRows : Type 0 where
  -- the conjunction of two inputs: literal 6 is 4 and 2
  pub gate : outcome_of (codes "aig 3 2 0 1 1\n6\n" ++ 2 ∷ 2 ∷ []) ≡ Says (record {
    inputs = 2;
    latches = [];
    outputs = 6 ∷ [];
    bad = [];
    constraints = [];
    gates = record { var = 3; left = 4; right = 2 } ∷ [];
  })
  -- latches that begin with 0, with 1, and with any value
  pub latches : outcome_of (codes "aig 3 0 3 0 0\n3\n5 1\n6 6\n") ≡ Says (record {
    inputs = 0;
    latches = record { var = 1; next = 3; reset = Some false } ∷ record { var = 2; next = 5; reset = Some true }
        ∷ record { var = 3; next = 6; reset = None } ∷ [];
    outputs = [];
    bad = [];
    constraints = [];
    gates = [];
  })
  -- an output, a bad output and a constraint, symbols, and a comment
  pub others : outcome_of (codes "aig 1 1 0 1 0 1 1\n1\n2\n3\ni0 x y\nb0 \nc0 z\nc\nany\n") ≡ Says (record {
    inputs = 1;
    latches = [];
    outputs = 1 ∷ [];
    bad = 2 ∷ [];
    constraints = 3 ∷ [];
    gates = [];
  })
  -- the text form: an input, a latch and their conjunction
  pub text : outcome_of (codes "aag 3 1 1 1 1\n2\n4 6 1\n6\n6 2 5\nl0 x\n") ≡ Says (record {
    inputs = 1;
    latches = record { var = 2; next = 6; reset = Some true } ∷ [];
    outputs = 6 ∷ [];
    bad = [];
    constraints = [];
    gates = record { var = 3; left = 2; right = 5 } ∷ [];
  })
  pub order : outcome_of (codes "aag 2 2 0 0 0\n4\n2\n") ≡ Faulty (Line 2) kinds.OtherOrder
  pub later : outcome_of (codes "aag 3 1 0 0 2\n2\n4 2 6\n6 2 2\n") ≡ Faulty (Line 3) kinds.LaterGate
  pub no_header : outcome_of (codes "p cnf 0 0\n") ≡ Faulty (Line 1) kinds.NoHeader
  pub short : outcome_of (codes "aig 0 0 0 0\n") ≡ Faulty (Line 1) kinds.Malformed
  pub maximum : outcome_of (codes "aig 2 1 0 0 0\n") ≡ Faulty (Line 1) kinds.WrongMaximum
  pub justice : outcome_of (codes "aig 0 0 0 0 0 0 0 1\n") ≡ Faulty (Line 1) kinds.Justice
  pub range : outcome_of (codes "aig 1 1 0 1 0\n4\n") ≡ Faulty (Line 2) kinds.LiteralOutOfRange
  pub reset : outcome_of (codes "aig 2 0 2 0 0\n3\n5 2\n") ≡ Faulty (Line 3) kinds.WrongReset
  pub itself : outcome_of (codes "aig 2 1 0 0 1\n" ++ 0 ∷ 0 ∷ []) ≡ Faulty (Gate 2) kinds.GateOrder
  pub cut : outcome_of (codes "aig 2 1 0 0 1\n" ++ 2 ∷ []) ≡ Faulty (Gate 2) kinds.Unfinished
  pub symbol : outcome_of (codes "aig 1 1 0 0 0\ni1 x\n") ≡ Faulty (Line 2) kinds.SymbolOutOfRange
