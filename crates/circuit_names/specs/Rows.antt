-- The names in some texts, and a circuit in another order.
use Rattle.std.specs.Prelude.{◌≡◌, [], ◌∷◌, ◌++◌, codes}
use Rattle.circuit_text.specs.Circuits.{Circuit}
use Rattle.circuit_names.specs.declared.place.Kind.TheVariants.{Input, Output}
use Rattle.circuit_names.specs.Names.{said_name}
use Rattle.circuit_names.specs.Pairs.{arranged}

-- of two inputs, the conjunction of the first one and the negation of the second one, and that negation
abbrev pub one : Circuit
one = record {
  inputs = 2;
  latches = [];
  outputs = 6 ∷ 5 ∷ [];
  bad = [];
  constraints = [];
  gates = record { var = 3; left = 2; right = 5 } ∷ [];
}

-- the same where its first input is the second one of another circuit, and its first output too
abbrev pub other : Circuit
other = record one { outputs = 3 ∷ 6 ∷ []; gates = record { var = 3; left = 4; right = 3 } ∷ [] }

-- one fact a row
pub record NameRows : Type 0 where
  pub input : said_name (codes "aag 2 2 0 1 0\n2\n4\n2\ni0 a b\ni1 clk\no0 y\n") Input 1 ≡ codes "clk"
  pub blank : said_name (codes "aag 2 2 0 1 0\n2\n4\n2\ni0 a b\ni1 clk\no0 y\n") Input 0 ≡ codes "a b"
  pub output : said_name (codes "aag 2 2 0 1 0\n2\n4\n2\ni0 a b\ni1 clk\no0 y\n") Output 0 ≡ codes "y"
  -- in the binary form; the first number of the gate is 10, an LF
  pub binary : said_name (codes "aig 7 6 0 1 1\n14\n" ++ 10 ∷ 0 ∷ codes "o0 y\n") Output 0 ≡ codes "y"
  -- lines of bad outputs and constraints, and their names, are not those of outputs
  pub others : said_name (codes "aig 1 1 0 1 0 1 1\n2\n2\n2\nb0 x\nc0 z\no0 y\n") Output 0 ≡ codes "y"
  -- the last symbol counts
  pub twice : said_name (codes "aig 1 1 0 0 0\ni0 a\ni0 b\n") Input 0 ≡ codes "b"
  -- no symbol, one in the comment, and a text that is no circuit
  pub none : said_name (codes "aig 1 1 0 0 0\n") Input 0 ≡ []
  pub comment : said_name (codes "aig 1 1 0 0 0\nc\ni0 a\n") Input 0 ≡ []
  pub fault : said_name (codes "aig 1 1 0 0 0\ni1 a\n") Input 0 ≡ []
  -- each input has become the one at its place, with its sign; a gate and the constant stay
  pub turned : arranged (1 ∷ 0 ∷ []) (1 ∷ 0 ∷ []) one ≡ other
  pub kept : arranged (0 ∷ 1 ∷ []) (0 ∷ 1 ∷ []) one ≡ one
  pub constant : arranged (1 ∷ 0 ∷ []) (0 ∷ 1 ∷ []) (record one { outputs = 0 ∷ 1 ∷ []; gates = [] })
      ≡ record one { outputs = 0 ∷ 1 ∷ []; gates = [] }
