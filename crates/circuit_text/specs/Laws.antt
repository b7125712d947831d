-- Laws of the reader and of texts as they are written.
--     WrittenIsRead, ReadIsWritten      a text is of a circuit if and only if it is read as this circuit
--     HasOneCircuit      a text is of one circuit at most
--     TextIsRead      the text that a writer makes is read
use Rattle.std.specs.Prelude.{◌≡◌, ℕ, List, ◌++◌}
use Rattle.circuit_text.specs.automaton.Aigers.{Says, outcome_of}
use Rattle.circuit_text.specs.Circuits.{Circuit}
use Rattle.circuit_text.specs.Written.{IsAiger, Rest}
use Rattle.circuit_text.specs.Writing.{IsNumbered, binary_text}

-- a text of a circuit is read as this circuit
abbrev pub WrittenIsRead : Type 0
WrittenIsRead = (text : List ℕ) (c : Circuit) → IsAiger text c → outcome_of text ≡ Says c

-- a text that is read as a circuit is a text of this circuit
abbrev pub ReadIsWritten : Type 0
ReadIsWritten = (text : List ℕ) (c : Circuit) → outcome_of text ≡ Says c → IsAiger text c

-- a text is of one circuit at most
abbrev pub HasOneCircuit : Type 0
HasOneCircuit = (text : List ℕ) (c d : Circuit) → IsAiger text c → IsAiger text d → c ≡ d

-- the text that a writer makes of a circuit is read as this circuit, with symbols and a comment after it or without
abbrev pub TextIsRead : Type 0
TextIsRead = (c : Circuit) (rest : List ℕ) → IsNumbered c → Rest c rest → outcome_of (binary_text c ++ rest) ≡ Says c
