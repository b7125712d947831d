-- What some texts say: the values of latches and inputs, or a fault and its line.
use Rattle.std.specs.Prelude.{◌≡◌, true, false, [], ◌∷◌, codes}
use Rattle.stimulus_text.specs.declared.fault.StimulusKind.TheVariants.{Malformed, Unreached, Unknown, OtherLatches, OtherInputs, Unfinished}
use Rattle.stimulus_text.specs.declared.spot.Shape.{Shape}
use Rattle.stimulus_text.specs.automaton.Texts.{Says, Faulty, outcome_of}

-- two latches and one input
abbrev pub two_one : Shape
two_one = record { latches = 2; inputs = 1 }

-- a latch, and no input
abbrev pub one_none : Shape
one_none = record { latches = 1; inputs = 0 }

-- one fact a row
pub record StimulusRows : Type 0 where
  pub steps : outcome_of two_one (codes "1\nb0\n01\n1\n0\n1\n.\nc any\n")
      ≡ Says (false ∷ true ∷ []) ((true ∷ []) ∷ (false ∷ []) ∷ (true ∷ []) ∷ [])
  -- any values are 0; properties may be on one line, on several, or not named
  pub any : outcome_of two_one (codes "1\nb0 b12\nb3\nx1\nx\n.") ≡ Says (false ∷ true ∷ []) ((false ∷ []) ∷ [])
  pub no_names : outcome_of two_one (codes "1\n00\n.\n") ≡ Says (false ∷ false ∷ []) []
  -- a step without inputs is an empty line
  pub no_inputs : outcome_of one_none (codes "1\nb0\n1\n\n\n.\n") ≡ Says (true ∷ []) ([] ∷ [] ∷ [])
  pub safe : outcome_of two_one (codes "0\nb0\n.\n") ≡ Faulty 1 Unreached
  pub unknown : outcome_of two_one (codes "2\n") ≡ Faulty 1 Unknown
  pub no_status : outcome_of two_one (codes "b0\n00\n0\n.\n") ≡ Faulty 1 Malformed
  pub justice : outcome_of two_one (codes "1\nj0\n00\n0\n.\n") ≡ Faulty 2 Malformed
  pub no_number : outcome_of two_one (codes "1\nb\n00\n0\n.\n") ≡ Faulty 2 Malformed
  pub few_latches : outcome_of two_one (codes "1\nb0\n0\n0\n.\n") ≡ Faulty 3 OtherLatches
  pub many_inputs : outcome_of two_one (codes "1\nb0\n00\n0\n01\n.\n") ≡ Faulty 5 OtherInputs
  pub few_inputs : outcome_of two_one (codes "1\nb0\n00\n\n.\n") ≡ Faulty 4 OtherInputs
  pub no_end : outcome_of two_one (codes "1\nb0\n00\n0\n") ≡ Faulty 5 Unfinished
  pub second : outcome_of two_one (codes "1\nb0\n00\n0\n.\n1\n") ≡ Faulty 6 Malformed
