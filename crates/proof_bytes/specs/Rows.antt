-- Worked rows of the definitions, as bytes and what they denote.
--     NumberRows      numbers and their bytes, both ways
--     StepRows      the first steps of texts of version 1, whole and hostile
--     WidthRows      texts of version 2
--     WriterRows      what a writer writes
use Rattle.std.specs.Prelude.{◌≡◌, ℕ, ◌-◌, ◌^◌, List, [], ◌∷◌, Some, None, false, true, Ok}
use Rattle.std.proofs.Common.{inl, inr}
use Rattle.checker_rules.specs.Step.{Step, by_redundant, by_satisfied, user_var_name, add_clause, at_clause, delete_clause, unit_clauses, change_hash_bits, model, failed_assumptions, end_proof}
use Rattle.proof_bytes.specs.declared.fault.MalformedStep.TheVariants.{UnknownTag, BadNumber, OutOfRange}
use Rattle.proof_bytes.specs.declared.format.Format.TheVariants.{Numbers, Bytes}
use Rattle.proof_bytes.specs.Reading.{Fault, Short, Wrong, number_at}
use Rattle.written_numbers.specs.GroupedBytes.{number_bytes}
use Rattle.proof_bytes.specs.Spelling.{all_fit, hashes_of}
use Rattle.proof_bytes.specs.Texts.{ReadsTo, next_of, start_of}
use Rattle.proof_bytes.specs.Version2.{text_2, writing, written_after}

-- the number is written so, and nothing else is read as it
abbrev pub Stands : ℕ → List ℕ → Type 0
Stands n bytes = (number_bytes n ≡ bytes) × (number_at bytes ≡ Ok (n, []))

-- a text of version 1 is this one step
abbrev pub IsOne : List ℕ → Step → Type 0
IsOne bytes step = next_of (start_of bytes) ≡ inl (step, (Numbers, []))

-- a text begins with this fault
abbrev pub IsNone : List ℕ → Fault → Type 0
IsNone bytes fault = next_of (start_of bytes) ≡ inr fault

-- the table of numbers
pub record NumberRows : Type 0 where
  pub zero : Stands 0 (0x00 ∷ [])
  pub one_group : Stands 127 (0x7F ∷ [])
  pub two_groups : Stands 128 (0x80 ∷ 0x01 ∷ [])
  pub three_hundred : Stands 300 (0xAC ∷ 0x02 ∷ [])
  pub last_variable : Stands (2 ^ 28 - 1) (0xFF ∷ 0xFF ∷ 0xFF ∷ 0x7F ∷ [])
  pub last_name : Stands (2 ^ 28) (0x80 ∷ 0x80 ∷ 0x80 ∷ 0x80 ∷ 0x01 ∷ [])
  pub last_literal : Stands (2 ^ 29 - 1) (0xFF ∷ 0xFF ∷ 0xFF ∷ 0xFF ∷ 0x01 ∷ [])
  pub last : Stands (2 ^ 64 - 1) (0xFF ∷ 0xFF ∷ 0xFF ∷ 0xFF ∷ 0xFF ∷ 0xFF ∷ 0xFF ∷ 0xFF ∷ 0xFF ∷
      0x01 ∷ [])

-- texts of version 1, and bytes that are none
pub record StepRows : Type 0 where
  pub empty : IsNone [] Short
  pub ended : IsOne (0x0D ∷ []) end_proof
  pub short : IsNone (0x05 ∷ 0x02 ∷ 0x00 ∷ []) Short
  pub zero_group : IsNone (0x05 ∷ 0x81 ∷ 0x00 ∷ []) (Wrong BadNumber)
  pub no_tag : IsNone (0x0E ∷ []) (Wrong UnknownTag)
  pub no_width : IsOne (0x09 ∷ 0x00 ∷ []) (change_hash_bits 0)
  pub wide : IsOne (0x09 ∷ 0x41 ∷ []) (change_hash_bits 65)
  pub width : ReadsTo (start_of (0x09 ∷ 0x40 ∷ 0x0D ∷ [])) (change_hash_bits 64 ∷ end_proof ∷ [])
      (Numbers, [])
  pub two_units : ReadsTo (start_of (0x05 ∷ 0x01 ∷ 0x00 ∷ 0x05 ∷ 0x01 ∷ 0x01 ∷ 0x0D ∷ []))
      (add_clause (0 ∷ []) ∷ add_clause (1 ∷ []) ∷ end_proof ∷ []) (Numbers, [])
  pub two_checks : ReadsTo (start_of
      (0x09 ∷ 0x01 ∷ 0x06 ∷ 0x00 ∷ 0x01 ∷ 0x00 ∷ 0x02 ∷ 0x01 ∷ 0x00 ∷ 0x06 ∷ 0x00 ∷ 0x00 ∷ 0x02 ∷
      0x00 ∷ 0x01 ∷ 0x0D ∷ []))
      (change_hash_bits 1 ∷ at_clause false (0 ∷ []) (1 ∷ 0 ∷ []) ∷
      at_clause false [] (0 ∷ 1 ∷ []) ∷ end_proof ∷ []) (Numbers, [])
  pub huge_count : IsNone (0x05 ∷ 0xFF ∷ 0xFF ∷ 0xFF ∷ 0xFF ∷ 0xFF ∷ 0xFF ∷ 0xFF ∷ 0xFF ∷ 0xFF ∷
      0x01 ∷ []) Short
  pub too_long : IsNone (0x05 ∷ 0xFF ∷ 0xFF ∷ 0xFF ∷ 0xFF ∷ 0xFF ∷ 0xFF ∷ 0xFF ∷ 0xFF ∷ 0xFF ∷
      0x02 ∷ []) (Wrong BadNumber)
  pub no_literal : IsNone (0x05 ∷ 0x01 ∷ 0x80 ∷ 0x80 ∷ 0x80 ∷ 0x80 ∷ 0x02 ∷ []) (Wrong OutOfRange)
  pub no_variable : IsNone (0x03 ∷ 0x80 ∷ 0x80 ∷ 0x80 ∷ 0x80 ∷ 0x01 ∷ []) (Wrong OutOfRange)
  pub no_name : IsNone (0x01 ∷ 0x00 ∷ 0x81 ∷ 0x80 ∷ 0x80 ∷ 0x80 ∷ 0x01 ∷ []) (Wrong OutOfRange)
  pub no_mode : IsNone (0x04 ∷ 0x00 ∷ 0x02 ∷ []) (Wrong OutOfRange)
  pub no_justification : IsNone (0x07 ∷ 0x03 ∷ []) (Wrong OutOfRange)
  pub no_bits : IsNone (0x09 ∷ 0x80 ∷ 0x80 ∷ 0x80 ∷ 0x80 ∷ 0x10 ∷ []) (Wrong OutOfRange)
  pub no_hash : IsNone (0x08 ∷ 0x01 ∷ 0x00 ∷ []) Short
  pub one_literal : IsOne (0x0A ∷ 0x01 ∷ 0x00 ∷ []) (model (0 ∷ []))
  pub satisfied : IsOne (0x07 ∷ 0x01 ∷ 0x02 ∷ 0x00 ∷ 0x02 ∷ [])
      (delete_clause by_satisfied (0 ∷ 2 ∷ []))
  pub redundant : IsOne (0x07 ∷ 0x00 ∷ 0x01 ∷ 0x00 ∷ []) (delete_clause by_redundant (0 ∷ []))
  pub opposite : IsOne (0x06 ∷ 0x00 ∷ 0x02 ∷ 0x00 ∷ 0x01 ∷ 0x00 ∷ [])
      (at_clause false (0 ∷ 1 ∷ []) [])
  pub nothing : IsOne (0x06 ∷ 0x00 ∷ 0x00 ∷ 0x00 ∷ []) (at_clause false [] [])
  pub one_hash : IsOne (0x06 ∷ 0x00 ∷ 0x00 ∷ 0x01 ∷ 0x07 ∷ []) (at_clause false [] (7 ∷ []))
  pub one_unit : IsOne (0x08 ∷ 0x01 ∷ 0x00 ∷ 0x07 ∷ []) (unit_clauses ((0, 7) ∷ []))
  pub one_core : IsOne (0x0C ∷ 0x01 ∷ 0x00 ∷ 0x00 ∷ []) (failed_assumptions (0 ∷ []) [])
  pub unnamed : IsOne (0x02 ∷ 0x00 ∷ 0x00 ∷ []) (user_var_name 0 None)
  pub named : IsOne (0x02 ∷ 0x00 ∷ 0x05 ∷ []) (user_var_name 0 (Some 4))

-- texts of version 2, with the width in force after them
pub record WidthRows : Type 0 where
  pub half_a_mark : IsNone (0x00 ∷ []) Short
  pub no_mark : IsNone (0x00 ∷ 0x01 ∷ []) (Wrong UnknownTag)
  pub second_mark : IsNone (0x00 ∷ 0x02 ∷ 0x00 ∷ 0x02 ∷ 0x0D ∷ []) (Wrong UnknownTag)
  pub ended : next_of (start_of (0x00 ∷ 0x02 ∷ 0x0D ∷ [])) ≡ inl (end_proof, (Bytes 64, []))
  pub late_mark : next_of (Numbers, 0x00 ∷ 0x02 ∷ 0x0D ∷ []) ≡ inr (Wrong UnknownTag)
  pub no_width : next_of (start_of (0x00 ∷ 0x02 ∷ 0x09 ∷ 0x00 ∷ [])) ≡
      inl (change_hash_bits 0, (Bytes 64, []))
  pub wide : next_of (start_of (0x00 ∷ 0x02 ∷ 0x09 ∷ 0x41 ∷ [])) ≡
      inl (change_hash_bits 65, (Bytes 64, []))
  pub width : next_of (start_of (0x00 ∷ 0x02 ∷ 0x09 ∷ 0x09 ∷ [])) ≡
      inl (change_hash_bits 9, (Bytes 9, []))
  pub too_wide : next_of (Bytes 9, 0x06 ∷ 0x00 ∷ 0x00 ∷ 0x01 ∷ 0x00 ∷ 0x02 ∷ 0x0D ∷ []) ≡
      inr (Wrong OutOfRange)
  pub widest : ReadsTo (start_of (0x00 ∷ 0x02 ∷ 0x09 ∷ 0x09 ∷ 0x06 ∷ 0x00 ∷ 0x00 ∷ 0x01 ∷ 0xFF ∷
      0x01 ∷ 0x0D ∷ [])) (change_hash_bits 9 ∷ at_clause false [] (511 ∷ []) ∷ end_proof ∷ [])
      (Bytes 9, [])
  pub two_checks : ReadsTo (start_of
      (0x00 ∷ 0x02 ∷ 0x06 ∷ 0x00 ∷ 0x01 ∷ 0x00 ∷ 0x02 ∷ 0x2A ∷ 0x08 ∷ 0x95 ∷ 0x02 ∷ 0x93 ∷ 0x75 ∷
      0xAF ∷ 0xC4 ∷ 0x41 ∷ 0x8C ∷ 0x63 ∷ 0x82 ∷ 0x54 ∷ 0xFF ∷ 0xE7 ∷ 0x66
      ∷ 0x06 ∷ 0x00 ∷ 0x00 ∷ 0x02 ∷ 0x15 ∷ 0x8C ∷ 0x4B ∷ 0x83 ∷ 0x5A ∷ 0xFE ∷ 0xD7 ∷ 0x66 ∷ 0x7E ∷
      0x08 ∷ 0xBD ∷ 0x03 ∷ 0x9D ∷ 0x74 ∷ 0x9F ∷ 0xC4 ∷ 0x0D ∷ []))
      (at_clause false (0 ∷ []) (0xC4AF75930295082A ∷ 0x66E7FF5482638C41 ∷ []) ∷
      at_clause false [] (0x66D7FE5A834B8C15 ∷ 0xC49F749D03BD087E ∷ []) ∷ end_proof ∷ [])
      (Bytes 64, [])

-- a writer of version 2: the mark occurs once, and a hash of ten bits is rejected at width 9
pub record WriterRows : Type 0 where
  pub first : text_2 (change_hash_bits 9 ∷ []) ≡ 0x00 ∷ 0x02 ∷ 0x09 ∷ 0x09 ∷ []
  pub refused : all_fit (writing (written_after (change_hash_bits 9 ∷ [])))
      (hashes_of (at_clause false [] (512 ∷ []))) ≡ false
  pub allowed : all_fit (writing (written_after (change_hash_bits 9 ∷ [])))
      (hashes_of (at_clause false [] (511 ∷ []))) ≡ true
  pub second : text_2 (change_hash_bits 9 ∷ at_clause false [] (511 ∷ []) ∷ []) ≡
      0x00 ∷ 0x02 ∷ 0x09 ∷ 0x09 ∷ 0x06 ∷ 0x00 ∷ 0x00 ∷ 0x01 ∷ 0xFF ∷ 0x01 ∷ []
