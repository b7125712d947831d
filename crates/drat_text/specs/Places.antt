-- A proof, a byte after the other, by the rules of its kind. Text: steps of numbers up to one that ends them, after a letter
-- or not; comments between them say nothing. Binary: a letter, and then numbers of seven bits a byte, low first.
--     Rules      what steps begin with, and what numbers do in them
--     Place, After, after      the position of a byte, and what it does there
--     at_end      what the end of the input gives
use Rattle.std.specs.Prelude.{ℕ, ◌+◌, ◌-◌, ◌*◌, ◌/◌, ◌%◌, ◌^◌, min, Bool, true, false, [], ◌∷◌, Option, Some, None, ◌==◌, if◌then◌else◌}
use Rattle.sat_formula.specs.Bytes.{minus_sign, digit_zero, is_digit, is_lf}
use Rattle.drat_text.specs.declared.bytes.Format.{Format}
use Rattle.drat_text.specs.declared.bytes.Format.TheVariants.{Text, Binary}
use Rattle.drat_text.specs.declared.fault.DratKind.{DratKind}
use Rattle.drat_text.specs.declared.fault.DratKind.TheVariants.{Malformed, NumberTooLarge, Unfinished}
use Rattle.drat_text.specs.Bytes.{is_space}
use Rattle.drat_text.specs.Codes.{Code, Partial, TooLong, Whole, code_after}
use Rattle.drat_text.specs.Steps.{Outcome, Ended, Faulty}

-- what was read of a number: a `-`; digits of this value, after a `-` or not; groups of this value, and the next one's weight
pub data Number : Type 0 where
  Sign : Number
  Digits : Bool → ℕ → Number
  Groups : ℕ → ℕ → Number

-- between steps, in a comment, between the numbers of a step of which this was read, or in a number of it
pub data Place (S : Type 0) : Type 0 where
  Outside : Place S
  Comment : Place S
  Within : S → Place S
  InNumber : S → Number → Place S

-- what one byte or number does: the reading continues, a step ends, or nothing more is read
pub data After (S T : Type 0) : Type 0 where
  Goes : Place S → After S T
  Gives : T → After S T
  Stops : DratKind → After S T

-- the weights of a number's last byte, the fifth or the ninth
pub data IsLastWeight : ℕ → Type 0 where
  fifth_last : IsLastWeight 268435456
  ninth_last : IsLastWeight 72057594037927936

-- a kind of proof, where S is what was read of a step, and T a step
pub record Rules (S T : Type 0) : Type 0 where
  -- a byte begins a comment of a text
  pub begins_comment : ℕ → Bool
  -- a step begins with this letter
  pub letter : Format → ℕ → Option S
  -- a step of text that has no letter, if there are such
  pub bare : Option S
  -- binary numbers have a sign here, as their last bit
  pub is_signed : S → Bool
  -- a number of this value, after a `-` or not
  pub said : S → Bool → ℕ → After S T
  -- the weight of the last byte that a binary number can have
  pub last_weight : ℕ
  -- the format by the first byte, unless the bytes after it are asked too
  pub first_tells : ℕ → Option Format

-- a digit after these; a value above 2^60 is kept only as such
abbrev pub with_digit : ℕ → ℕ → ℕ
with_digit v b = min v (2 ^ 60) * 10 + (b - digit_zero)

-- ---- in a step

module _ {S T : Type 0} where
  -- a first digit, after a `-` or not
  abbrev pub first_digit : S → Bool → ℕ → After S T
  first_digit slot negative b =
      if is_digit b then Goes (InNumber slot (Digits negative (b - digit_zero)))
      else Stops Malformed

  -- the first byte of a number
  abbrev pub first_of_number : S → ℕ → After S T
  first_of_number slot b =
      if b == minus_sign then Goes (InNumber slot Sign) else first_digit slot false b

  -- the first byte of a step of text that may have no letter
  abbrev pub begins_bare : Option S → ℕ → After S T
  begins_bare (Some slot) b = first_of_number slot b
  begins_bare None b = Stops Malformed

  -- a letter; without one, this
  abbrev pub begins_with : Option S → After S T → After S T
  begins_with (Some slot) other = Goes (Within slot)
  begins_with None other = other

  -- digits that the input ends, where a byte after them would do this
  abbrev pub last_said : After S T → Outcome T
  last_said (Goes p) = ([], Faulty Unfinished)
  last_said (Gives step) = (step ∷ [], Ended)
  last_said (Stops kind) = ([], Faulty kind)

-- ---- bytes, and the end of the input

module _ {S T : Type 0} (r : Rules S T) where
  -- a binary number: one with a sign is twice its value, and 1 more where it is negative
  abbrev pub coded : S → ℕ → After S T
  coded slot n =
      if r.is_signed slot then r.said slot (n % 2 == 1) (n / 2) else r.said slot false n

  -- the bytes of a binary number, by what they say
  abbrev pub code_does : S → Code → After S T
  code_does slot (Partial v weight) = Goes (InNumber slot (Groups v weight))
  code_does slot (Whole n) = coded slot n
  code_does slot TooLong = Stops NumberTooLarge

  -- one byte of them, of this weight, after groups of this value
  abbrev pub group : S → ℕ → ℕ → ℕ → After S T
  group slot v weight b = code_does slot (code_after r.last_weight v weight b)

  -- a byte of a number
  abbrev pub in_number : S → Number → ℕ → After S T
  in_number slot Sign b = first_digit slot true b
  in_number slot (Digits negative v) b =
      if is_digit b then Goes (InNumber slot (Digits negative (with_digit v b)))
      else (if is_space b then r.said slot negative v else Stops Malformed)
  in_number slot (Groups v weight) b = group slot v weight b

  -- a byte between steps
  abbrev pub outside : Format → ℕ → After S T
  outside Text b =
      if r.begins_comment b then Goes Comment
      else (if is_space b then Goes Outside
      else begins_with (r.letter Text b) (begins_bare r.bare b))
  outside Binary b = begins_with (r.letter Binary b) (Stops Malformed)

  -- a byte between the numbers of a step
  abbrev pub within : Format → S → ℕ → After S T
  within Text slot b = if is_space b then Goes (Within slot) else first_of_number slot b
  within Binary slot b = group slot 0 1 b

  -- one byte, at each place
  abbrev pub after : Format → Place S → ℕ → After S T
  after format Outside b = outside format b
  after format Comment b = if is_lf b then Goes Outside else Goes Comment
  after format (Within slot) b = within format slot b
  after format (InNumber slot n) b = in_number slot n b

  -- what the end of the input gives
  abbrev pub at_end : Place S → Outcome T
  at_end Outside = ([], Ended)
  at_end Comment = ([], Ended)
  at_end (Within slot) = ([], Faulty Unfinished)
  at_end (InNumber slot Sign) = ([], Faulty Unfinished)
  at_end (InNumber slot (Digits negative v)) = last_said (r.said slot negative v)
  at_end (InNumber slot (Groups v weight)) = ([], Faulty Unfinished)
