-- What the words of a call say. A word is its bytes; an option is what follows `options:`, as `--lrat FILE`.
--     said_by options most words      the operands and the options, in their order; or a wrong word, and why
use Rattle.std.specs.Prelude.{◌≡◌, ℕ, Bool, true, false, ◌&&◌, ◌||◌, ◌==◌, not, nat_le, nat_lt, if◌then◌else◌, List, [], ◌∷◌, ◌++◌, length, map, is_some, option_and_then, option_map, slice_index, Option, Some, None, Result, Ok, Err, IfOk, IsOk, string_bytes, codes}
use Rattle.std.specs.List.{before_first, after_first, find, position_or_len}
use Rattle.std.specs.Str.{bytes_eq}
use Rattle.command.specs.declared.about.Entry.{Entry}
use Rattle.command.specs.declared.call.Awaited.{Awaited}
use Rattle.command.specs.declared.call.Awaited.TheVariants.{Any, Value, Operand}
use Rattle.command.specs.declared.call.Call.{Call}
use Rattle.command.specs.declared.call.Misuse.{Misuse}
use Rattle.command.specs.declared.call.Misuse.TheVariants.{UnknownOption, GivenTwice, NoValue, NeedlessValue, NeedlessOperand, OutOfMemory}
use Rattle.command.specs.declared.call.Reading.{Reading}
use Rattle.command.specs.declared.call.Setting.{Setting}

-- an option that was given, and its value, if it has one
pub record Choice : Type 0 where
  pub flag : List ℕ
  pub value : Option (List ℕ)

-- what the words so far say, and whether the next one is any, the value of a flag, or an operand
pub data Next : Type 0 where
  any_word : Next
  value_of : List ℕ → Next
  operand_word : Next

pub record State : Type 0 where
  pub next : Next
  pub operands : List (List ℕ)
  pub choices : List Choice

-- why a word is wrong
pub data Wrong : Type 0 where
  unknown_option : List ℕ → Wrong
  given_twice : List ℕ → Wrong
  no_value : List ℕ → Wrong
  needless_value : List ℕ → Wrong
  needless_operand : List ℕ → Wrong

-- what comes before the first such byte, or all of it
abbrev pub before : ℕ → List ℕ → List ℕ
before mark text = before_first (λ byte. byte == mark) text

-- what follows it, if it is there
abbrev pub behind : ℕ → List ℕ → Option (List ℕ)
behind mark text =
    if nat_lt (position_or_len (λ byte. byte == mark) text) (length text)
    then Some (after_first (λ byte. byte == mark) text)
    else None

-- of an option's name, whether a value's name follows its flag
abbrev pub has_value : List ℕ → Bool
has_value option = is_some (behind 32 option)

-- either of two words
abbrev pub is_either : List ℕ → List ℕ → List ℕ → Bool
is_either one other flag = bytes_eq flag one || bytes_eq flag other

-- the option of a flag: one of all programs, or one whose flag comes before a blank, with a value's name after it
abbrev pub option_of : List (List ℕ) → List ℕ → Option (List ℕ)
option_of options flag =
    if is_either (codes "-h") (codes "--help") flag then Some (codes "--help")
    else if is_either (codes "-V") (codes "--version") flag then Some (codes "--version")
    else find (λ option. bytes_eq (before 32 option) flag) options

-- what was given of a flag: whether it was, and its value
abbrev pub given : List Choice → List ℕ → Option Choice
given choices flag = find (λ choice. bytes_eq choice.flag flag) choices

abbrev pub is_given : List Choice → List ℕ → Bool
is_given choices flag = is_some (given choices flag)

abbrev pub value_given : List Choice → List ℕ → Option (List ℕ)
value_given choices flag = option_and_then (λ choice. choice.value) (given choices flag)

-- what a value means, by the words that it may be; none means nothing
abbrev pub meant : {W T : Type 0} → (W → List ℕ) → List (W × T) → Option (List ℕ) → Option (Option T)
meant text words None = Some None
meant text words (Some value) =
    option_map (λ word. Some word.1) (find (λ word. bytes_eq (text word.0) value) words)

-- one option is all that was given
abbrev pub is_one_flag : List (List ℕ) → List Choice → Bool
is_one_flag operands choices = (length operands == 0) && (length choices == 1)

-- one more operand, if there may be one
abbrev pub with_operand : ℕ → State → List ℕ → Result State Wrong
with_operand most s word =
    if nat_le most (length s.operands) then Err (needless_operand word)
    else Ok (record s { operands = s.operands ++ word ∷ [] })

abbrev pub with_choice : State → List ℕ → Option (List ℕ) → State
with_choice s flag value =
    record s { choices = s.choices ++ (record { flag = flag; value = value }) ∷ [] }

-- a flag, which takes a value or takes none, with what follows its `=`
abbrev pub with_flag : State → List ℕ → Bool → Option (List ℕ) → Result State Wrong
with_flag s flag true None = Ok (record s { next = value_of flag })
with_flag s flag true (Some value) = Ok (with_choice s flag (Some value))
with_flag s flag false None = Ok (with_choice s flag None)
with_flag s flag false (Some value) = Err (needless_value flag)

-- the option that a word names; each may be given once
abbrev pub with_named : State → List ℕ → Option (List ℕ) → Result State Wrong
with_named s word None = Err (unknown_option word)
with_named s word (Some option) =
    if is_given s.choices (before 32 option) then Err (given_twice (before 32 option))
    else with_flag s (before 32 option) (has_value option) (behind 61 word)

abbrev pub with_option : List (List ℕ) → State → List ℕ → Result State Wrong
with_option options s word = with_named s word (option_of options (before 61 word))

-- an option begins with `-`, and is not `-` alone
abbrev pub is_option : List ℕ → Bool
is_option word = (slice_index word 0 == 45) && not (bytes_eq word (codes "-"))

-- one word more: all words after `--` are operands
abbrev pub after : List (List ℕ) → ℕ → State → Next → List ℕ → Result State Wrong
after options most s (value_of flag) word = Ok (with_choice (record s { next = any_word }) flag (Some word))
after options most s operand_word word = with_operand most s word
after options most s any_word word =
    if bytes_eq word (codes "--") then Ok (record s { next = operand_word })
    else if is_option word then with_option options s word
    else with_operand most s word

-- at the end no value may be missing
abbrev pub at_end : State → Next → Result State Wrong
at_end s any_word = Ok s
at_end s operand_word = Ok s
at_end s (value_of flag) = Err (no_value flag)

-- all words, after a state or a wrong word
unfoldable pub said_after : List (List ℕ) → ℕ → Result State Wrong → List (List ℕ) → Result State Wrong
said_after options most (Err wrong) words = Err wrong
said_after options most (Ok s) [] = at_end s s.next
said_after options most (Ok s) (word ∷ words) =
    said_after options most (after options most s s.next word) words

-- before the first word
abbrev pub start : State
start = record { next = any_word; operands = []; choices = [] }

abbrev pub said_by : List (List ℕ) → ℕ → List (List ℕ) → Result State Wrong
said_by options most words = said_after options most (Ok start) words

-- what the program's values denote
abbrev pub names_of : List Entry → List (List ℕ)
names_of options = map (λ option. option.name.now) options

abbrev pub choice_of : Setting → Choice
choice_of setting = record {
  flag = setting.flag.now;
  value = option_map string_bytes setting.value;
}

abbrev pub operands_of : Call → List (List ℕ)
operands_of call = map string_bytes call.operands.items

abbrev pub choices_of : Call → List Choice
choices_of call = map choice_of call.settings.items

abbrev pub next_of : Awaited → Next
next_of Any = any_word
next_of (Value flag) = value_of flag.now
next_of Operand = operand_word

abbrev pub state_of : Reading → State
state_of reading = record {
  next = next_of reading.awaited;
  operands = operands_of reading.call;
  choices = choices_of reading.call;
}

-- an example allows nothing beside it
abbrev pub IsExampleAlone : Call → Type 0
IsExampleAlone call =
    is_given (choices_of call) (codes "--example") ≡ true
    → is_one_flag (operands_of call) (choices_of call) ≡ true

-- these operands and options were said
abbrev pub IsSaid : Result State Wrong → Call → Type 0
IsSaid said call =
    IfOk said (λ s. (s.operands ≡ operands_of call) × (s.choices ≡ choices_of call)) × IsOk said

-- this is what was wrong; of a lack of memory it says nothing
abbrev pub IsOrNoMemory : Result State Wrong → Misuse → Type 0
IsOrNoMemory said (UnknownOption word) = said ≡ Err (unknown_option (string_bytes word))
IsOrNoMemory said (GivenTwice flag) = said ≡ Err (given_twice flag.now)
IsOrNoMemory said (NoValue flag) = said ≡ Err (no_value flag.now)
IsOrNoMemory said (NeedlessValue flag) = said ≡ Err (needless_value flag.now)
IsOrNoMemory said (NeedlessOperand word) = said ≡ Err (needless_operand (string_bytes word))
IsOrNoMemory said OutOfMemory = Unit
