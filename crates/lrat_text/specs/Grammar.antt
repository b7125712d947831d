-- What the words of a line say: `id lits 0 hints 0`, `id d ids 0`, or nothing.
use Rattle.std.specs.Prelude.{ℕ, Bool, true, false, List, [], ◌∷◌, Option, Some, None, Result, Ok, Err, map, codes, nat_eq, ◌==◌, if◌then◌else◌}
use Rattle.std.specs.List.{starts_with}
use Rattle.std.specs.Str.{bytes_eq}
use Rattle.lrat_rules.specs.Lines as rules
use Rattle.lrat_rules.specs.Lines.{Line, adds, deletes}
use Rattle.lrat_text.specs.declared.fault.LineKind.{LineKind}
use Rattle.lrat_text.specs.declared.fault.LineKind.TheVariants.{Malformed, NumberTooLarge}
use Rattle.lrat_text.specs.declared.line.Hint.{Hint}
use Rattle.lrat_text.specs.declared.line.Hint.TheVariants.{Along, Against}
use Rattle.lrat_text.specs.declared.number.Number.{Number}
use Rattle.lrat_text.specs.declared.number.Number.TheVariants.{Exact, Large, Bad}
use Rattle.lrat_text.specs.Items.{Words, ◌>>=◌, items_at, lit_said, hint_said, id_said}
use Rattle.lrat_text.specs.Numbers.{number_of}

-- a hint as the rules know it
abbrev pub hint_of : Hint → rules.Hint
hint_of (Along i) = rules.along i
hint_of (Against d) = rules.against d

-- the line, where no word follows its last 0
abbrev pub alone : Line → Words → Result Line LineKind
alone line [] = Ok line
alone line (word ∷ words) = Err Malformed

-- what follows an id: literals, and hints
abbrev pub clause_at : LineKind → ℕ → Words → Result Line LineKind
clause_at short id words = do
  lits ← items_at lit_said short words
  hints ← items_at hint_said short lits.1
  alone (adds id lits.0 (map hint_of hints.0)) hints.1

-- what follows a `d`: ids
abbrev pub deletion_at : LineKind → Words → Result Line LineKind
deletion_at short words = do
  ids ← items_at id_said short words
  alone (deletes ids.0) ids.1

-- what follows a line's first number, which is 0 at most before a `d`
abbrev pub after_id : LineKind → ℕ → Words → Result Line LineKind
after_id short id [] = Err short
after_id short id (word ∷ words) =
    if bytes_eq word (codes "d") then deletion_at short words
    else (if id == 0 then Err Malformed else clause_at short id (word ∷ words))

-- a line's first number
abbrev pub first_said : Number → Result ℕ LineKind
first_said (Exact false v) = Ok v
first_said (Exact true v) = Err Malformed
first_said Large = Err NumberTooLarge
first_said Bad = Err Malformed

-- whether a comment begins with this word
abbrev pub is_comment : List ℕ → Bool
is_comment word = starts_with nat_eq word (codes "c")

-- a line; `short` is the fault of one that ends before its last 0
abbrev pub says : LineKind → Words → Result (Option Line) LineKind
says short [] = Ok None
says short (word ∷ words) =
    if is_comment word then Ok None
    else (first_said (number_of word) >>= λ id. after_id short id words >>= λ line. Ok (Some line))
