-- Lists of a line: items up to a 0.
--     lit_said, hint_said, id_said      what a number says in each list: an item, none at the 0 that ends it, or a fault
--     items_at      a list, and the words after it
use Rattle.std.specs.Prelude.{ℕ, ◌^◌, true, false, List, [], ◌∷◌, Option, Some, None, Result, Ok, Err, nat_lt, ◌==◌, if◌then◌else◌}
use Rattle.sat_formula.specs.Vars.{lit_code}
use Rattle.lrat_text.specs.declared.fault.LineKind.{LineKind}
use Rattle.lrat_text.specs.declared.fault.LineKind.TheVariants.{Malformed, NumberTooLarge}
use Rattle.lrat_text.specs.declared.line.Hint.{Hint}
use Rattle.lrat_text.specs.declared.line.Hint.TheVariants.{Along, Against}
use Rattle.lrat_text.specs.declared.number.Number.{Number}
use Rattle.lrat_text.specs.declared.number.Number.TheVariants.{Exact, Large, Bad}
use Rattle.lrat_text.specs.Numbers.{number_of}

-- a literal, by its code
abbrev pub lit_said : Number → Result (Option ℕ) LineKind
lit_said (Exact negative v) =
    if v == 0 then Ok None
    else (if nat_lt (2 ^ 28) v then Err NumberTooLarge else Ok (Some (lit_code v negative)))
lit_said Large = Err NumberTooLarge
lit_said Bad = Err Malformed

-- a hint
abbrev pub hint_said : Number → Result (Option Hint) LineKind
hint_said (Exact true v) = if v == 0 then Ok None else Ok (Some (Against v))
hint_said (Exact false v) = if v == 0 then Ok None else Ok (Some (Along v))
hint_said Large = Err NumberTooLarge
hint_said Bad = Err Malformed

-- an id
abbrev pub id_said : Number → Result (Option ℕ) LineKind
id_said (Exact true v) = if v == 0 then Ok None else Err Malformed
id_said (Exact false v) = if v == 0 then Ok None else Ok (Some v)
id_said Large = Err NumberTooLarge
id_said Bad = Err Malformed

-- a line's words
abbrev pub Words : Type 0
Words = List (List ℕ)

-- what is read, and the words after it
abbrev pub Found : Type 0 → Type 0
Found A = Result (A × Words) LineKind

-- what is read next, unless there was a fault
infixl 10 ◌>>=◌
abbrev pub ◌>>=◌ : {A B : Type 0} → Result A LineKind → (A → Result B LineKind) → Result B LineKind
(Ok x) >>= f = f x
(Err kind) >>= f = Err kind

-- what a word said, before these words, which are a list so
abbrev pub item_then : {A : Type 0} → Result (Option A) LineKind → Words → Found (List A) →
    Found (List A)
item_then (Ok None) words later = Ok ([], words)
item_then (Ok (Some x)) words later = later >>= λ l. Ok (x ∷ l.0, l.1)
item_then (Err kind) words later = Err kind

-- a list to its 0; `short` is the fault of one without
abbrev pub items_at : {A : Type 0} → (Number → Result (Option A) LineKind) → LineKind → Words →
    Found (List A)
items_at said short [] = Err short
items_at said short (word ∷ words) =
    item_then (said (number_of word)) words (items_at said short words)
