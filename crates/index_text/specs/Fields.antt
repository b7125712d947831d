-- A field of an index: NAME: value.
--     named_at entry      its name and its value
use Rattle.std.specs.Prelude.{ℕ, Bool, false, not, ◌&&◌, List, [], ◌∷◌, Result, Ok, Err, ◌==◌, if◌then◌else◌}
use Rattle.index_text.specs.declared.class.Class.TheVariants as classes
use Rattle.index_text.specs.declared.fault.IndexKind.{IndexKind}
use Rattle.index_text.specs.declared.fault.IndexKind.TheVariants.{NoField}
use Rattle.index_text.specs.Classes.{behind, is_of, leading}
use Rattle.index_text.specs.Relations.{Found, ◌>>=◌}

-- bytes of a name are one: no comment and no signature begins so
abbrev pub is_field_name : List ℕ → Bool
is_field_name [] = false
is_field_name (b ∷ bs) = not (b == 35) && not (b == 45)

-- the value after a `:` and spaces
abbrev pub value_at : List ℕ → Result (List ℕ) IndexKind
value_at [] = Err NoField
value_at (b ∷ bs) = if b == 58 then Ok (behind (is_of (classes.Only 32)) bs) else Err NoField

-- a field's name and value
abbrev pub named_at : List ℕ → Found (List ℕ)
named_at entry =
    if is_field_name (leading (is_of classes.FieldName) entry)
    then (value_at (behind (is_of classes.FieldName) entry) >>= λ value. Ok (leading (is_of classes.FieldName) entry, value))
    else Err NoField
