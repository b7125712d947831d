-- A relation to a package, as the Debian Policy Manual has it: name[:qualifier] [(sign version)].
--     relation_of text      what the text says, or its first fault
use Rattle.std.specs.Prelude.{ℕ, Bool, false, not, ◌&&◌, ◌||◌, List, [], ◌∷◌, codes, Option, Some, None, Result, Ok, Err, ◌==◌, if◌then◌else◌}
use Rattle.std.specs.Str.{bytes_eq}
use Rattle.sat_formula.specs.Lines.{has_bytes}
use Rattle.index_text.specs.declared.class.Class.TheVariants as classes
use Rattle.index_text.specs.declared.fault.IndexKind.{IndexKind}
use Rattle.index_text.specs.declared.fault.IndexKind.TheVariants.{Malformed, EmptyRelation, BadName, BadQualifier, BadSign, ObsoleteSign, BadVersion, Alternatives, Restriction}
use Rattle.index_text.specs.declared.relation.Sign.{Sign}
use Rattle.index_text.specs.declared.relation.Sign.TheVariants.{Earlier, AtMost, Exactly, AtLeast, Later}
use Rattle.index_text.specs.Classes.{behind, is_lower, is_of, leading}
use Rattle.index_text.specs.Versions.{is_version}

-- which versions will do
pub record BoundSaid : Type 0 where
  pub sign : Sign
  pub version : List ℕ

-- a relation; all versions will do where there is no bound
pub record RelationSaid : Type 0 where
  pub name : List ℕ
  pub qualifier : Option (List ℕ)
  pub bound : Option BoundSaid

-- what comes next, unless there was a fault
infixl 10 ◌>>=◌
abbrev pub ◌>>=◌ : {A B : Type 0} → Result A IndexKind → (A → Result B IndexKind) → Result B IndexKind
(Ok x) >>= f = f x
(Err kind) >>= f = Err kind

-- what is read, and the bytes after it
abbrev pub Found : Type 0 → Type 0
Found A = Result (A × List ℕ) IndexKind

-- the bytes after spaces
abbrev pub skip : List ℕ → List ℕ
skip text = behind (is_of classes.Space) text

-- bytes of a name are one: two at least, and the first is a letter or a digit
abbrev pub is_name : List ℕ → Bool
is_name [] = false
is_name (b ∷ bs) = is_lower b && has_bytes bs

-- a name
abbrev pub name_at : List ℕ → Found (List ℕ)
name_at text =
    if not (has_bytes text) then Err EmptyRelation
    else (if is_name (leading (is_of classes.Name) text)
    then Ok (leading (is_of classes.Name) text, behind (is_of classes.Name) text) else Err BadName)

-- the qualifier after a `:`
abbrev pub qualified : List ℕ → List ℕ → Found (Option (List ℕ))
qualified qualifier rest = if has_bytes qualifier then Ok (Some qualifier, rest) else Err BadQualifier

-- a qualifier, or none
abbrev pub qualifier_at : List ℕ → Found (Option (List ℕ))
qualifier_at [] = Ok (None, [])
qualifier_at (b ∷ bs) =
    if b == 58 then qualified (leading (is_of classes.Architecture) bs) (behind (is_of classes.Architecture) bs)
    else Ok (None, b ∷ bs)

-- a sign
abbrev pub sign_of : List ℕ → Result Sign IndexKind
sign_of word =
    if bytes_eq word (codes "<<") then Ok Earlier
    else (if bytes_eq word (codes "<=") then Ok AtMost
    else (if bytes_eq word (codes "=") then Ok Exactly
    else (if bytes_eq word (codes ">=") then Ok AtLeast
    else (if bytes_eq word (codes ">>") then Ok Later
    else (if bytes_eq word (codes "<") || bytes_eq word (codes ">") then Err ObsoleteSign else Err BadSign)))))

-- a version
abbrev pub version_at : List ℕ → Found (List ℕ)
version_at text =
    if is_version (leading (is_of classes.EpochVersion) text)
    then Ok (leading (is_of classes.EpochVersion) text, behind (is_of classes.EpochVersion) text) else Err BadVersion

-- the `)` that closes a bound
abbrev pub close_at : List ℕ → Result (List ℕ) IndexKind
close_at [] = Err Malformed
close_at (b ∷ bs) = if b == 41 then Ok bs else Err Malformed

-- a bound after its `(` and spaces
abbrev pub bounded : List ℕ → Found BoundSaid
bounded text = do
  sign ← sign_of (leading (is_of classes.Sign) text)
  version ← version_at (skip (behind (is_of classes.Sign) text))
  rest ← close_at (skip version.1)
  Ok (record { sign = sign; version = version.0 }, rest)

-- a bound, or none
abbrev pub bound_at : List ℕ → Found (Option BoundSaid)
bound_at [] = Ok (None, [])
bound_at (b ∷ bs) =
    if b == 40 then (bounded (skip bs) >>= λ bound. Ok (Some bound.0, bound.1)) else Ok (None, b ∷ bs)

-- nothing follows a relation
abbrev pub end_at : List ℕ → Result (Unit {0}) IndexKind
end_at [] = Ok tt
end_at (b ∷ bs) =
    if b == 124 then Err Alternatives
    else (if (b == 91) || (b == 60) then Err Restriction else Err Malformed)

-- spaces may stand at both ends, and before and in the bound
abbrev pub relation_of : List ℕ → Result RelationSaid IndexKind
relation_of text = do
  name ← name_at (skip text)
  qualifier ← qualifier_at name.1
  bound ← bound_at (skip qualifier.1)
  end ← end_at (skip bound.1)
  Ok (record { name = name.0; qualifier = qualifier.0; bound = bound.0 })
