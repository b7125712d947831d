-- What the first bytes of a file say that it is.
--     kind_by bytes      a compressed file, a circuit, a proof, a formula, what a solver prints, or another text;  or none of these
use Rattle.std.specs.Prelude.{ℕ, Bool, true, false, ◌&&◌, ◌||◌, ◌==◌, not, nat_le, if◌then◌else◌, List, [], ◌∷◌, Option, Some, None, codes}
use Rattle.std.specs.List.{list_any, starts_with}
use Rattle.command.specs.declared.kind.Kind.{Kind}
use Rattle.command.specs.declared.kind.Kind.TheVariants.{Gzip, Xz, Zstd, Bzip2, ByteOrderMark, Aiger, BinaryProof, Html, SmtLib, HashComments, Formula, XorFormula, CubeFormula, WeightedFormula, CardinalityFormula, SolverOutput, DratText, LratText}
use Rattle.command.specs.declared.kind.Part.{Part}
use Rattle.command.specs.declared.kind.Part.TheVariants as parts
use Rattle.command.specs.declared.kind.Word.{Word}
use Rattle.command.specs.declared.kind.Word.TheVariants.{Nothing, Zero, Number}

-- the bytes begin with these
abbrev pub begins : List ℕ → List ℕ → Bool
begins bytes mark = starts_with (λ a b. a == b) bytes mark

-- the header of a circuit, in text or in binary form
abbrev pub is_aiger : List ℕ → Bool
is_aiger bytes = begins bytes (codes "aag ") || begins bytes (codes "aig ")

-- `a` or `d` begins a step of binary LRAT and of binary DRAT, and no text has the byte 0
abbrev pub is_binary_proof : List ℕ → Bool
is_binary_proof bytes =
    (begins bytes (97 ∷ []) || begins bytes (100 ∷ [])) && list_any (λ byte. byte == 0) bytes

abbrev pub is_digit : ℕ → Bool
is_digit byte = nat_le 48 byte && nat_le byte 57

-- what follows comments, which begin with `c` and end with an LF, and after a line that continues here
abbrev pub behind_comments : Bool → List ℕ → List ℕ
behind_comments in_line [] = []
behind_comments true (byte ∷ bytes) = behind_comments (not (byte == 10)) bytes
behind_comments false (byte ∷ bytes) = if byte == 99 then behind_comments true bytes else byte ∷ bytes

-- a line as cryptominisat has it: `x` ahead of its numbers, with a blank between or without
abbrev pub is_xor_clause : List ℕ → Bool
is_xor_clause [] = false
is_xor_clause (byte ∷ []) = false
is_xor_clause (byte ∷ next ∷ bytes) =
    (byte == 120) && ((next == 32) || (next == 45) || is_digit next)

-- it is the first line, or the first one after a header
abbrev pub is_xor_formula : List ℕ → Bool
is_xor_formula text =
    if begins text (codes "p cnf") then is_xor_clause (behind_comments true text) else is_xor_clause text

-- a status, or values
abbrev pub is_solver_output : List ℕ → Bool
is_solver_output text = begins text (codes "s ") || begins text (codes "v ")

-- a first line of numbers, of which the last one and no other is 0
abbrev pub ends_at_zero : Word → List ℕ → Bool
ends_at_zero word [] = false
ends_at_zero Zero (byte ∷ bytes) = byte == 10
ends_at_zero Nothing (byte ∷ bytes) =
    if byte == 48 then ends_at_zero Zero bytes
    else if byte == 45 || is_digit byte then ends_at_zero Number bytes
    else false
ends_at_zero Number (byte ∷ bytes) =
    if byte == 32 then ends_at_zero Nothing bytes
    else if is_digit byte then ends_at_zero Number bytes
    else false

-- a deletion, or such a line
abbrev pub is_drat_text : List ℕ → Bool
is_drat_text bytes = begins bytes (100 ∷ 32 ∷ []) || ends_at_zero Nothing bytes

-- the number of a line and `d`; or this number, numbers up to a first 0, and others up to a 0 at the line's end
abbrev pub is_lrat_line : Part → List ℕ → Bool
is_lrat_line part [] = false
is_lrat_line parts.Id (byte ∷ bytes) =
    if is_digit byte then is_lrat_line parts.Id bytes
    else if byte == 32 then is_lrat_line parts.First bytes
    else false
is_lrat_line parts.First (byte ∷ bytes) =
    if byte == 100 then begins (byte ∷ bytes) (100 ∷ 32 ∷ [])
    else if byte == 48 then is_lrat_line parts.Zero bytes
    else if byte == 45 || is_digit byte then is_lrat_line parts.Number bytes
    else false
is_lrat_line parts.Nothing (byte ∷ bytes) =
    if byte == 48 then is_lrat_line parts.Zero bytes
    else if byte == 45 || is_digit byte then is_lrat_line parts.Number bytes
    else false
is_lrat_line parts.Zero (byte ∷ bytes) = if byte == 32 then ends_at_zero Nothing bytes else false
is_lrat_line parts.Number (byte ∷ bytes) =
    if byte == 32 then is_lrat_line parts.Nothing bytes
    else if is_digit byte then is_lrat_line parts.Number bytes
    else false

-- such a line, whose number does not begin with 0
abbrev pub is_lrat_text : List ℕ → Bool
is_lrat_text text = not (begins text (48 ∷ [])) && is_lrat_line parts.Id text

-- a text by its lines after the first comments
unfoldable pub kind_of_lines : List ℕ → Option Kind
kind_of_lines text =
    if is_xor_formula text then Some XorFormula
    else if begins text (codes "p cnf") then Some Formula
    else if begins text (codes "p inccnf") then Some CubeFormula
    else if begins text (codes "p wcnf") then Some WeightedFormula
    else if begins text (codes "p knf") then Some CardinalityFormula
    else if is_solver_output text then Some SolverOutput
    else if is_drat_text text then Some DratText
    else if is_lrat_text text then Some LratText
    else None

-- of the marks that occur the first one counts
abbrev pub kind_by : List ℕ → Option Kind
kind_by bytes =
    if begins bytes (31 ∷ 139 ∷ []) then Some Gzip
    else if begins bytes (253 ∷ 55 ∷ 122 ∷ 88 ∷ 90 ∷ []) then Some Xz
    else if begins bytes (40 ∷ 181 ∷ 47 ∷ 253 ∷ []) then Some Zstd
    else if begins bytes (66 ∷ 90 ∷ 104 ∷ []) then Some Bzip2
    else if begins bytes (239 ∷ 187 ∷ 191 ∷ []) then Some ByteOrderMark
    else if is_aiger bytes then Some Aiger
    else if is_binary_proof bytes then Some BinaryProof
    else if begins bytes (codes "<") then Some Html
    else if begins bytes (codes "(") then Some SmtLib
    else if begins bytes (codes "#") then Some HashComments
    else kind_of_lines (behind_comments false bytes)
