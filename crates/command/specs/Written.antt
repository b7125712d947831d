-- Files that are written.
--     names_of files      the names of those that were made, in their order
--     is_among name files      whether this name is that of one of them
--     is_read name inputs      whether it is that of one of the inputs
use Rattle.std.specs.Prelude.{ℕ, Bool, List, map}
use Rattle.std.specs.List.{list_any}
use Rattle.std.specs.Str.{bytes_eq}
use Rattle.command.specs.declared.refusals.ReadFile.{ReadFile}
use Rattle.command.specs.declared.written.WrittenFiles.{WrittenFiles}

-- the names of the files that were made, as their call has them
abbrev pub names_of : {S F I O N : Type 0} → WrittenFiles S F I O N → List (List ℕ)
names_of files = map (λ name. name.now) files.names.items

-- whether one of them has this name
abbrev pub is_among : {S F I O N : Type 0} → List ℕ → WrittenFiles S F I O N → Bool
is_among name files = list_any (λ taken. bytes_eq taken.now name) files.names.items

-- whether one of the inputs has this name
abbrev pub is_read : List ℕ → List ReadFile → Bool
is_read name inputs = list_any (λ input. bytes_eq input.name.now name) inputs
