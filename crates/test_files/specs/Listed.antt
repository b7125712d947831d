-- Files of a list, by their names.
--     found_in targets name      what the name leads to
--     place_in targets name      the place of a file of that name, unless what has the name is a pipe
--     bytes_in targets name      the bytes of the file to which the name leads
--     named_in names      each place to which a file was renamed, with the bytes of this file
use Rattle.std.specs.Prelude.{ℕ, List, Option, Some, None, bytes_eq, find, map, option_and_then, option_map, string_bytes}
use Rattle.std.specs.Borrow.{Bor}
use Rattle.test_files.specs.declared.listed.Target.{Target}
use Rattle.test_files.specs.declared.listed.Target.TheVariants.{File, Link, Pipe}
use Rattle.test_files.specs.declared.outputs.ListedNames.{ListedNames}

-- by the first row of that name
abbrev pub found_in : List (Bor (List ℕ) × Target) → List ℕ → Option Target
found_in targets name = option_map (λ row. row.1) (find (λ row. bytes_eq row.0.now name) targets)

-- a link's place is where it leads, and any other name's the name
abbrev pub place_by : List ℕ → Option Target → Option (List ℕ)
place_by name None = Some name
place_by name (Some (File bytes)) = Some name
place_by name (Some (Link to)) = Some to.now
place_by name (Some Pipe) = None

abbrev pub place_in : List (Bor (List ℕ) × Target) → List ℕ → Option (List ℕ)
place_in targets name = place_by name (found_in targets name)

-- only a regular file has bytes to be read
abbrev pub bytes_of : Target → Option (List ℕ)
bytes_of (File bytes) = Some bytes.now
bytes_of (Link to) = None
bytes_of Pipe = None

-- those of its place
abbrev pub bytes_in : List (Bor (List ℕ) × Target) → List ℕ → Option (List ℕ)
bytes_in targets name =
    option_and_then (λ place. option_and_then bytes_of (found_in targets place)) (place_in targets name)

-- in the order in which they were renamed
abbrev pub named_in : ListedNames → List (List ℕ × List ℕ)
named_in names = map (λ file. (string_bytes file.place, file.bytes.items)) names.files.items
