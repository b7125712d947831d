-- Files that are read.
--     IsOpenedBy name input      standard input, if the name is `-`, and else a file
--     bytes_named files input name      the bytes of a name: those of standard input, if it is `-`, and else those of the file
use Rattle.std.specs.Prelude.{◌≡◌, ◌↔◌, ℕ, Bool, false, true, IsTrue, List, Option, codes, if◌then◌else◌}
use Rattle.std.specs.Str.{bytes_eq}
use Rattle.command.specs.declared.files.Input.{Input}
use Rattle.command.specs.declared.files.Source.{Source}
use Rattle.command.specs.declared.files.Source.TheVariants.{File, StandardInput}

-- by those of each file's name, and those of standard input
abbrev pub bytes_named : (List ℕ → Option (List ℕ)) → Option (List ℕ) → List ℕ → Option (List ℕ)
bytes_named files input name = if bytes_eq name (codes "-") then input else files name

module _ {F I : Type 0} where
  -- standard input, and no file that was opened by its name
  abbrev pub is_standard_input : Source F I → Bool
  is_standard_input (File file) = false
  is_standard_input (StandardInput stdin) = true

  -- it keeps the name, and is standard input exactly for `-`
  pub record IsOpenedBy (name : List ℕ) (input : Input F I) : Type 0 where
    pub kept : input.name.now ≡ name
    pub standard : IsTrue (is_standard_input input.file) ↔ (name ≡ codes "-")

  -- the bytes that are still to come, by those of a file and those of standard input
  abbrev pub source_bytes_left : (F → Option (List ℕ)) → (I → Option (List ℕ)) → Source F I →
      Option (List ℕ)
  source_bytes_left file input (File f) = file f
  source_bytes_left file input (StandardInput i) = input i

  abbrev pub input_bytes_left : (F → Option (List ℕ)) → (I → Option (List ℕ)) → Input F I →
      Option (List ℕ)
  input_bytes_left file input opened = source_bytes_left file input opened.file
