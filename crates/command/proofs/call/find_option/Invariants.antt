use Rattle.std.proofs.Common.{◌≡◌, drop}
use Rattle.std.specs.List.{find}
use Rattle.std.specs.Str.{bytes_eq}
use Rattle.command.specs.Calls.{before, names_of}
use Rattle.command.proofs.call.find_option.Given as goal

-- in the options to come it is the same one
abbrev pub invariant-loop-option : goal.invariant-loop-option
invariant-loop-option l =
    find (λ option. bytes_eq (before 32 option) l.flag) (names_of (drop l.option-index l.options))
    ≡ find (λ option. bytes_eq (before 32 option) l.flag) (names_of l.options)
