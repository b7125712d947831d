use Rattle.std.proofs.Common.{◌≡◌, drop}
use Rattle.std.specs.List.{list_any}
use Rattle.std.specs.Str.{bytes_eq}
use Rattle.command.specs.Written.{is_among}
use Rattle.command.proofs.written.WrittenFiles.has.Given as goal

-- among the names to come it is the same
abbrev pub invariant-loop-taken : goal.invariant-loop-taken
invariant-loop-taken g l =
    list_any (λ taken. bytes_eq taken.now l.name) (drop l.taken-index l.self.names.items) ≡ is_among l.name l.self
