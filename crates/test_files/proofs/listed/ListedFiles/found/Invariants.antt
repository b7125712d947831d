use Rattle.std.proofs.Common.{◌≡◌, drop}
use Rattle.test_files.specs.Listed.{found_in}
use Rattle.test_files.proofs.listed.ListedFiles.found.Given as goal

-- in the rows to come it is the same
abbrev pub invariant-loop-listed : goal.invariant-loop-listed
invariant-loop-listed l =
    found_in (drop l.listed-index l.self.targets.now) l.name ≡ found_in l.self.targets.now l.name
