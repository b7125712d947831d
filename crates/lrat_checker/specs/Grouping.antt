-- The groups of a line.
use Rattle.std.specs.Prelude.{map}
use Rattle.lrat_rules.specs.Groups as rules
use Rattle.lrat_rules.specs.Lines.{leading}
use Rattle.lrat_checker.specs.declared.groups.Group.{Group}
use Rattle.lrat_text.specs.Grammar.{hint_of}

-- a group as the rules know it
abbrev pub group_of : Group → rules.Group
group_of g = record { id = g.id; hints = leading (map hint_of g.hints.now) }
