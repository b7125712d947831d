use Rattle.std.proofs.Common.{◌≡◌, length, map}
use Rattle.lrat_rules.specs.Lines.{groups}
use Rattle.lrat_text.specs.Grammar.{hint_of}
use Rattle.lrat_checker.proofs.groups.GroupsIterator.next.Given as goal

-- the groups from here on are those from the start
abbrev pub invariant-loop-hint : goal.invariant-loop-hint
invariant-loop-hint l = groups (map hint_of l.self-inside.hints.now) ≡ l.fn.self

abbrev pub decreases-loop-hint : goal.decreases-loop-hint
decreases-loop-hint l = length l.self-inside.hints.now
