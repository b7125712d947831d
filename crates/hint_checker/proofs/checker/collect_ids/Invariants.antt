use Rattle.std.proofs.Common.{◌≡◌, drop}
use Rattle.std.specs.Prelude.{map}
use Rattle.lrat_text.specs.Grammar.{hint_of}
use Rattle.hint_checker.specs.Given.{ids_along}
use Rattle.hint_checker.proofs.Parts.{ids_after}
use Rattle.hint_checker.proofs.checker.collect_ids.Given as goal

-- the ids from here on, after those collected, are those of all
abbrev pub invariant-loop-hint : goal.invariant-loop-hint
invariant-loop-hint l = ids_after l.ids.items (ids_along (map hint_of (drop l.hint-index l.hints))) ≡ ids_along (map hint_of l.hints)
