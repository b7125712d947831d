use Rattle.std.proofs.Common.{◌≡◌, [], ◌∷◌, ◌++◌, drop}
use Rattle.sat_rules.specs.HintLines.{hints_cause}
use Rattle.clause_table.specs.Values.{among}
use Rattle.hint_checker.specs.Held.{held_by}
use Rattle.hint_checker.proofs.listing.Listing.try_hints.Given as goal

-- the hints from here give what all give from the start
abbrev pub invariant-loop-id : goal.invariant-loop-id
invariant-loop-id l = hints_cause (held_by l.self).machine.named (among l.values) (drop l.id-index l.others ++ l.last ∷ []) ≡ hints_cause (held_by l.self).machine.named (among l.fn.values) l.fn.hints
