use Rattle.std.proofs.Common.{◌≡◌, ◌+◌, ◌<◌, ◌^◌, suc, length}
use Rattle.sat_rules.specs.HintLines.{list_from, listing}
use Rattle.hint_checker.specs.Held.{IsSmall, held_by}
use Rattle.hint_checker.proofs.listing.Listing.new.Given as goal

-- with the clauses still to come, the whole formula is listed
abbrev pub invariant-loop-clause : goal.invariant-loop-clause
invariant-loop-clause l = (record (held_by l.held) { machine = list_from (suc l.held.greatest) l.clause-iterator (held_by l.held).machine } ≡ listing l.formula)
    × (l.held.greatest + length l.clause-iterator ≡ length l.formula) × (length l.formula < 2 ^ 64) × IsSmall l.held
