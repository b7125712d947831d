use Rattle.std.proofs.Common.{◌≡◌, drop}
use Rattle.sat_rules.specs.HintLines.{drop_ids}
use Rattle.hint_checker.specs.Held.{held_by}
use Rattle.hint_checker.proofs.listing.Listing.remove.Given as goal

-- what is held after the ids still to come
abbrev pub invariant-loop-id : goal.invariant-loop-id
invariant-loop-id l = record (held_by l.self) { machine = drop_ids (drop l.id-index l.ids) (held_by l.self).machine } ≡
    record (held_by l.fn.self) { machine = drop_ids l.ids (held_by l.fn.self).machine }
