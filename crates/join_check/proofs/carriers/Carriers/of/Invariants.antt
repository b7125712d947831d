use Rattle.std.proofs.Common.{◌≡◌, ℕ, List, take}
use Rattle.std.specs.List.{filter_map}
use Rattle.join_check.specs.Carriers.{carried_to, subjects_to}
use Rattle.join_check.proofs.carriers.Carriers.of.Given as goal

abbrev pub invariant-receipts : goal.invariant-receipts
invariant-receipts l = (next : List ℕ) → subjects_to l.carriers next ≡ filter_map (carried_to next) (take l.receipt-index l.receipts)
