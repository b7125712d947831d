use Rattle.std.proofs.Common.{◌≡◌, take}
use Rattle.std.specs.List.{filter_map}
use Rattle.join_check.specs.Carriers.{refuted_by}
use Rattle.join_check.proofs.carriers.refuted_subjects.Given as goal

abbrev pub invariant-receipts : goal.invariant-receipts
invariant-receipts l = l.subjects.items ≡ filter_map refuted_by (take l.receipt-index l.receipts)
