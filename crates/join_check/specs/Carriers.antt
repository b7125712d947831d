-- Receipts by the digests that they lead to.
--     refuted_by receipt      its subject, if it says that this is refuted
--     carried_to next receipt      its subject, if it carries to this digest
--     subjects_to carriers next      the subjects that are kept for this digest
use Rattle.std.specs.Prelude.{ℕ, List, [], Option, None, Some, cond}
use Rattle.std.specs.HashMap.{get}
use Rattle.std.specs.Option.{option_map, unwrap_or}
use Rattle.std.specs.Str.{bytes_eq}
use Rattle.receipts.specs.declared.receipt.Receipt.{Receipt}
use Rattle.receipts.specs.declared.receipt.Receipt.TheVariants.{Refuted, Carries, Satisfied}
use Rattle.join_check.specs.declared.carriers.Carriers.{Carriers}

-- the digest of what it says is refuted
abbrev pub refuted_by : Receipt → Option (List ℕ)
refuted_by (Refuted digest) = Some digest
refuted_by (Carries digest next) = None
refuted_by (Satisfied digest) = None

-- the digest from which it carries to this one
abbrev pub carried_to : List ℕ → Receipt → Option (List ℕ)
carried_to to (Refuted digest) = None
carried_to to (Carries digest next) = cond (bytes_eq next to) (Some digest) None
carried_to to (Satisfied digest) = None

-- in the order of their receipts, and none where no list is kept
abbrev pub subjects_to : Carriers → List ℕ → List (List ℕ)
subjects_to carriers next = unwrap_or (option_map (λ list. list.items) (get bytes_eq carriers.subjects next)) []
