use Rattle.std.proofs.Common.{◌≡◌, ℕ, List, Option, drop}
use Rattle.lrat_to_proof.specs.Converting.{Converted, delete_all}
use Rattle.lrat_to_proof.specs.Standing.{HasConverted}
use Rattle.lrat_to_proof.proofs.converter.Converter.delete_all.Given as goal

-- the ids from here lead where all do from the start
abbrev pub invariant-loop-id : goal.invariant-loop-id
invariant-loop-id g l = (width : ℕ) (start : Option (List ℕ)) (c : Converted) → HasConverted width start (g.W.Write.contents l.fn.out) c l.fn.self →
    (d : Converted) × HasConverted width start (g.W.Write.contents l.out) d l.self × (delete_all d (drop l.id-index l.ids) ≡ delete_all c l.ids)
