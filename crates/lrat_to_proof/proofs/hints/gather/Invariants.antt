use Rattle.std.proofs.Common.{◌≡◌, [], drop, map}
use Rattle.clause_store.specs.StateOf.{hash_of}
use Rattle.lrat_text.specs.Grammar.{hint_of}
use Rattle.lrat_to_proof.specs.Converting.{gather}
use Rattle.lrat_to_proof.specs.Standing.{holding_of}
use Rattle.lrat_to_proof.proofs.hints.gather.Given as goal

-- the hints from here give what all give from the start
abbrev pub invariant-loop-hint : goal.invariant-loop-hint
invariant-loop-hint l = gather (hash_of l.hasher) (holding_of l.held) l.hashes.items (map hint_of (drop l.hint-index l.hints))
    ≡ gather (hash_of l.hasher) (holding_of l.held) [] (map hint_of l.hints)
