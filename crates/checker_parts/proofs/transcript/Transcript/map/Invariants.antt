use Rattle.std.proofs.Common.{◌≡◌, ◌++◌, drop}
use Rattle.checker_rules.specs.Transcript.{mapped}
use Rattle.checker_parts.proofs.transcript.Transcript.map.Given as goal

abbrev pub invariant-loop-lit : goal.invariant-loop-lit
invariant-loop-lit l = l.self.lits.items ++ mapped l.names.0.now (drop l.lit-index l.lits) ≡ mapped l.names.0.now l.lits
