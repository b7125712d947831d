use Rattle.std.proofs.Common.{◌≡◌, drop}
use Rattle.checker_parts.specs.RisingVars.{has_rising_vars}
use Rattle.checker_parts.proofs.Rising.{rises_after}
use Rattle.checker_parts.proofs.sorted_lits.has_rising_vars.Given as goal

abbrev pub invariant-loop-lit : goal.invariant-loop-lit
invariant-loop-lit l = rises_after l.last (drop l.lit-index l.others) ≡ has_rising_vars l.lits
