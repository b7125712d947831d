use Rattle.std.proofs.Common.{◌≡◌, nat_eq, drop}
use Rattle.std.specs.List.{position_from}
use Rattle.packages.proofs.parts.colon.Given as goal

abbrev pub invariant-loop-place : goal.invariant-loop-place
invariant-loop-place l = position_from (nat_eq 58) 0 l.text ≡ position_from (nat_eq 58) l.place (drop l.place l.text)
