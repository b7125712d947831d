use Rattle.std.proofs.Common.{◌≡◌, ◌<◌, None, IfSome, drop}
use Rattle.packages.specs.Versions.{last_hyphen}
use Rattle.packages.proofs.parts.hyphen.Given as goal

abbrev pub invariant-loop-place : goal.invariant-loop-place
invariant-loop-place l = (last_hyphen 0 None l.text ≡ last_hyphen l.place l.last (drop l.place l.text)) × IfSome l.last (λ p. p < l.place)
