use Rattle.std.proofs.Common.{sym, ◌∙◌}
use Rattle.std.proofs.lemmas.Bool.{false≢true}
use Rattle.circuit_names.proofs.pairing.are_unnamed.Goals as goal

pub returns-then-is_empty : goal.returns-then-is_empty
returns-then-is_empty c = (
  λ t. (c.is_empty.ensures.0 c.if-is_empty.true, c.is_empty-then-is_empty.ensures.0 t),
  λ none. c.is_empty-then-is_empty.ensures.1 none.1,
)

pub returns-else-is_empty : goal.returns-else-is_empty
returns-else-is_empty c = (
  λ t. absurd (false≢true (sym c.if-is_empty.false ∙ t)),
  λ none. c.is_empty.ensures.1 none.0,
)
