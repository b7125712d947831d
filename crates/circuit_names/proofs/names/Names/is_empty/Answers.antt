use Rattle.std.proofs.Common.{◌≡◌, ◌<◌, ◌∙◌, sym, ℕ, []}
use Rattle.std.proofs.lemmas.Bool.{false≢true}
use Rattle.circuit_names.specs.Names.{NamesNone, count_in, name_in}
use Rattle.circuit_names.specs.declared.names.Names.{Names}
use Rattle.circuit_names.specs.declared.place.Kind.TheVariants.{Input, Output}
use Rattle.circuit_names.proofs.names.Names.is_empty.Goals as goal

-- both kinds
none_at : (n : Names) → ((p : ℕ) → p < count_in n Input → name_in n Input p ≡ []) → ((p : ℕ) → p < count_in n Output → name_in n Output p ≡ []) →
    NamesNone n
none_at n inputs outputs Input = inputs
none_at n inputs outputs Output = outputs

pub returns-then-is_empty_of : goal.returns-then-is_empty_of
returns-then-is_empty_of c = (
  λ t. none_at c.args.self.now (c.is_empty_of.ensures.0 c.if-is_empty_of.true) (c.is_empty_of-then-is_empty_of.ensures.0 t),
  λ none. c.is_empty_of-then-is_empty_of.ensures.1 (none Output),
)

pub returns-else-is_empty_of : goal.returns-else-is_empty_of
returns-else-is_empty_of c = (
  λ t. absurd (false≢true (sym c.if-is_empty_of.false ∙ t)),
  λ none. c.is_empty_of.ensures.1 (none Input),
)
