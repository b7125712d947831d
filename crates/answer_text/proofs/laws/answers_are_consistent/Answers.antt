use Rattle.std.proofs.Common.{[], ◌∙◌}
use Rattle.std.proofs.lemmas.Bool.{false≢true}
use Rattle.answer_text.specs.automaton.Places.{start}
use Rattle.answer_text.proofs.ConsistencyLemmas.{consistent_at}
use Rattle.answer_text.proofs.Lines.{are_lines}
use Rattle.answer_text.proofs.laws.answers_are_consistent.Goals as goal

pub returns : goal.returns
returns c = λ text lits h. consistent_at text [] start lits (λ m t n. false≢true t) (are_lines text ∙ h)
