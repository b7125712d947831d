use Rattle.std.proofs.Common.{◌≡◌, Some, drop}
use Rattle.command.specs.Calls.{meant}
use Rattle.command.proofs.call.Call.choice.Given as goal

-- by the words to come it means what it does by all
abbrev pub invariant-loop-word : goal.invariant-loop-word
invariant-loop-word g l =
    meant (λ word. word.now) (drop l.word-index l.words) (Some l.value)
    ≡ meant (λ word. word.now) l.words (Some l.value)
