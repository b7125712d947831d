use Rattle.std.proofs.Common.{◌≤◌, ℕ, List, Option}
use Rattle.drat_text.specs.Reading.{Says}
use Rattle.drat_text.specs.Steps.{Outcome}
use Rattle.drat_text.specs.Taking.{room_in, unread_bytes}
use Rattle.drat_text.proofs.text.numbers.Given as goal

abbrev pub invariant-numbers : goal.invariant-numbers
invariant-numbers g l = record {
  room : room_in l.bytes ≤ room_in l.fn.bytes;
  read : (before : List ℕ → Outcome g.G.Grammar.Step) (all : Option (List ℕ))
      → Says g.G.Grammar.rules (g.G.Grammar.rules.said (g.G.Grammar.slot_of l.fn.draft) l.fn.first.negative l.fn.first.value) l.fn.first.last
      all (unread_bytes g.R.Read.remaining l.fn.bytes) before
      → Says g.G.Grammar.rules (g.G.Grammar.rules.said (g.G.Grammar.slot_of l.draft) l.number.negative l.number.value) l.number.last
      all (unread_bytes g.R.Read.remaining l.bytes) before;
}

abbrev pub decreases-numbers : goal.decreases-numbers
decreases-numbers g l = room_in l.bytes
