-- The literals of a clause.
use Rattle.std.specs.Prelude.{ℕ, ◌+◌, ◌≤◌, List, [], take, drop, length}
use Rattle.clause_store.specs.declared.clauses.lits.ClauseLits.{ClauseLits}
use Rattle.clause_store.specs.declared.clauses.lits.ClauseLits.TheVariants.{Two, Three, Long}

-- the literals, given the buffer
abbrev pub lits_of : ClauseLits → List ℕ → List ℕ
lits_of (Two ls) buffer = ls
lits_of (Three ls) buffer = ls
lits_of (Long start after_four) buffer = take (after_four + 4) (drop start buffer)

-- where the literals end in the buffer
abbrev pub buffer_end : ClauseLits → ℕ
buffer_end (Two ls) = 0
buffer_end (Three ls) = 0
buffer_end (Long start after_four) = start + (after_four + 4)

-- the range is in the buffer
abbrev pub IsWithin : ClauseLits → List ℕ → Type 0
IsWithin c buffer = buffer_end c ≤ length buffer

-- how many literals are in the buffer
abbrev pub buffer_used : ClauseLits → ℕ
buffer_used (Two ls) = 0
buffer_used (Three ls) = 0
buffer_used (Long start after_four) = after_four + 4

-- the literals that are in the buffer
abbrev pub in_buffer : List ℕ → ClauseLits → List ℕ
in_buffer buffer (Two ls) = []
in_buffer buffer (Three ls) = []
in_buffer buffer (Long start after_four) = take (after_four + 4) (drop start buffer)

-- the same literals, where those in a buffer are in another from `at` on
abbrev pub moved_to : ℕ → ClauseLits → ClauseLits
moved_to at (Two ls) = Two ls
moved_to at (Three ls) = Three ls
moved_to at (Long start after_four) = Long at after_four
