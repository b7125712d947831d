use Rattle.std.proofs.Common.{◌≡◌, ◌+◌, ◌++◌, All, length, map}
use Rattle.std.specs.List.{flat_map}
use Rattle.checker_rules.specs.LiveLiterals.{live_literals}
use Rattle.clause_store.specs.Buckets.{clauses_of}
use Rattle.clause_store.specs.Lits.{IsWithin}
use Rattle.clause_store.specs.Moved.{all_in_buffer, walked}
use Rattle.clause_store.specs.View.{stored_of}
use Rattle.clause_store.proofs.clauses.collect.copy_lits.Given as goal

abbrev pub invariant-loop-bucket : goal.invariant-loop-bucket
invariant-loop-bucket l = record {
  copied : l.new.items ++ all_in_buffer l.clauses.literal_buffer.items (flat_map clauses_of l.bucket-iterator) ≡ all_in_buffer l.clauses.literal_buffer.items (walked l.clauses.buckets);
  used : length l.new.items + live_literals (map (stored_of l.clauses.literal_buffer.items) (flat_map clauses_of l.bucket-iterator)) ≡
      live_literals (map (stored_of l.clauses.literal_buffer.items) (walked l.clauses.buckets));
  within : All (λ c. IsWithin c.lits l.clauses.literal_buffer.items) (flat_map clauses_of l.bucket-iterator);
}
