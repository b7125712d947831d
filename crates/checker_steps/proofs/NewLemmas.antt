-- A checker with nothing stored.
use Rattle.std.proofs.Common.{◌≡◌, ℕ, List, [], None, ap, arith}
use Rattle.checker_steps.proofs.Common.{IsEmpty, flat_map, new_state, new_form, PartsInvariant, applied_of, pending_of, state_of}
use Rattle.checker_steps.proofs.Common.{by_id, stored_in, Clauses, ClauseHasher, CheckerState}
use Rattle.std.specs.Map.{keys_of}
use Rattle.clause_store.specs.Buckets.{Buckets}
use Rattle.clause_store.specs.NewParts.{IsEmptyStore, IsNewState}
use Rattle.clause_store.specs.View.{list_of}

-- no clause is stored
list_of-empty : (buffer : List ℕ) (m : Buckets) → IsEmpty m → list_of buffer m ≡ []
unfolding list_of
list_of-empty buffer m e = ap (λ es. by_id (flat_map (stored_in buffer m) (keys_of es))) e

module _ (st : CheckerState) (h : ClauseHasher) (cs : Clauses) (fresh : IsNewState st) (bits : h.hash_bits ≡ 64) (names : applied_of h ≡ (λ v. None))
    (pending : pending_of h ≡ []) (empty : IsEmptyStore cs) where
  -- the parts represent the state of a new checker
  pub state_of-new : state_of st h cs [] ≡ new_state
  state_of-new = grind (arith, list_of-empty)

  -- both
  pub kept-new : PartsInvariant st h cs []
  kept-new = grind (arith, state_of-new, new_form, list_of-empty)
