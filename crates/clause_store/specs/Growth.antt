-- Variables made known.
use Rattle.std.specs.Prelude.{ℕ, ◌≡◌, ◌-◌, ◌≤◌, ◌*◌, ◌++◌, ◌&&◌, None, replicate, Bool, not, nat_lt, List, length}
use Rattle.std.specs.List.{list_any}
use Rattle.sat_rules.specs.Clauses.{var_of}
use Rattle.checker_rules.specs.KnownVars.{is_sample, know, new_known}
use Rattle.checker_rules.specs.State.{Known}
use Rattle.checker_rules.specs.Transcript.{known_at}
use Rattle.clause_store.specs.declared.clauses.Clauses.{Clauses}
use Rattle.clause_store.specs.declared.hash.ClauseHasher.{ClauseHasher}
use Rattle.clause_store.specs.declared.state.CheckerState.{CheckerState}
use Rattle.clause_store.specs.StateOf.{state_of}

-- the first `count` variables are known, and nothing else has changed
pub record KnowsVars (count : ℕ) (cs : Clauses) (known : List Known) (cs' : Clauses)
    (known' : List Known) : Type 0 where
  pub state : (st : CheckerState) (h : ClauseHasher) →
      state_of st h cs' known' ≡ know count (state_of st h cs known)
  pub others : cs' ≡ record cs { unit_clauses = cs'.unit_clauses; lit_counts = cs'.lit_counts }
  pub units : cs'.unit_clauses ≡ cs.unit_clauses ++ replicate (count - length cs.unit_clauses) None
  pub counts : cs'.lit_counts ≡ cs.lit_counts ++ replicate (2 * count - length cs.lit_counts) 0
  pub names : known' ≡ known ++ replicate (count - length known) new_known
  pub same : length cs'.unit_clauses ≡ length known'
  pub enough : count ≤ length cs'.unit_clauses

-- whether some known variable of the list is in another mode than `Sample`
abbrev pub not_sampling_among : List Known → List ℕ → Bool
not_sampling_among known c = list_any
    (λ l. nat_lt (var_of l) (length known) && not (is_sample (known_at known (var_of l)).mode)) c
