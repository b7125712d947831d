-- The answer of the check, in the state that the parts represent.
use Rattle.std.specs.Prelude.{◌≡◌, ℕ, true, false, List}
use Rattle.sat_rules.specs.Clauses.{is_tautology}
use Rattle.checker_rules.specs.Exact.{walk_check}
use Rattle.checker_rules.specs.Passes.{none_empty}
use Rattle.checker_rules.specs.State.{Known, State, buckets, clause_passes}
use Rattle.checker_rules.specs.Traced.{check_trace}
use Rattle.checker_rules.specs.WellFormed.{WellFormed}
use Rattle.clause_store.specs.declared.clauses.Clauses.{Clauses}
use Rattle.clause_store.specs.declared.hash.ClauseHasher.{ClauseHasher}
use Rattle.clause_store.specs.declared.rup.Answer.{Answer}
use Rattle.clause_store.specs.declared.rup.Answer.TheVariants.{Passed, NoClauseForHash, Failed}
use Rattle.clause_store.specs.declared.state.CheckerState.{CheckerState}
use Rattle.clause_store.specs.Rup.{AreAllKnown, check_answer, clause_answer, named_buckets}
use Rattle.clause_store.specs.StateOf.{IsBucketed, state_of, stored_units}
use Rattle.clause_store.specs.Trace.{clause_trace, named_clauses}

-- the clause passes, or it does not and some named bucket is empty, or it does not and none is
abbrev pub AnswersCheck : State → List ℕ → List ℕ → Answer → Type 0
AnswersCheck s c hs Passed = clause_passes s c hs ≡ true
AnswersCheck s c hs NoClauseForHash = (clause_passes s c hs ≡ false)
    × (none_empty (buckets s hs) ≡ false)
AnswersCheck s c hs Failed = (clause_passes s c hs ≡ false) × (none_empty (buckets s hs) ≡ true)

-- the answer over the parts
abbrev pub IsAnswerIn : Clauses → List ℕ → List ℕ → Answer → Type 0
IsAnswerIn cs c hs a = check_answer a ≡
    clause_answer (stored_units cs.unit_clauses) c
    (named_buckets cs.literal_buffer.items cs.buckets hs)

-- in a state of this form the variables of the stored clauses are known; the answer and the trace over the parts are those of the rules
pub record CheckIsByRules : Type 0 where
  pub all_known : (st : CheckerState) (h : ClauseHasher) (cs : Clauses) (known : List Known) →
      IsBucketed h cs → WellFormed (state_of st h cs known) →
      AreAllKnown cs.unit_clauses cs.literal_buffer.items cs.buckets
  pub walk : (st : CheckerState) (h : ClauseHasher) (cs : Clauses) (known : List Known)
      (c hs : List ℕ) → IsBucketed h cs →
      clause_answer (stored_units cs.unit_clauses) c
      (named_buckets cs.literal_buffer.items cs.buckets hs) ≡
      walk_check (state_of st h cs known) c hs
  pub answers : (st : CheckerState) (h : ClauseHasher) (cs : Clauses) (known : List Known)
      (c hs : List ℕ) (a : Answer) → IsBucketed h cs → WellFormed (state_of st h cs known) →
      is_tautology c ≡ false → IsAnswerIn cs c hs a → AnswersCheck (state_of st h cs known) c hs a
  pub trace : (st : CheckerState) (h : ClauseHasher) (cs : Clauses) (known : List Known)
      (c hs : List ℕ) → IsBucketed h cs →
      clause_trace (stored_units cs.unit_clauses) c
      (named_clauses cs.literal_buffer.items cs.buckets hs) ≡
      check_trace (state_of st h cs known) c hs
