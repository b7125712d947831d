-- The rows, by computation.
use Rattle.std.proofs.Common.{refl}
use Rattle.std.proofs.lemmas.Bool.{false≢true}
use Rattle.checker_rules.specs.Headline.{holds}
use Rattle.checker_rules.specs.State.{bucket, clause_hash, lit_code_hash, named_hash, pass_test, sat, xor_hash}
use Rattle.checker_rules.specs.Steps.{step}
use Rattle.checker_rules.specs.Store.{count_limit, id_limit}
use Rattle.definition_rows.specs.FoldRows.{FoldRows}

pub fold_rows : FoldRows
unfolding holds lit_code_hash named_hash xor_hash clause_hash bucket pass_test id_limit count_limit step sat
fold_rows = record {
  all_at_first = refl;
  cut = (refl, refl);
  cut_twice = refl;
  freed = refl;
  other_freed = refl;
  freed_before = refl;
  deleted = refl;
  shown = refl;
  stored = (refl, refl);
  recorded = refl;
  not_recorded = refl;
  recorded_set = refl;
  refused = refl;
  literal_false = λ e. false≢true e.0;
  unit_false = λ e. false≢true e.1;
  extends = (refl, refl);
}
