use Rattle.std.proofs.Common.{◌≡◌, ◌+◌, length}
use Rattle.sat_rules.specs.Clauses.{all_true}
use Rattle.follows_check.specs.Minimal.{truth_in, without}
use Rattle.follows_check.proofs.Needed.{pending}
use Rattle.follows_check.proofs.models.unmet_beside.Given as goal

-- those beside it are met if those to come are
abbrev pub invariant-loop-index : goal.invariant-loop-index
invariant-loop-index l = record {
  counted : l.index + length l.clauses ≡ length l.formula;
  met : all_true (truth_in l.values) (pending l.place l.index l.clauses) ≡ all_true (truth_in l.values) (without l.place l.formula);
}
