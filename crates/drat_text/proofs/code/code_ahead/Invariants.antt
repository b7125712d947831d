use Rattle.std.proofs.Common.{◌≤◌, ◌<◌, ◌^◌, Some, drop}
use Rattle.drat_text.specs.Codes.{code_at}
use Rattle.drat_text.specs.Taking.{Leads}
use Rattle.drat_text.proofs.CodeLemmas.{IsWeight}
use Rattle.drat_text.proofs.code.code_ahead.Given as goal

abbrev pub invariant-groups : goal.invariant-groups
invariant-groups l = record {
  value : l.code < l.scale;
  weight : IsWeight l.last_weight l.scale;
  small : l.scale ≤ 2 ^ 56;
  read : Leads (Some l.bytes) (Some (drop l.before l.bytes)) (code_at l.last_weight 0 1) (code_at l.last_weight l.code l.scale);
}
