-- What a reader's bytes say where the reading stops.
use Rattle.std.specs.Prelude.{ℕ, List, [], Option}
use Rattle.sat_formula.specs.Outcome.{next_line}
use Rattle.sat_formula.specs.declared.source.Source.{Source}
use Rattle.drat_text.specs.declared.fault.DratKind.{DratKind}
use Rattle.sat_formula.specs.declared.stop.Stop.{Stop}
use Rattle.drat_text.specs.Taking.{StopsBy}
use Rattle.lrat_text.specs.Texts.{Outcome, Ended, Faulty}
use Rattle.lrat_binary.specs.declared.ids.Ids.{Ids}
use Rattle.lrat_binary.specs.Kinds.{line_kind}
use Rattle.lrat_binary.specs.Lines.{outcome_at}

-- what a stop says after this many lines, with this source
abbrev pub Stopped : {R : Type 0} → Ids → ℕ → Option (List ℕ) → Option (List ℕ) →
    (List ℕ → Outcome) → Source R → Stop DratKind → Type 0
Stopped ids before old new f source stop =
    StopsBy (outcome_at ids before) ([], Ended)
    (λ kind. ([], Faulty (next_line before) (line_kind kind))) old new f source stop
