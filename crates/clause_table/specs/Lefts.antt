-- What is left of a clause, as the rules of propagation ask for it.
--     on_left l none one      by the literals that are not false
use Rattle.std.specs.Prelude.{ℕ}
use Rattle.lrat_rules.specs.Causes.{not_unit}
use Rattle.lrat_rules.specs.Propagation.{Ending, stuck}
use Rattle.clause_table.specs.declared.values.Left.{Left}
use Rattle.clause_table.specs.declared.values.Left.TheVariants.{More, Nothing, One}

-- by the literals that are not false
abbrev pub on_left : Left → Ending → (ℕ → Ending) → Ending
on_left Nothing none one = none
on_left (One l) none one = one l
on_left More none one = stuck not_unit
