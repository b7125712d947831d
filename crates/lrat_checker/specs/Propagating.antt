-- How propagation ends, as the rules know it.
--     ending_of e s      the ending, with the literals that are true
--     go_on o s rest      an ending, or what comes after
use Rattle.std.specs.Prelude.{ℕ, Bool, Option, Some, None}
use Rattle.lrat_rules.specs.Propagation as rules
use Rattle.lrat_rules.specs.Propagation.{conflict, open_at, stuck}
use Rattle.lrat_checker.specs.Causes.{cause_of}
use Rattle.lrat_checker.specs.declared.propagation.Ending.{Ending}
use Rattle.lrat_checker.specs.declared.propagation.Ending.TheVariants.{Conflict, Open, Stuck}

-- the ending, with the literals that are true
abbrev pub ending_of : Ending → (ℕ → Bool) → rules.Ending
ending_of Conflict s = conflict
ending_of Open s = open_at s
ending_of (Stuck cause) s = stuck (cause_of cause)

-- an ending, or what comes after
abbrev pub go_on : Option Ending → (ℕ → Bool) → ((ℕ → Bool) → rules.Ending) → rules.Ending
go_on None s rest = rest s
go_on (Some e) s rest = ending_of e s
