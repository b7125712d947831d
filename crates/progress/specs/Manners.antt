-- How a run reports progress.
--     manner_by is_quiet is_verbose is_terminal      as two options ask, and else as standard error is
use Rattle.std.specs.Prelude.{Bool, true, false}
use Rattle.progress.specs.declared.manner.Manner.{Manner}
use Rattle.progress.specs.declared.manner.Manner.TheVariants.{Silent, Lines, OneLine}

-- quiet: not at all; verbose: in lines; else on a terminal alone, in one line
abbrev pub manner_by : Bool → Bool → Bool → Manner
manner_by true is_verbose is_terminal = Silent
manner_by false true is_terminal = Lines
manner_by false false true = OneLine
manner_by false false false = Silent
