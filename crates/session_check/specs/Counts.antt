-- How many queries there are of each kind, and the last line.
--     counted c r      with one query more
--     last_line c      the last line of a run
use Rattle.std.specs.Prelude.{ℕ, Bool, is_some, ◌==◌, List, ◌++◌, codes, decimal, if◌then◌else◌, nat_lt}
use Rattle.sat_formula.specs.Outcome.{next_line}
use Rattle.session_text.specs.declared.line.Status.{Status}
use Rattle.session_text.specs.declared.line.Status.TheVariants.{Satisfiable, Unknown, Unsatisfiable}
use Rattle.session_check.specs.declared.counts.Counts.{Counts}
use Rattle.session_check.specs.declared.report.Report.{Report}

-- no query
abbrev pub no_counts : Counts
no_counts = record { queries = 0; satisfiable = 0; unsatisfiable = 0; unknown = 0; unshown = 0 }

-- one more has this answer; a count stays at 2^64 - 1
abbrev pub with_status : Counts → Status → Counts
with_status c Satisfiable = record c { satisfiable = next_line c.satisfiable }
with_status c Unsatisfiable = record c { unsatisfiable = next_line c.unsatisfiable }
with_status c Unknown = record c { unknown = next_line c.unknown }

-- one more is shown, or not
abbrev pub with_unshown : Counts → Bool → Counts
with_unshown c unshown = if unshown then record c { unshown = next_line c.unshown } else c

-- one query more
abbrev pub counted : Counts → Report → Counts
counted c r =
    with_unshown (with_status (record c { queries = next_line c.queries }) r.status) (is_some r.reason)

-- no answer is not shown
abbrev pub all_shown : Counts → Bool
all_shown c = c.unshown == 0

-- a number and words
abbrev pub count_text : ℕ → List ℕ → List ℕ
count_text n words = decimal n ++ words

-- the last line
abbrev pub last_line : Counts → List ℕ
last_line c =
    if nat_lt 0 c.unshown
    then count_text c.unshown (codes " of ") ++ count_text c.queries (codes " answers are not shown\n")
    else ((codes "all answers are shown: " ++ count_text c.satisfiable (codes " satisfiable, "))
    ++ count_text c.unsatisfiable (codes " unsatisfiable, ")) ++ count_text c.unknown (codes " unknown\n")
