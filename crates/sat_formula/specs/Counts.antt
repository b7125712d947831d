-- The two counts of a header, a byte after the other, and what was read beside them.
--     counts_after header counts byte      the counts with one byte more, which leads to this part of the header
--     lie_of said counts                   the header, where it says something else than what was read
use Rattle.std.specs.Prelude.{ℕ, ◌+◌, ◌-◌, ◌*◌, ◌^◌, min, Bool, ◌||◌, ◌==◌, not, nat_lt, if◌then◌else◌, Option, Some, None}
use Rattle.sat_formula.specs.declared.counts.Counts.{Counts}
use Rattle.sat_formula.specs.declared.counts.LyingHeader.{LyingHeader}
use Rattle.sat_formula.specs.declared.word.Header.{Header}
use Rattle.sat_formula.specs.declared.word.Header.TheVariants as headers
use Rattle.sat_formula.specs.Bytes.{digit_zero}

-- before the first digit
abbrev pub no_counts : Counts
no_counts = record { variables = 0; clauses = 0 }

-- the value of digits and one more; it stays at the largest of 64 bits
abbrev pub count_after : ℕ → ℕ → ℕ
count_after value byte =
    min (min (value * 10) (2 ^ 64 - 1) + (byte - digit_zero)) (2 ^ 64 - 1)

-- a digit of the first count or of the second one, or another byte
abbrev pub counts_after : Header → Counts → ℕ → Counts
counts_after headers.Variables counts b =
    record counts { variables = count_after counts.variables b }
counts_after headers.Clauses counts b = record counts { clauses = count_after counts.clauses b }
counts_after headers.P counts b = counts
counts_after headers.AfterP counts b = counts
counts_after headers.C counts b = counts
counts_after headers.N counts b = counts
counts_after headers.F counts b = counts
counts_after headers.AfterCnf counts b = counts
counts_after headers.AfterVariables counts b = counts
counts_after headers.AfterClauses counts b = counts
counts_after headers.Bad counts b = counts

-- fewer variables are said than there are, or another number of clauses
abbrev pub is_lie : Counts → Counts → Bool
is_lie said counts =
    nat_lt said.variables counts.variables || not (said.clauses == counts.clauses)

-- a header that does not match
abbrev pub lie_of : Option Counts → Counts → Option LyingHeader
lie_of None counts = None
lie_of (Some said) counts =
    if is_lie said counts then Some (record { said = said; counts = counts }) else None
