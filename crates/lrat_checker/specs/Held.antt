-- What the parts of a checker hold.
--     table_by f end counts is_counted      clauses by their ids, all of them below one where nothing is counted, and how often each literal stands in them
--     table_of x      those of a checker
--     seen_by w      the ids whose groups were met
use Rattle.std.specs.Prelude.{ℕ, Bool, if◌then◌else◌, List, Option}
use Rattle.lrat_rules.specs.Tables.{Table}
use Rattle.lrat_checker.specs.Counts.{lit_count}
use Rattle.lrat_checker.specs.Uses.{uses_below}
use Rattle.lrat_checker.specs.Met.{is_met}
use Rattle.clause_table.specs.Named.{clause_of}
use Rattle.lrat_checker.specs.declared.clauses.Clauses.{Clauses}
use Rattle.lrat_checker.specs.declared.counts.LitCounts.{LitCounts}
use Rattle.lrat_checker.specs.declared.work.Work.{Work}

-- the clauses of the ids, and how often each literal stands in them, by counts that are kept or by the clauses themselves
abbrev pub table_by : (ℕ → Option (List ℕ)) → ℕ → LitCounts → Bool → Table
table_by f end counts is_counted = record {
  named = f;
  counts = λ l. if is_counted then lit_count counts l else uses_below f end l;
}

-- those of a checker
abbrev pub table_of : Clauses → Table
table_of x = table_by (clause_of x.named) x.end x.counts x.is_counted

-- the ids whose groups were met
abbrev pub seen_by : Work → ℕ → Bool
seen_by w i = is_met w.met_ids i
