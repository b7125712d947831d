-- What lines that are accepted lead to.
use Rattle.std.proofs.Common.{◌≡◌, ◌||◌, List, [], ◌∷◌, sym, ap, ◌∙◌}
use Rattle.std.proofs.Math.Bool.{or-false, or_assoc}
use Rattle.std.specs.List.{list_any}
use Rattle.sat_rules.specs.HintLines.{Follows, HintLine, Listed, adds_clause, after_line, deletes_clauses, is_empty}
use Rattle.hint_rules.specs.Accepted.{adds_empty}

-- whether the empty clause was added, from the lines
pub added_by_lines : (h : Listed) (xs : List HintLine) (k : Listed) → Follows h xs k → k.added_empty ≡ (h.added_empty || list_any adds_empty xs)
added_by_lines h [] k f = ap (λ x. x.added_empty) f ∙ sym (or-false h.added_empty)
added_by_lines h (adds_clause id c hints ∷ xs) k f = added_by_lines (after_line h (adds_clause id c hints)) xs k f.1 ∙ or_assoc h.added_empty (is_empty c) (list_any adds_empty xs)
added_by_lines h (deletes_clauses m ids ∷ xs) k f = added_by_lines (after_line h (deletes_clauses m ids)) xs k f.1
