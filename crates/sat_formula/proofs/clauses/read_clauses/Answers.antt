use Rattle.std.proofs.Common.{◌≡◌, ℕ, ◌+◌, [], ◌∷◌, ◌++◌, length, refl, sym, ap, ◌∙◌, length-append}
use Rattle.sat_formula.specs.DimacsReader.{line_given, standing}
use Rattle.sat_formula.specs.Text.{past_of}
use Rattle.sat_formula.proofs.Notes.{BeginsOn-given, IsNotes-ended, notes_left-new}
use Rattle.sat_formula.proofs.Whole.{BeginsWith-given, FailsAfter-given, IsOutcome-ended, outcome_left-new}
use Rattle.sat_formula.proofs.Telling.{HasTold-more, HasTold-nil, IsLie-counted, counted-ended, counts-few}
use Rattle.sat_formula.proofs.clauses.read_clauses.Goals as goal

pub clauses-init : goal.clauses-init
clauses-init g c =
    let r = c.new-reader in
    ([], [], HasTold-nil g.F.Read.remaining r.result r.ensures.vars r.ensures.clauses r.ensures.room, c.requires.fresh)

pub clauses-preserved : goal.clauses-preserved
clauses-preserved g c =
    let inv = c.clauses.invariant in
    let clause = c.next_clause.new.into.items in
    let more = rw c.in-Ok-true.field-0-test at c.in-Ok-true.ensures in
    let told = HasTold-more g.F.Read.remaining _ c.clauses.reader c.next_clause.new.self _ _ _ inv.2 more.after_end more.next (more.nearer refl) more.clauses more.vars in
    let number : c.clause_count.result ≡ length inv.0 + 1 = c.clause_count.ensures ∙ told.number ∙ length-append inv.0 (clause ∷ []) in (
      inv.0 ++ clause ∷ [],
      inv.1 ++ line_given c.next_clause.new.self ∷ [],
      told,
      rw (c.deref.ensures.value, c.clause_line.ensures) at (c.in_default.ensures _ inv.0 inv.1 inv.3 number (number ∙ ap (λ (n : ℕ). n + 1) (sym inv.2.even))),
    )

pub returns-in-Err-take-clause-some : goal.returns-in-Err-take-clause-some
returns-in-Err-take-clause-some g c =
    let r = c.new-reader in
    let inv = c.clauses.invariant in
    let clause = c.next_clause.new.into.items in
    let more = rw c.in-Ok-true.field-0-test at c.in-Ok-true.ensures in
    let told = HasTold-more g.F.Read.remaining r.result c.clauses.reader c.next_clause.new.self _ _ _ inv.2 more.after_end more.next (more.nearer refl) more.clauses more.vars in
    let number : c.clause_count.result ≡ length inv.0 + 1 = c.clause_count.ensures ∙ told.number ∙ length-append inv.0 (clause ∷ []) in (
      inv.0 ++ clause ∷ [],
      rw (outcome_left-new g.F.Read.remaining r.result _ r.ensures.unread r.ensures.standing r.ensures.ended) at (BeginsWith-given g.F.Read.remaining r.result c.next_clause.new.self _ told.given),
      rw c.deref.ensures.value at (c.in-Err-take.ensures _ inv.0 inv.1 inv.3 number (number ∙ ap (λ (n : ℕ). n + 1) (sym inv.2.even))),
    )

pub returns-in-Err-clause-some : goal.returns-in-Err-clause-some
returns-in-Err-clause-some g c =
    let r = c.new-reader in
    let inv = c.clauses.invariant in (
      inv.0,
      inv.1,
      rw (outcome_left-new g.F.Read.remaining r.result _ r.ensures.unread r.ensures.standing r.ensures.ended)
          at (FailsAfter-given g.F.Read.remaining r.result c.clauses.reader c.next_clause.new.self _ _ inv.2.given _ c.in-Err.ensures.after_end c.in-Err.ensures.next),
      inv.3,
      rw (notes_left-new g.F.Read.remaining r.result _ r.ensures.unread r.ensures.standing r.ensures.ended)
          at (BeginsOn-given g.F.Read.remaining r.result c.clauses.reader inv.1 inv.2.noted),
    )

pub returns-clause-whole : goal.returns-clause-whole
returns-clause-whole g c =
    let r = c.new-reader in
    let inv = c.clauses.invariant in
    let end = rw c.in-Ok-false.field-0-test at c.in-Ok-false.ensures in
    let counted = counted-ended g.F.Read.remaining _ c.clauses.reader c.next_clause.new.self _ _ _ inv.2 end.after_end end.next end.clauses end.vars in
    record {
      clauses = inv.0;
      whole = rw (← outcome_left-new g.F.Read.remaining r.result _ r.ensures.unread r.ensures.standing r.ensures.ended)
          (IsOutcome-ended g.F.Read.remaining _ c.clauses.reader c.next_clause.new.self _ _ inv.2.given end.next);
      notes = (inv.1, past_of (standing c.next_clause.new.self));
      noted = rw (← notes_left-new g.F.Read.remaining r.result _ r.ensures.unread r.ensures.standing r.ensures.ended)
          (IsNotes-ended g.F.Read.remaining _ c.clauses.reader c.next_clause.new.self _ _ inv.2.noted end.after_end end.next);
      holds = inv.3;
      header = c.header.ensures;
      counts = counts-few inv.0 _ _ _ (c.var_count.ensures ∙ counted.0) (c.clause_count-2.ensures ∙ counted.1) inv.2.room;
      number = c.clause_count-2.ensures ∙ counted.1;
    }

pub returns-clause-lie : goal.returns-clause-lie
returns-clause-lie g c =
    let r = c.new-reader in
    let inv = c.clauses.invariant in
    let end = rw c.in-Ok-false.field-0-test at c.in-Ok-false.ensures in
    let counted = counted-ended g.F.Read.remaining _ c.clauses.reader c.next_clause.new.self _ _ _ inv.2 end.after_end end.next end.clauses end.vars in
    let whole = rw (outcome_left-new g.F.Read.remaining r.result _ r.ensures.unread r.ensures.standing r.ensures.ended)
    at (IsOutcome-ended g.F.Read.remaining r.result c.clauses.reader c.next_clause.new.self _ _ inv.2.given end.next) in
    let noted = rw (notes_left-new g.F.Read.remaining r.result _ r.ensures.unread r.ensures.standing r.ensures.ended)
    at (IsNotes-ended g.F.Read.remaining r.result c.clauses.reader c.next_clause.new.self _ _ inv.2.noted end.after_end end.next) in
    rw c.lying_header.ensures (IsLie-counted _ inv.0 (inv.1, past_of (standing c.next_clause.new.self)) _ whole noted (counts-few inv.0 _ _ _ counted.0 counted.1 inv.2.room))
