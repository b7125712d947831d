use Rattle.std.proofs.Common.{rules, Ok, [], ◌∷◌, ◌++◌, ap, sym, ◌≡◌, ◌+◌, ◌<◌, ◌≤◌, ◌∙◌, length, refl, subst}
use Rattle.std.specs.Prelude.{not, unwrap_or}
use Rattle.sat_formula.specs.Outcome.{next_line}
use Rattle.sat_formula.specs.Source.{room_of, unread}
use Rattle.lrat_text.specs.Bytes.{IsLine}
use Rattle.lrat_text.specs.Holding.{HoldsLine, unread_lines}
use Rattle.lrat_text.specs.NextLine.{bytes_left, room_left}
use Rattle.lrat_text.proofs.ReaderLemmas.{held_counts, holds_open, line_judged, short_for}
use Rattle.lrat_text.proofs.WordLemmas.{words_in-line}
use Rattle.lrat_text.proofs.reader.LineReader.held_line.Goals as goal
use Rattle.lrat_text.proofs.reader.LineReader.held_line.Goals.{then-whole, else-whole}

pub returns : goal.returns
returns g c =
    let remaining = g.R.Read.remaining in
    let s = c.args.self.now in
    let held = c.hold.new.self in
    let whole = c.in_ok-whole.whole in
    let taken = c.in_ok-whole.ensures.line in
    let short : c.if-whole.short ≡ short_for whole = elim c.if-whole.branch [
      | then-whole w ↦ w.short-is ∙ ap short_for (sym w.if-whole.true)
      | else-whole w ↦ w.short-is ∙ ap short_for (sym w.if-whole.false)
    ] in
    let lines : c.end_line.new.self.lines ≡ held = ap (λ r. r.lines) c.end_line.ensures in
    let items : c.held.result.now ≡ held.held.items ++ 10 ∷ [] = c.held.ensures ∙ c.in_ok-end_held.ensures.ok ∙ ap (λ t. t.held.items ++ 10 ∷ []) lines in
    let source : c.end_held.new.self.source ≡ held.source = c.in_ok-end_held.ensures.source ∙ ap (λ t. t.source) lines in
    let line : IsLine c.held.result.now = record {
      line = held.held.items;
      is = items;
      is_open = holds_open (bytes_left remaining s) (unread_lines remaining held) held.source held.held.items whole taken;
    } in
    let new = record s { lines = c.end_held.new.self; row = c.read.new.self; number = next_line s.number; ended = not whole } in
    let said = rw (words_in-line c.held.result.now line, short) at c.read.ensures in
    record {
      judged = rw c.end_line.ensures (line_judged remaining s new held.held.items whole c.read.result
          (subst (λ t. HoldsLine (bytes_left remaining s) (unread remaining t) t held.held.items (Ok whole)) (sym source) taken) refl refl said);
      counts = rw c.end_line.ensures (held_counts s new held.held.items whole c.read.result refl refl
          (λ e. subst (λ t. unwrap_or (room_of t) 0 < room_left s) (sym source) (c.in_ok-whole.ensures.nearer (ap (λ w. Ok w) e)))
          (subst (λ t. unwrap_or (room_of t) 0 + length held.held.items ≤ room_left s) (sym source) c.in_ok-whole.ensures.taken) said);
      nearer = search rules;
    }
