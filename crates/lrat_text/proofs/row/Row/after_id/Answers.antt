use Rattle.std.proofs.Common.{sym, ap, ◌∙◌, subst}
use Rattle.lrat_text.specs.Grammar.{after_id}
use Rattle.lrat_text.specs.Reading.{ReadsAs, line_of}
use Rattle.lrat_text.proofs.RowLemmas.{clause_says}
use Rattle.lrat_text.proofs.row.Row.after_id.Goals as goal

pub returns-then-words-ne100 : goal.returns-then-words-ne100
returns-then-words-ne100 c =
    let words = c.skip_blanks-words in
    let short = c.args.short in
    let id = c.args.id in
    subst (λ said. ReadsAs (line_of c.clause.new.self) said c.clause.result)
    (sym (ap (after_id short id) (sym words.ensures.words) ∙ clause_says words.result.now words.ensures.line words.ensures.word short id c.if-id-ne0.true c.if-words-ne100.true))
    c.clause.ensures
