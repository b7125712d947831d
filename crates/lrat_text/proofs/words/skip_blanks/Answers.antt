use Rattle.std.proofs.Common.{arith, sym, ◌∙◌}
use Rattle.lrat_text.proofs.WordLemmas.{blank_passed}
use Rattle.lrat_text.proofs.words.skip_blanks.Goals as goal

pub blanks-preserved : goal.blanks-preserved
blanks-preserved c =
    let inv = c.blanks.invariant in
    let p = blank_passed c.blanks.rest.now inv.line (sym c.is_blank.ensures ∙ c.blanks-test.true) in
    record {
      line = p.line;
      words = p.words ∙ inv.words;
      len = omega (arith, p.shorter, inv.len);
    }
