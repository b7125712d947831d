use Rattle.std.proofs.Common.{arith}
use Rattle.lrat_text.proofs.WordLemmas.{words_in-word}
use Rattle.lrat_text.proofs.words.split_word.Goals as goal

pub returns-clause-word : goal.returns-clause-word
returns-clause-word c =
    let word = c.skip_blanks-word in
    words_in-word c.args.bytes.now word.result.now c.word_len-len.result word.ensures.words (omega arith)
    c.word_len-len.ensures.len c.word_len-len.ensures.word c.word_len-len.ensures.end
