use Rattle.std.proofs.Common.{sym, ◌∙◌}
use Rattle.index_text.specs.Classes.{is_of}
use Rattle.index_text.proofs.ClassLemmas.{behind-front, leading-front}
use Rattle.index_text.proofs.class.split_class.Goals as goal

pub returns-clause-front : goal.returns-clause-front
returns-clause-front c =
    let len = c.class_len-len.ensures in
    c.split_at.ensures.front ∙ sym (leading-front (is_of c.args.class) c.args.bytes.now c.class_len-len.result (record {
      within = len.within;
      pass = len.pass;
      ends = len.ends;
    }))

pub returns-clause-rest : goal.returns-clause-rest
returns-clause-rest c =
    let len = c.class_len-len.ensures in
    c.split_at.ensures.back ∙ sym (behind-front (is_of c.args.class) c.args.bytes.now c.class_len-len.result (record {
      within = len.within;
      pass = len.pass;
      ends = len.ends;
    }))
