use Rattle.index_text.proofs.EntryLemmas.{entry_found}
use Rattle.index_text.proofs.entry.split_entry.Goals as goal

pub returns-clause-entries : goal.returns-clause-entries
returns-clause-entries c =
    let len = c.entry_len-len.ensures in
    entry_found c.args.text.now _ _ c.entry_len-len.result _ (record {
      within = len.within;
      inside = len.inside;
      ends = len.ends;
    }) c.split_at.ensures.front c.split_at.ensures.back c.tail_of.ensures.tail
