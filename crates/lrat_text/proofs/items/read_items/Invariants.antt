use Rattle.std.proofs.Common.{◌≡◌, length}
use Rattle.lrat_text.specs.Bytes.{IsLine, words_in}
use Rattle.lrat_text.specs.Items.{items_at}
use Rattle.lrat_text.proofs.ItemLemmas.{with_front}
use Rattle.lrat_text.proofs.items.read_items.Given as goal

abbrev pub invariant-words : goal.invariant-words
invariant-words g l = record {
  line : IsLine l.rest;
  read : items_at g.T.Item.said l.short (words_in l.fn.bytes) ≡ with_front l.into.items (items_at g.T.Item.said l.short (words_in l.rest));
}

abbrev pub decreases-words : goal.decreases-words
decreases-words g l = length l.rest
