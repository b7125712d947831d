use Rattle.index_text.proofs.ListLemmas.{part_found}
use Rattle.index_text.proofs.lists.split_part.Goals as goal

pub returns-clause-parts : goal.returns-clause-parts
returns-clause-parts c = part_found c.args.separator c.args.text.now _ _ _ c.split_class.ensures.front c.split_class.ensures.rest c.tail_of.ensures.tail
