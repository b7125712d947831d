use Rattle.lrat_binary.proofs.draft.Draft.take.Goals as goal

pub returns-in-Hint : goal.returns-in-Hint
returns-in-Hint c = c.take_hint.ensures c.args.ids
