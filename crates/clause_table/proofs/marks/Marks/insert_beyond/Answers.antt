use Rattle.std.proofs.Common.{refl, arith}
use Rattle.clause_table.proofs.MarkLemmas.{mark-added, mark-new, mark-past, mark-same, none-contains}
use Rattle.clause_table.proofs.marks.Marks.insert_beyond.Goals as goal

pub returns-then-gets_room-clause-is_new : goal.returns-then-gets_room-clause-is_new
returns-then-gets_room-clause-is_new c = grind (arith, mark-past, none-contains)

pub returns-then-gets_room-clause-ok : goal.returns-then-gets_room-clause-ok
returns-then-gets_room-clause-ok c =
    let m = c.args.self.now in
    mark-new m.near.items c.resize.new.self.items m.far _ _ c.args.code c.in_ok-resize.ensures.items (omega (arith, c.requires.beyond))
    (c.if-is_empty.ensures.0 refl) (omega (arith, c.in_ok-resize.ensures.len))

pub returns-in-Ok-clause-is_new : goal.returns-in-Ok-clause-is_new
returns-in-Ok-clause-is_new c = grind (arith, mark-past)

pub returns-in-Ok-clause-ok : goal.returns-in-Ok-clause-ok
returns-in-Ok-clause-ok c = mark-added c.args.self.now.near.items c.args.self.now.far c.insert.new.self c.args.code c.requires.beyond c.in-Ok.ensures.updates.0

pub returns-in-Err-clause-err : goal.returns-in-Err-clause-err
returns-in-Err-clause-err c = mark-same c.args.self.now.near.items c.args.self.now.far c.insert.new.self c.in-Err.ensures.err
