use Rattle.std.proofs.Common.{◌≡◌, ◌<◌, arith, get_or, length}
use Rattle.std.proofs.lemmas.List.{get_or_read}
use Rattle.clause_table.proofs.PackLemmas.{packed-all, packing-all, packing-next, packing-none, packing-within}
use Rattle.clause_table.proofs.near.pack.Goals as goal
use Rattle.clause_table.proofs.near.pack.Goals.{then-place-gt0, else-place-gt0}

pub move_down-end-requires-clause-within : goal.move_down-end-requires-clause-within
move_down-end-requires-clause-within c =
    let l = c.loop-id in
    let low : l.id < length l.places.items = omega (arith, l.invariant.count) in
    (packing-within c.args.lits.now.items c.args.places.now.items l.lits.items l.places.items l.id l.end l.invariant low c.index.result.now
    (get_or_read l.places.items l.id c.index.result.now low c.index.ensures 0) c.if-place-gt0.true).1

pub loop-id-preserved : goal.loop-id-preserved
loop-id-preserved c =
    let l = c.loop-id in
    let low : l.id < length l.places.items = omega (arith, l.invariant.count) in
    let at : c.index.result.now ≡ get_or l.places.items l.id 0 = get_or_read l.places.items l.id c.index.result.now low c.index.ensures 0 in
    elim c.if-place-gt0.branch [
      | then-place-gt0 w ↦
          let down = w.move_down-end in
          rw (w.places-is, w.lits-is, w.end-is) (packing-next c.args.lits.now.items c.args.places.now.items l.lits.items l.places.items l.id l.end l.invariant low
          c.index.result.now at w.if-place-gt0.true down.new.lits.items down.result down.ensures.end down.ensures.moved down.ensures.above down.ensures.len)
      | else-place-gt0 w ↦
          rw (w.places-is, w.lits-is, w.end-is) (packing-none c.args.lits.now.items c.args.places.now.items l.lits.items l.places.items l.id l.end l.invariant low (omega (arith, at, w.if-place-gt0.false)))
    ]

pub returns-clause-same : goal.returns-clause-same
returns-clause-same c k =
    let l = c.loop-id in
    packed-all c.args.lits.now.items c.args.places.now.items _ l.places.items l.id
    (packing-all c.args.lits.now.items c.args.places.now.items l.lits.items l.places.items l.id l.end l.invariant (omega (arith, l.invariant.count))) l.invariant.count k
