use Rattle.std.proofs.Common.{◌≡◌, arith, refl}
use Rattle.std.proofs.lemmas.List.{get_or_read}
use Rattle.clause_table.specs.Places.{len_at}
use Rattle.clause_table.proofs.PackLemmas.{moved-down}
use Rattle.clause_table.proofs.near.move_down.Goals as goal

pub returns : goal.returns
returns c =
    let xs = c.args.lits.now.items in
    let p = c.args.place in
    let len : c.code-len.result ≡ len_at xs p = grind (arith, get_or_read) in
    let m = moved-down xs p (len_at xs p) c.args.end c.requires.down c.requires.within _ refl in
    rw (c.copy_within.ensures.items, len) (record { end = refl; moved = m.0; above = m.1; len = m.2 })
