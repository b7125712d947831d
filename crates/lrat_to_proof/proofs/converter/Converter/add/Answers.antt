use Rattle.std.proofs.Common.{refl, map, sym, ◌∙◌}
use Rattle.std.proofs.lemmas.Result.{err_from_is_err_and}
use Rattle.lrat_text.specs.Grammar.{hint_of}
use Rattle.lrat_to_proof.specs.Converting.{add_line}
use Rattle.lrat_to_proof.proofs.BegunLemmas.{begun_whole}
use Rattle.lrat_to_proof.proofs.ConvertedLemmas.{cause_of_hints, converted_add, stopped_add, stopped_before}
use Rattle.lrat_to_proof.proofs.converter.Converter.add.Goals as goal

pub returns-in_err-gather-clause-err : goal.returns-in_err-gather-clause-err
returns-in_err-gather-clause-err g c = λ width start d h.
    let p = err_from_is_err_and c.from_residual.result c.from_residual.ensures.1 in
    rw (p.1, p.2) (cause_of_hints width start (g.W.Write.contents c.args.out.now) d c.args.self.now h c.args.id c.args.clause.now (map hint_of c.args.hints.now)
    (sym c.contains.ensures ∙ c.if-contains.false) c.in_err-gather.field-0.0 c.in_err-gather.ensures.err)

pub returns-in_err-gather-clause-given_up : goal.returns-in_err-gather-clause-given_up
returns-in_err-gather-clause-given_up g c = λ width start d h.
    let p = err_from_is_err_and c.from_residual.result c.from_residual.ensures.1 in
    rw p.1 (λ _. stopped_before width start (g.W.Write.contents c.args.out.now) d c.args.self.now h (add_line width d c.args.id c.args.clause.now (map hint_of c.args.hints.now)))

pub returns-in_err-copy_canonical-clause-given_up : goal.returns-in_err-copy_canonical-clause-given_up
returns-in_err-copy_canonical-clause-given_up g c = λ width start d h.
    let p = err_from_is_err_and c.from_residual-in_err-copy_canonical.result c.from_residual-in_err-copy_canonical.ensures.1 in
    rw p.1 (λ _. stopped_before width start (g.W.Write.contents c.args.out.now) d c.args.self.now h (add_line width d c.args.id c.args.clause.now (map hint_of c.args.hints.now)))

pub returns-in_err-derive-clause-given_up : goal.returns-in_err-derive-clause-given_up
returns-in_err-derive-clause-given_up g c = λ width start d h.
    let p = err_from_is_err_and c.from_residual-in_err-derive.result c.from_residual-in_err-derive.ensures.1 in
    let made = c.in_ok-copy_canonical.ensures.items in
    rw p.1 (λ _. stopped_add width start (g.W.Write.contents c.args.out.now) d c.args.self.now h c.args.id c.args.clause.now (map hint_of c.args.hints.now)
    (sym c.contains.ensures ∙ c.if-contains.false) (g.W.Write.contents c.derive.new.out) c.gather.new.hashes.items c.in_ok-gather.ensures.ok
    (rw (c.deref.ensures.value, c.deref-2.ensures.value, made) at (c.in_err-derive.ensures.err start d.steps h.written)))

pub returns-in_err-put-clause-given_up : goal.returns-in_err-put-clause-given_up
returns-in_err-put-clause-given_up g c = λ width start d h.
    let p = err_from_is_err_and c.from_residual-in_err-put.result c.from_residual-in_err-put.ensures.1 in
    let new = g.W.Write.contents c.derive.new.out in
    let made = c.in_ok-copy_canonical.ensures.items in
    let wrote = rw (c.deref.ensures.value, c.deref-2.ensures.value, made) at (c.in_ok-derive.ensures.ok start d.steps h.written) in
    rw p.1 (λ _. stopped_add width start (g.W.Write.contents c.args.out.now) d c.args.self.now h c.args.id c.args.clause.now (map hint_of c.args.hints.now)
    (sym c.contains.ensures ∙ c.if-contains.false) new c.gather.new.hashes.items c.in_ok-gather.ensures.ok
    (begun_whole start new _ wrote.bytes))

pub returns-clause-ok : goal.returns-clause-ok
returns-clause-ok g c = λ width start d h.
    let x = c.args.self.now in
    let now = g.W.Write.contents c.derive.new.out in
    let made = c.in_ok-copy_canonical.ensures.items in
    converted_add width start (g.W.Write.contents c.args.out.now) d x h c.args.id c.args.clause.now (map hint_of c.args.hints.now) (sym c.contains.ensures ∙ c.if-contains.false)
    now _ c.gather.new.hashes.items c.in_ok-gather.ensures.ok
    (rw (c.deref.ensures.value, c.deref-2.ensures.value, made) at (c.in_ok-derive.ensures.ok start d.steps h.written))
    (rw (c.deref-3.ensures.value, made) at c.in_ok-put.ensures)
    refl
