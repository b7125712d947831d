use Rattle.std.proofs.Common.{◌≡◌, ◌+◌, ◌++◌, ◌∷◌, [], Some, None, append-nil, take, sym, ◌∙◌, arith}
use Rattle.std.proofs.lemmas.List.{take_all}
use Rattle.clause_store.specs.Crowds.{standing}
use Rattle.clause_store.specs.Lits.{IsWithin}
use Rattle.clause_store.proofs.CrowdLemmas.{All-stands, place-here, place-is, standing-more}
use Rattle.clause_store.proofs.MoveLemmas.{copied-more, live-more}
use Rattle.clause_store.proofs.clauses.collect.copy_places.Goals as goal

pub copy_to-requires : goal.copy_to-requires
copy_to-requires c =
    let ps = c.args.places.now in let i = c.loop-place.place-index in let d = c.in-Some.clause in let less = c.loop-place-test.true in
    All-stands (λ e. IsWithin e.lits c.args.buffer.now) ps i d c.requires less (place-is ps i _ (Some d) less (sym c.place-item.is ∙ c.in-Some.is))

pub loop-place-preserved-in_default : goal.loop-place-preserved-in_default
loop-place-preserved-in_default c =
    let b = c.args.buffer.now in let ps = c.args.places.now in let i = c.loop-place.place-index in let less = c.loop-place-test.true in let v = c.loop-place.invariant in
    let free : standing (take i ps) ≡ standing (take (i + 1) ps) =
    sym (standing-more ps i None less (place-here ps i _ None less (sym c.place-item.is ∙ c.in_default.is)) ∙ append-nil _) in
    rw (← free) v

pub loop-place-preserved : goal.loop-place-preserved
loop-place-preserved c =
    let b = c.args.buffer.now in let ps = c.args.places.now in let i = c.loop-place.place-index in let d = c.in-Some.clause in let less = c.loop-place-test.true in
    let old = c.args.new.now.items in let e = c.in_ok-copy_to.ensures in let v = c.loop-place.invariant in
    let next : standing (take (i + 1) ps) ≡ standing (take i ps) ++ d ∷ [] =
    standing-more ps i (Some d) less (place-here ps i _ (Some d) less (sym c.place-item.is ∙ c.in-Some.is)) in
    record {
      copied = cc (next, copied-more b old _ (standing (take i ps)) d v.copied);
      used = cc (next, live-more b _ _ (standing (take i ps)) d v.used);
    }

pub returns-clause-copied : goal.returns-clause-copied
returns-clause-copied c = rw (take_all c.loop-place.place-index c.args.places.now (omega arith)) at c.loop-place.invariant.copied

pub returns-clause-used : goal.returns-clause-used
returns-clause-used c = rw (take_all c.loop-place.place-index c.args.places.now (omega arith)) at c.loop-place.invariant.used
