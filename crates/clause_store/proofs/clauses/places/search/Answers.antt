use Rattle.std.proofs.Common.{◌∙◌, None, Some, sym, refl}
use Rattle.clause_store.specs.Lits.{IsWithin}
use Rattle.clause_store.proofs.CrowdLemmas.{All-stands, place-here, place-is}
use Rattle.clause_store.proofs.BucketLemmas.{absent-more, absent-one}
use Rattle.clause_store.proofs.clauses.places.search.Goals as goal

pub has_lits-requires : goal.has_lits-requires
has_lits-requires c =
    let ps = c.args.places.now in let i = c.loop-at.at in let d = c.in-Some.clause in
    All-stands (λ e. IsWithin e.lits c.args.buffer.now) ps i d c.requires c.loop-at-test.true (place-is ps i _ (Some d) c.loop-at-test.true c.in-Some.is)

pub loop-at-preserved : goal.loop-at-preserved
loop-at-preserved c =
    let ps = c.args.places.now in let i = c.loop-at.at in let d = c.in-Some.clause in
    absent-more c.args.buffer.now c.args.lits.now ps i (Some d) c.loop-at-test.true (place-here ps i _ (Some d) c.loop-at-test.true c.in-Some.is)
    (absent-one c.args.buffer.now c.args.lits.now d (sym c.has_lits.ensures ∙ c.if-has_lits.false)) c.loop-at.invariant

pub loop-at-preserved-in_default : goal.loop-at-preserved-in_default
loop-at-preserved-in_default c =
    let ps = c.args.places.now in let i = c.loop-at.at in
    absent-more c.args.buffer.now c.args.lits.now ps i None c.loop-at-test.true (place-here ps i _ None c.loop-at-test.true c.in_default.is) refl c.loop-at.invariant
