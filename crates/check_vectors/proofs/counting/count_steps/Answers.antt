use Rattle.std.proofs.Common.{◌≡◌, ◌⊎◌, length, ap, ◌∙◌, inl, length-append}
use Rattle.check_vectors.proofs.CountLemmas.{no-memory}
use Rattle.check_vectors.proofs.counting.count_steps.Goals as goal

pub growth-requires : goal.growth-requires
growth-requires g c =
    let one_type : ◌≡◌ {A = Unit {0} ⊎ ⊥} c.into_dyn_box.result.vtable (inl (tt {0})) = c.into_dyn_box.ensures.0 in
    rw one_type (λ old e new h. ap length h ∙ length-append _ _)

pub returns-in-Err-clause-refused : goal.returns-in-Err-clause-refused
returns-in-Err-clause-refused g c = no-memory (g.R.Read.remaining c.args.proof) c.args.formula.now
