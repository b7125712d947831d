use Rattle.checker_steps.proofs.Common.{answers-refuse, kept-answer, context_state, is_tautology, core_cause}
use Rattle.std.proofs.Common.{refl, ◌∙◌, sym, ap}
use Rattle.checker_steps.proofs.EmissionLemmas.{quiet-refusal, answers-accept, answers-delivers, unless-stopped, delivered-traced}
use Rattle.checker_steps.proofs.CoreLemmas.{core-checked, core-opposites, core-opposites-steps, core-refused, core-traced}
use Rattle.checker_steps.proofs.DeliveryLemmas.{delivered-one}
use Rattle.checker_steps.proofs.steps.failed_assumptions.failed_assumptions.Goals as goal

pub returns-in-Err : goal.returns-in-Err
returns-in-Err g c =
    let ctx = c.args.ctx.now in
    let o = core-refused (context_state ctx) _ c.args.hashes.now _ (c.as_slice-core.ensures.value ∙ c.in-Ok.ensures.items) _ (c.in-Err.ensures ctx.clause_hasher ctx.clauses) in
    let s = answers-refuse _ _ _ _ o refl in record { step = s; kept = c.requires; delivered = quiet-refusal g.P.ProofProcessor g.T.ProofTranscriptProcessor _ _ _ _ s.0 refl }

pub returns-then-has_opposites : goal.returns-then-has_opposites
returns-then-has_opposites g c =
    let ctx = c.args.ctx.now in let told = c.emit_failed_assumptions in let list = c.as_slice-core.ensures.value ∙ c.in-Ok.ensures.items in
    let allowed = c.in_default-judge.ensures ctx.clause_hasher ctx.clauses in let opposite = ap is_tautology list ∙ sym c.in-Ok.ensures.tautology ∙ c.if-has_opposites.true in
    let o = core-opposites (context_state ctx) _ c.args.hashes.now _ list allowed opposite in record {
      step = answers-delivers g.P.ProofProcessor g.T.ProofTranscriptProcessor _ _ _ told.result _ _ told.ensures (answers-accept o refl);
      kept = unless-stopped told.result c.requires;
      delivered = delivered-traced g.P.ProofProcessor g.T.ProofTranscriptProcessor told.result _ _ _ _ _ c.requires.form (core-opposites-steps _ _ _ _ list allowed opposite)
          (delivered-one g.P.ProofProcessor g.T.ProofTranscriptProcessor _ _ _ _ told.result refl told.ensures);
    }

pub returns : goal.returns
returns g c =
    let ctx = c.args.ctx.now in let checked = c.check_core-answer in let taken = c.deref.ensures.value ∙ ap (λ v. v.items) c.replace-core.ensures.value in
    let list = taken ∙ c.in-Ok.ensures.items in
    let allowed = ap (core_cause (context_state ctx)) (taken ∙ sym c.as_slice-core.ensures.value) ∙ c.in_default-judge.ensures ctx.clause_hasher ctx.clauses in
    let apart = ap is_tautology list ∙ sym c.in-Ok.ensures.tautology ∙ c.if-has_opposites.false in
    let o = core-checked (context_state ctx) _ c.args.hashes.now _ list allowed apart in let s = rw (← o) at checked.ensures.answer in record {
      step = s;
      kept = kept-answer checked.result _ _ _ _ _ _ _ _ _ c.requires s checked.ensures.store;
      delivered = delivered-traced g.P.ProofProcessor g.T.ProofTranscriptProcessor checked.result _ _ _ _ _ c.requires.form (core-traced _ _ _ _ list allowed apart) checked.ensures.delivered;
    }
