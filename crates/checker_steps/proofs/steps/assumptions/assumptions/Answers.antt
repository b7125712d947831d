use Rattle.std.proofs.Common.{◌≡◌, ℕ, Bool, true, false, cond, List, [], ◌∷◌, refl, sym, ap, ◌∙◌, arith}
use Rattle.checker_steps.proofs.Common.{canonical, var_bound, checked_assumptions, named_in, know, know_clause, some_not_sampling, accept}
use Rattle.checker_steps.proofs.Common.{not_sampling, refuse, State, assumptions, step, step-assumptions, is_store-known, answers-refuse, kept-answer}
use Rattle.checker_steps.proofs.Common.{context_state}
use Rattle.checker_steps.proofs.EmissionLemmas.{quiet-refusal, answers-accept, answers-delivers, unless-stopped, emits-accepted}
use Rattle.checker_steps.proofs.DeliveryLemmas.{delivered-one}
use Rattle.checker_steps.proofs.steps.assumptions.assumptions.Goals as goal

assumptions-by : (s : State) (ls c : List ℕ) (b : Bool) → c ≡ canonical ls → some_not_sampling s c ≡ b →
    step s (assumptions ls) ≡ cond b (refuse not_sampling s) (accept (record (know_clause (canonical ls) s) { assumed = canonical ls }))
assumptions-by s ls c b list h = grind (arith, step-assumptions)

pub returns-then-some_not_sampling : goal.returns-then-some_not_sampling
returns-then-some_not_sampling g c =
    let ctx = c.args.ctx.now in let list = c.as_slice-list.ensures.value ∙ c.in-Ok.ensures.items in
    let hidden = sym (c.some_not_sampling.ensures ctx.checker_state ctx.clause_hasher ctx.clauses) ∙ c.if-some_not_sampling.true in
    let s = answers-refuse _ _ _ _ (assumptions-by (context_state ctx) _ _ true list hidden) refl in
    record { step = s; kept = c.requires; delivered = quiet-refusal g.P.ProofProcessor g.T.ProofTranscriptProcessor _ _ _ _ s.0 refl }

pub returns : goal.returns
returns g c =
    let ctx = c.args.ctx.now in let s = context_state ctx in let told = c.emit_assumptions in let known = c.in-Ok-ensure_vars.ensures in
    let list = c.as_slice-list.ensures.value ∙ c.in-Ok.ensures.items in let items : c.swap.new.x.items ≡ canonical c.args.lits.now = rw c.swap.ensures.x_after c.in-Ok.ensures.items in
    let here = known.state ctx.checker_state ctx.clause_hasher ∙ ap (λ n. know n s) (c.var_bound.ensures ∙ ap var_bound list) in
    let shown = sym (c.some_not_sampling.ensures ctx.checker_state ctx.clause_hasher ctx.clauses) ∙ c.if-some_not_sampling.false in
    let a = answers-accept (assumptions-by s _ _ false list shown) (λ i. record (here i) { assumed = items i }) in
    let answer = answers-delivers g.P.ProofProcessor g.T.ProofTranscriptProcessor _ _ _ told.result _ _ told.ensures a in record {
      step = answer;
      kept = kept-answer told.result _ _ _ _ _ _ _ _ _ c.requires answer (unless-stopped told.result (is_store-known _ _ _ _ _ _ known c.requires.store));
      delivered = delivered-one g.P.ProofProcessor g.T.ProofTranscriptProcessor _ _ _ _ told.result (emits-accepted s _ _ a.0
          (ap (λ xs. record { step = checked_assumptions xs; names = c.ensure_vars.new.variables } ∷ []) (c.as_slice.ensures.value ∙ items)
          ∙ ap (λ (y : State). named_in y (checked_assumptions (canonical c.args.lits.now)) ∷ []) here)) told.ensures;
    }
