use Rattle.std.proofs.Common.{None, Some, refl, ap, ◌∙◌}
use Rattle.checker_steps.proofs.Common.{is_sample, index_of, state_of, is_store-known, answers-refuse, kept-answer}
use Rattle.checker_steps.proofs.EmissionLemmas.{kept-after, quiet-refusal, answers-accept, answers-delivers, unless-stopped}
use Rattle.checker_steps.proofs.DeliveryLemmas.{whole-none}
use Rattle.checker_steps.proofs.DeliveryLemmas.{delivered-one}
use Rattle.checker_steps.proofs.NamingLemmas.{emits-change, is_sample-asked, mode-changed, mode-refused}
use Rattle.checker_steps.proofs.steps.change_sampling_mode.change_sampling_mode.Goals as goal

pub returns-in-Ok-None : goal.returns-in-Ok-None
returns-in-Ok-None g c =
    let st = c.args.ctx.now.checker_state in let h = c.args.ctx.now.clause_hasher in let known = c.in_ok-ensure_var.ensures.known in
    let is = known.state st h in let changed = rw c.in-Ok-None.field-0-is at c.in-Ok-None.ensures in
    let s = answers-accept (mode-changed _ _ _ c.args.sample is changed.0) (ap (state_of st h c.ensure_var.new.clauses) changed.1) in record {
      step = s;
      kept = kept-after _ c.requires s.1 (is_store-known _ _ _ _ _ _ known c.requires.store);
      delivered = whole-none g.P.ProofProcessor g.T.ProofTranscriptProcessor _ _ (emits-change _ _ _ _ c.args.sample None _ is changed.0 changed.1 changed.2 refl);
    }

pub returns-in-Ok-Some : goal.returns-in-Ok-Some
returns-in-Ok-Some g c =
    let st = c.args.ctx.now.checker_state in let h = c.args.ctx.now.clause_hasher in let known = c.in_ok-ensure_var.ensures.known in
    let is = known.state st h in let changed = rw c.in-Ok-Some.field-0-is at c.in-Ok-Some.ensures in let told = c.emit_user_var in
    let a = answers-accept (mode-changed _ _ _ c.args.sample is changed.0) (ap (state_of st h c.ensure_var.new.clauses) changed.1) in
    let s = answers-delivers g.P.ProofProcessor g.T.ProofTranscriptProcessor _ _ _ told.result _ _ told.ensures a in record {
      step = s;
      kept = kept-answer told.result _ _ _ _ _ _ _ _ _ c.requires s (unless-stopped told.result (is_store-known _ _ _ _ _ _ known c.requires.store));
      delivered = delivered-one g.P.ProofProcessor g.T.ProofTranscriptProcessor _ _ _ _ told.result (emits-change _ _ _ _ _ (Some (index_of c.in-Ok-Some.user_var)) _ is changed.0 changed.1 changed.2
          (c.shown_mode.ensures ∙ ap is_sample c.asked_mode.ensures ∙ is_sample-asked c.args.sample)) told.ensures;
    }

pub returns-in-Err : goal.returns-in-Err
returns-in-Err g c =
    let st = c.args.ctx.now.checker_state in let h = c.args.ctx.now.clause_hasher in let known = c.in_ok-ensure_var.ensures.known in
    let s = answers-refuse _ _ _ _ (mode-refused _ _ _ c.args.sample _ (known.state st h) c.in-Err.ensures.0) (ap (state_of st h c.ensure_var.new.clauses) c.in-Err.ensures.1) in
    record { step = s; kept = kept-after _ c.requires s.1 (is_store-known _ _ _ _ _ _ known c.requires.store); delivered = quiet-refusal g.P.ProofProcessor g.T.ProofTranscriptProcessor _ _ _ _ s.0 refl }
