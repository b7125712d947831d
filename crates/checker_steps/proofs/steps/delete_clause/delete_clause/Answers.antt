use Rattle.checker_steps.proofs.Common.{is_canonical, is_tautology, tautology, delete_clause, step, why, canonical-is, common_steps, rising_canonical, rising_is, rising_sound}
use Rattle.checker_steps.proofs.Common.{answers-refuse, canonical, context_state}
use Rattle.std.proofs.Common.{◌≡◌, sym, ap, ◌∙◌, refl, arith}
use Rattle.checker_steps.proofs.DeleteStepLemmas.{delete-tautology}
use Rattle.checker_steps.proofs.EmissionLemmas.{quiet-refusal}
use Rattle.checker_steps.proofs.steps.delete_clause.delete_clause.Goals as goal

pub delete_canonical-requires : goal.delete_canonical-requires
delete_canonical-requires g c =
    let rises = sym c.has_rising_vars.ensures ∙ c.if-has_rising_vars.true in record {
      kept = c.requires;
      canonical = rising_canonical c.args.lits.now rises;
      no_tautology = ap is_tautology (rising_is c.args.lits.now rises) ∙ sym (rising_sound c.args.lits.now rises);
    }

pub returns-then-has_rising_vars : goal.returns-then-has_rising_vars
returns-then-has_rising_vars g c = grind (arith, common_steps, rising_is)

pub delete_canonical-deleted-requires : goal.delete_canonical-deleted-requires
delete_canonical-deleted-requires g c =
    let is : c.deref.result.now ≡ canonical c.args.lits.now = c.deref.ensures.value ∙ (rw c.in-Ok-Some.field-0-is at c.in-Ok-Some.ensures.list) in record {
      kept = c.requires;
      canonical = ap is_canonical is ∙ canonical-is c.args.lits.now;
      no_tautology = ap is_tautology is ∙ sym (rw c.in-Ok-Some.field-0-is at c.in-Ok-Some.ensures.tautology);
    }

pub returns-in-Ok-Some : goal.returns-in-Ok-Some
returns-in-Ok-Some g c =
    let is : c.deref.result.now ≡ canonical c.args.lits.now = c.deref.ensures.value ∙ (rw c.in-Ok-Some.field-0-is at c.in-Ok-Some.ensures.list) in let a = c.delete_canonical-deleted.ensures in
    record { step = a.step c.args.lits.now is; kept = a.kept; delivered = a.delivered c.args.lits.now is }

pub returns-in-Ok-None : goal.returns-in-Ok-None
returns-in-Ok-None g c =
    let s = context_state c.args.ctx.now in let t = delete_clause (why c.args.proof) c.args.lits.now in
    let refused = answers-refuse tautology (step s t) s s (delete-tautology s (why c.args.proof) c.args.lits.now (sym (rw c.in-Ok-None.field-0-is at c.in-Ok-None.ensures.tautology))) refl in
    record { step = refused; kept = c.requires; delivered = quiet-refusal g.P.ProofProcessor g.T.ProofTranscriptProcessor s t tautology _ refused.0 refl }
