use Rattle.checker_steps.proofs.Common.{is_canonical, is_tautology, tautology, at_clause, step, canonical-is, common_steps, rising_canonical, rising_is, rising_sound}
use Rattle.checker_steps.proofs.Common.{answers-refuse, canonical, context_state}
use Rattle.std.proofs.Common.{◌≡◌, sym, ap, ◌∙◌, refl, arith}
use Rattle.checker_steps.proofs.DerivedLemmas.{at-tautology}
use Rattle.checker_steps.proofs.EmissionLemmas.{quiet-refusal}
use Rattle.checker_steps.proofs.steps.at_clause.at_clause.Goals as goal

pub at_canonical-requires : goal.at_canonical-requires
at_canonical-requires g c =
    let rises = sym c.has_rising_vars.ensures ∙ c.if-has_rising_vars.true in record {
      kept = c.requires;
      canonical = rising_canonical c.args.lits.now rises;
      no_tautology = ap is_tautology (rising_is c.args.lits.now rises) ∙ sym (rising_sound c.args.lits.now rises);
    }

pub returns-then-has_rising_vars : goal.returns-then-has_rising_vars
returns-then-has_rising_vars g c = grind (arith, common_steps, rising_is)

pub at_canonical-taken-requires : goal.at_canonical-taken-requires
at_canonical-taken-requires g c =
    let is : c.deref.result.now ≡ canonical c.args.lits.now = c.deref.ensures.value ∙ (rw c.in-Ok-Some.field-0-is at c.in-Ok-Some.ensures.list) in record {
      kept = c.requires;
      canonical = ap is_canonical is ∙ canonical-is c.args.lits.now;
      no_tautology = ap is_tautology is ∙ sym (rw c.in-Ok-Some.field-0-is at c.in-Ok-Some.ensures.tautology);
    }

pub returns-in-Ok-Some : goal.returns-in-Ok-Some
returns-in-Ok-Some g c =
    let is : c.deref.result.now ≡ canonical c.args.lits.now = c.deref.ensures.value ∙ (rw c.in-Ok-Some.field-0-is at c.in-Ok-Some.ensures.list) in let a = c.at_canonical-taken.ensures in
    record { step = a.step c.args.lits.now is; kept = a.kept; delivered = a.delivered c.args.lits.now is }

pub returns-in-Ok-None : goal.returns-in-Ok-None
returns-in-Ok-None g c =
    let s = context_state c.args.ctx.now in let t = at_clause c.args.redundant c.args.lits.now c.args.hashes.now in
    let refused = answers-refuse tautology (step s t) s s (at-tautology s c.args.redundant c.args.lits.now c.args.hashes.now (sym (rw c.in-Ok-None.field-0-is at c.in-Ok-None.ensures.tautology))) refl in
    record { step = refused; kept = c.requires; delivered = quiet-refusal g.P.ProofProcessor g.T.ProofTranscriptProcessor s t tautology _ refused.0 refl }
