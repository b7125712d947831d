use Rattle.checker_steps.proofs.Common.{is_tautology, canonical, delete_clause, why, canonical_itself, CheckerState}
use Rattle.checker_steps.proofs.Common.{answers-refuse, kept-answer, context_state, delete_fault}
use Rattle.std.proofs.Common.{◌≡◌, ℕ, List, None, refl, sym, ap, ◌∙◌, Err}
use Rattle.checker_steps.proofs.EmissionLemmas.{quiet-refusal, answers-accept, answers-all, delivered-all, unless-stopped, emits-accepted}
use Rattle.checker_steps.proofs.DeleteStepLemmas.{answers-fault, delete-asked, delete-justified, emits-deleted, delivered-fault, unless-fault}
use Rattle.checker_steps.proofs.steps.delete_clause.delete_canonical.Goals as goal

pub returns-in-Err : goal.returns-in-Err
returns-in-Err g c =
    let ctx = c.args.ctx.now in let clause = c.args.clause.now in let j = why c.args.proof in
    let asked = λ (ls : List ℕ) (list : clause ≡ canonical ls). delete-asked (context_state ctx) j ls clause (sym (ap is_tautology list) ∙ c.requires.no_tautology) list in
    let s = λ (ls : List ℕ) (list : clause ≡ canonical ls). answers-refuse _ _ _ _ (asked ls list ∙ c.in-Err.ensures ctx.clause_hasher ctx.variables) refl in
    record { step = s; kept = c.requires.kept; delivered = λ ls list. quiet-refusal g.P.ProofProcessor g.T.ProofTranscriptProcessor _ _ _ _ (s ls list).0 refl }

pub returns-in-Ok-deleted : goal.returns-in-Ok-deleted
returns-in-Ok-deleted g c =
    let ctx = c.args.ctx.now in let s = context_state ctx in let j = why c.args.proof in let told = c.emit_deletion in let deleted = c.in-Ok-deleted in
    let clause = c.args.clause.now in let why = c.in-Ok.ensures ctx.clause_hasher ctx.variables in
    let asked = λ (ls : List ℕ) (list : clause ≡ canonical ls). delete-justified s j ls clause _ _ (sym (ap is_tautology list) ∙ c.requires.no_tautology) list why c.is_none-redundant.ensures in
    let st : CheckerState = record ctx.checker_state { previous_id = None } in let d = deleted.ensures.answer st ctx.variables in
    let a = λ (ls : List ℕ) (list : clause ≡ canonical ls). answers-accept ((asked ls list).0 ∙ d.after) refl in
    let answer = λ (ls : List ℕ) (list : clause ≡ canonical ls). answers-all g.P.ProofProcessor g.T.ProofTranscriptProcessor _ _ _ told.result _ _ told.ensures (a ls list) in record {
      step = answer;
      kept = kept-answer told.result _ _ _ _ _ _ _ _ (delete_clause j clause) c.requires.kept (answer clause (canonical_itself clause c.requires.canonical)) (unless-stopped told.result deleted.ensures.store);
      delivered = λ ls list. delivered-all g.P.ProofProcessor g.T.ProofTranscriptProcessor _ _ _ _ told.result
          (emits-accepted _ _ _ (a ls list).0 (emits-deleted _ s c.requires.kept.store.filed.apart c.requires.kept.store.filed.whole j ls _ _ _ _ _ list why.1 (asked ls list).1 d)) told.ensures;
    }

pub returns-in-Err-deleted : goal.returns-in-Err-deleted
returns-in-Err-deleted g c =
    let ctx = c.args.ctx.now in let clause = c.args.clause.now in let j = why c.args.proof in let fault = c.in-Err-deleted.fault in
    let asked = λ (ls : List ℕ) (list : clause ≡ canonical ls).
    delete-justified (context_state ctx) j ls clause _ _ (sym (ap is_tautology list) ∙ c.requires.no_tautology) list
    (c.in-Ok.ensures ctx.clause_hasher ctx.variables) c.is_none-redundant.ensures in
    let st : CheckerState = record ctx.checker_state { previous_id = None } in
    let s = λ (ls : List ℕ) (list : clause ≡ canonical ls). rw (← (asked ls list).0) at (answers-fault _ _ _ _ fault (c.in-Err-deleted.ensures.answer st ctx.variables)) in record {
      step = λ ls list. rw c.delete_fault.ensures (s ls list);
      kept = rw c.delete_fault.ensures (kept-answer {A = Unit {0}} (Err (delete_fault fault c.is_none-redundant.result)) _ _ _ _ _ _ _ _ (delete_clause j clause) c.requires.kept
          (s clause (canonical_itself clause c.requires.canonical)) (unless-fault _ fault c.is_none-redundant.result c.in-Err-deleted.ensures.store));
      delivered = λ ls list. rw c.delete_fault.ensures (delivered-fault g.P.ProofProcessor g.T.ProofTranscriptProcessor _ _ _ c.is_none-redundant.result _ refl fault (s ls list));
    }
