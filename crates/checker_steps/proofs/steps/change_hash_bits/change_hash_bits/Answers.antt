use Rattle.std.proofs.Common.{◌≡◌, ◌⊎◌, ℕ, ◌<◌, Bool, true, false, cond, ◌||◌, eqb, ltb, [], inl, inr, refl, ap, ◌∙◌, arith}
use Rattle.checker_steps.proofs.Common.{nat_tests, apply_pending, accept, hash_bits, refuse, State, change_hash_bits, step, step-change_hash_bits}
use Rattle.checker_steps.proofs.Common.{answers-refuse, context_state}
use Rattle.checker_steps.proofs.EmissionLemmas.{kept-after, quiet-refusal, answers-accept, emits-accepted}
use Rattle.checker_steps.proofs.DeliveryLemmas.{whole-none}
use Rattle.checker_steps.proofs.steps.change_hash_bits.change_hash_bits.Goals as goal
use Rattle.checker_steps.proofs.steps.change_hash_bits.change_hash_bits.Goals.{then-bits-eq0-via-then-bits-eq0, then-bits-eq0-via-else-bits-eq0+then-bits-gt-BITS}

-- the widths that are rejected, and those that are taken
out_of_range : (n : ℕ) → (n ≡ 0) ⊎ (64 < n) → (eqb n 0 || ltb 64 n) ≡ true
out_of_range n h = grind (arith, nat_tests)

in_range : (n : ℕ) → (n ≡ 0 → ⊥) → (64 < n → ⊥) → (eqb n 0 || ltb 64 n) ≡ false
in_range n some fits = grind (arith, nat_tests)

bits-by : (s : State) (n : ℕ) (wrong : Bool) → (eqb n 0 || ltb 64 n) ≡ wrong →
    step s (change_hash_bits n) ≡ cond wrong (refuse hash_bits s) (accept (apply_pending (record s { width = n })))
bits-by s n wrong h = step-change_hash_bits s n ∙ ap (λ b. cond b (refuse hash_bits s) (accept (apply_pending (record s { width = n })))) h

pub returns-then-bits-eq0 : goal.returns-then-bits-eq0
returns-then-bits-eq0 g c =
    let wrong : (c.args.bits ≡ 0) ⊎ (64 < c.args.bits) =
    elim c.then-bits-eq0.branch [
      | then-bits-eq0-via-then-bits-eq0 w ↦ inl w.if-bits-eq0.true
      | then-bits-eq0-via-else-bits-eq0+then-bits-gt-BITS w ↦ inr w.if-bits-gt-BITS.true
    ] in
    let s = answers-refuse _ _ _ _ (bits-by (context_state c.args.ctx.now) _ true (out_of_range _ wrong)) refl in
    record { step = s; kept = c.requires; delivered = quiet-refusal g.P.ProofProcessor g.T.ProofTranscriptProcessor _ _ _ _ s.0 refl }

pub returns-in-Ok : goal.returns-in-Ok
returns-in-Ok g c =
    let fits = in_range c.args.bits c.if-bits-eq0.false (λ h. omega (arith, h, c.if-bits-gt-BITS.false)) in
    let s = answers-accept (bits-by (context_state c.args.ctx.now) _ false fits) (c.in-Ok.ensures.state c.args.ctx.now.checker_state c.args.ctx.now.variables) in
    record { step = s; kept = kept-after _ c.requires s.1 c.in-Ok.ensures.store; delivered = whole-none g.P.ProofProcessor g.T.ProofTranscriptProcessor _ _ (emits-accepted _ _ [] s.0 refl) }
