use Rattle.std.proofs.lemmas.Grind.{common_steps}
use Rattle.std.proofs.Common.{◌≡◌, ◌∙◌, ◌-◌, ◌++◌, ◌<◌, ℕ, false, length, replicate, refl, ap, arith, sym}
use Rattle.checker_rules.specs.KnownVars.{new_known}
use Rattle.checker_parts.specs.declared.variables.SamplingMode.TheVariants.{Sample}
use Rattle.checker_parts.proofs.Columns.{columns_grown, grown, known_by-grown, length_by_view}
use Rattle.checker_parts.proofs.variables.Variables.know.Goals as goal

pub invariant_of-self-in_err-resize-2 : goal.invariant_of-self-in_err-resize-2
invariant_of-self-in_err-resize-2 c = grind (arith, common_steps, length_by_view)

pub returns-in_err-resize-2-clause-err : goal.returns-in_err-resize-2-clause-err
returns-in_err-resize-2-clause-err c = grind (arith, common_steps, length_by_view)

pub invariant_of-self-in_err-resize-3 : goal.invariant_of-self-in_err-resize-3
invariant_of-self-in_err-resize-3 c = grind (arith, common_steps, length_by_view)

pub returns-in_err-resize-3-clause-err : goal.returns-in_err-resize-3-clause-err
returns-in_err-resize-3-clause-err c = grind (arith, common_steps, length_by_view)

below : (c : goal.In_ok-resize-3) → length c.self.inside.names.items < c.args.count
below c = omega (arith, c.if-len-count.true, c.len.ensures, length_by_view _ _ _ c.self.invariant.modes c.self.view_is)

abbrev more : goal.In_ok-resize-3 → ℕ
more c = c.args.count - length c.self.inside.names.items

names : (c : goal.In_ok-resize-3) → c.resize.new.self.items ≡ c.self.inside.names.items ++ replicate (more c) 4294967295
names c = grown _ _ _ _ _ _ _ refl c.reserve.ensures.items c.reserve.new.self.ok.0 c.in_ok-resize.ensures.items (below c)

modes : (c : goal.In_ok-resize-3) → c.resize-then-len-count.new.self.items ≡ c.self.inside.modes.items ++ replicate (more c) Sample
modes c = grown _ _ _ _ _ _ _ c.self.invariant.modes c.reserve-then-len-count.ensures.items c.reserve-then-len-count.new.self.ok.0 c.in_ok-resize-2.ensures.items (below c)

taken : (c : goal.In_ok-resize-3) → c.resize-then-len-count-2.new.self.items ≡ c.self.inside.taken.items ++ replicate (more c) false
taken c = grown _ _ _ _ _ _ _ c.self.invariant.taken c.reserve-then-len-count-2.ensures.items c.reserve-then-len-count-2.new.self.ok.0 c.in_ok-resize-3.ensures.items (below c)

pub invariant_of-self-in-Continue-branch-6 : goal.invariant_of-self-in-Continue-branch-6
invariant_of-self-in-Continue-branch-6 c = columns_grown _ _ _ _ _ _ 4294967295 (more c) refl c.self.invariant (names c) (modes c) (taken c)

pub returns-in_ok-resize-3-clause-ok : goal.returns-in_ok-resize-3-clause-ok
returns-in_ok-resize-3-clause-ok c =
    known_by-grown _ _ _ _ 4294967295 (more c) refl c.self.invariant.modes (names c) (modes c)
    ∙ ap (λ ks. ks ++ replicate (more c) new_known) c.self.view_is
    ∙ ap (λ n. c.args.self.now ++ replicate (c.args.count - n) new_known) (sym (length_by_view _ _ _ c.self.invariant.modes c.self.view_is))
