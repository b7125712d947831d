use Rattle.std.proofs.lemmas.Grind.{common_steps}
use Rattle.std.proofs.Common.{◌≡◌, ℕ, List, [], ◌++◌, eqb, sym, ap, ◌∙◌, subst, arith}
use Rattle.std.specs.List.Retain.{DiffersFromLast, IsFiltered}
use Rattle.std.specs.List.Sorted.{IsPermutation, IsSorted}
use Rattle.std.specs.Ordering.{nat_cmp}
use Rattle.std.proofs.lemmas.List.Filters.{dedup_is}
use Rattle.sat_rules.specs.Clauses.{is_canonical, is_tautology}
use Rattle.checker_rules.specs.Canonical.{canonical}
use Rattle.checker_rules.proofs.Entries.{canonical-is}
use Rattle.checker_parts.proofs.Rising.{rising_canonical, rising_is, rising_sound}
use Rattle.checker_parts.proofs.CanonicalLists.{sorted-canonical}
use Rattle.checker_parts.proofs.sorted_lits.copy_canonical.Goals as goal

-- what the clearing, the copy, the sort and the removal of repeats leave
left : (src cleared copied sorted kept : List ℕ) → cleared ≡ [] → copied ≡ cleared ++ src → IsPermutation copied sorted →
    IsSorted nat_cmp sorted → IsFiltered (DiffersFromLast eqb) [] sorted kept → kept ≡ canonical src
left src cleared copied sorted kept none more moved rise filtered =
    dedup_is eqb sorted kept filtered
    ∙ sorted-canonical src sorted (subst (λ (items : List ℕ). IsPermutation items sorted) (more ∙ ap (λ (items : List ℕ). items ++ src) none) moved) rise

pub returns-clause-items : goal.returns-clause-items
returns-clause-items c = left _ _ _ _ _ c.clear.ensures.items c.in_ok-extend_from_slice.ensures.items c.sort_unstable.ensures.permutation c.sort_unstable.ensures.sorted c.dedup.ensures.filtered

pub returns-clause-canonical : goal.returns-clause-canonical
returns-clause-canonical c =
    ap is_canonical (left _ _ _ _ _ c.clear.ensures.items c.in_ok-extend_from_slice.ensures.items c.sort_unstable.ensures.permutation c.sort_unstable.ensures.sorted c.dedup.ensures.filtered)
    ∙ canonical-is c.args.src.now

pub has_opposites-requires : goal.has_opposites-requires
has_opposites-requires c =
    let kept = left _ _ _ _ _ c.clear.ensures.items c.in_ok-extend_from_slice.ensures.items c.sort_unstable.ensures.permutation c.sort_unstable.ensures.sorted c.dedup.ensures.filtered in
    ap is_canonical (c.as_slice.ensures.value ∙ kept) ∙ canonical-is c.args.src.now

pub returns-clause-tautology : goal.returns-clause-tautology
returns-clause-tautology c =
    let kept = left _ _ _ _ _ c.clear.ensures.items c.in_ok-extend_from_slice.ensures.items c.sort_unstable.ensures.permutation c.sort_unstable.ensures.sorted c.dedup.ensures.filtered in
    c.has_opposites.ensures ∙ ap is_tautology (c.as_slice.ensures.value ∙ kept)

-- where the variables rise, the copy is left
copied : (src cleared items : List ℕ) → cleared ≡ [] → items ≡ cleared ++ src → items ≡ src
copied src cleared items none more = more ∙ ap (λ (front : List ℕ). front ++ src) none

pub returns-then-has_rising_vars-clause-items : goal.returns-then-has_rising_vars-clause-items
returns-then-has_rising_vars-clause-items c = grind (arith, common_steps, copied, rising_is)

pub returns-then-has_rising_vars-clause-canonical : goal.returns-then-has_rising_vars-clause-canonical
returns-then-has_rising_vars-clause-canonical c = grind (arith, common_steps, copied, rising_canonical)

pub returns-then-has_rising_vars-clause-tautology : goal.returns-then-has_rising_vars-clause-tautology
returns-then-has_rising_vars-clause-tautology c = rising_sound c.args.src.now (sym c.has_rising_vars.ensures ∙ c.if-has_rising_vars.true)
