-- The last line of a run.
use Rattle.std.proofs.Common.{◌≡◌, ℕ, Bool, false, List, [], ◌++◌, codes, decimal, if◌then◌else◌, ◌≤◌, nat_lt, sym, ap, ◌∙◌, arith, append_assoc}
use Rattle.std.proofs.lemmas.Bool.Decides.{nat_tests}
use Rattle.session_check.specs.Counts.{count_text, last_line}
use Rattle.session_check.specs.declared.counts.Counts.{Counts}

-- a number and words, behind others
counted_on : (xs ys zs words : List ℕ) (n : ℕ) → zs ≡ ys ++ decimal n ++ words → ys ≡ xs → zs ≡ xs ++ count_text n words
counted_on xs ys zs words n at_z at_y = at_z ∙ append_assoc ys (decimal n) words ∙ ap (λ (x : List ℕ). x ++ count_text n words) at_y

-- the words and numbers of a run whose answers are shown, one after the other
pub last_line_shown : (c : Counts) (a b d e f : List ℕ) → c.unshown ≤ 0 → a ≡ [] → b ≡ a ++ codes "all answers are shown: " → d ≡ b ++ decimal c.satisfiable ++ codes " satisfiable, "
    → e ≡ d ++ decimal c.unsatisfiable ++ codes " unsatisfiable, " → f ≡ e ++ decimal c.unknown ++ codes " unknown\n" → f ≡ last_line c
last_line_shown c a b d e f none at_a at_b at_d at_e at_f =
    let shown : nat_lt 0 c.unshown ≡ false = grind (arith, nat_tests, none) in
    let words : b ≡ codes "all answers are shown: " = at_b ∙ ap (λ (x : List ℕ). x ++ codes "all answers are shown: ") at_a in
    let first = counted_on _ b d (codes " satisfiable, ") c.satisfiable at_d words in
    let second = counted_on _ d e (codes " unsatisfiable, ") c.unsatisfiable at_e first in
    counted_on _ e f (codes " unknown\n") c.unknown at_f second
    ∙ sym (ap (λ (t : Bool). if t
    then count_text c.unshown (codes " of ") ++ count_text c.queries (codes " answers are not shown\n")
    else ((codes "all answers are shown: " ++ count_text c.satisfiable (codes " satisfiable, ")) ++ count_text c.unsatisfiable (codes " unsatisfiable, "))
    ++ count_text c.unknown (codes " unknown\n")) shown)
