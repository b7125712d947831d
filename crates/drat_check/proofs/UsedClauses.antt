-- Clauses of a formula, taken in turn or left out.
use Rattle.std.proofs.Common.{◌≡◌, ℕ, Bool, true, false, List, [], ◌∷◌, ◌++◌, sym, ap, ◌∙◌, append_assoc, append-nil}
use Rattle.drat_check.specs.Outputs.{IsPartOf, flagged}

-- those taken so far, and any of those still to come
abbrev pub IsPartSoFar : List (List ℕ) → List (List ℕ) → List (List ℕ) → Type 0
IsPartSoFar used left formula = (flags : List Bool) → IsPartOf (used ++ flagged flags left) formula

pub none_taken : (formula left : List (List ℕ)) → left ≡ formula → IsPartSoFar [] left formula
none_taken formula left e = λ flags. (flags, ap (flagged flags) e)

pub one_taken : (used left rest formula : List (List ℕ)) (c : List ℕ) → left ≡ c ∷ rest → IsPartSoFar used left formula → IsPartSoFar (used ++ c ∷ []) rest formula
one_taken used left rest formula c steps p = λ flags.
    let more = p (true ∷ flags) in
    (more.0, append_assoc used (c ∷ []) (flagged flags rest) ∙ ap (λ cs. used ++ flagged (true ∷ flags) cs) (sym steps) ∙ more.1)

pub one_left : (used left rest formula : List (List ℕ)) (c : List ℕ) → left ≡ c ∷ rest → IsPartSoFar used left formula → IsPartSoFar used rest formula
one_left used left rest formula c steps p = λ flags.
    let more = p (false ∷ flags) in
    (more.0, ap (λ cs. used ++ flagged (false ∷ flags) cs) (sym steps) ∙ more.1)

pub all_seen : (used left formula : List (List ℕ)) → IsPartSoFar used left formula → IsPartOf used formula
all_seen used left formula p = let none = p [] in (none.0, sym (append-nil used) ∙ none.1)
