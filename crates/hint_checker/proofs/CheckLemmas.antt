-- What a checker of hints says of a formula.
use Rattle.std.proofs.Common.{◌≡◌, ℕ, Bool, true, List, [], ◌∷◌, ◌++◌, Option, Some, ◌∙◌, subst}
use Rattle.sat_rules.specs.Clauses.{all_true}
use Rattle.sat_rules.specs.HintLines.{Follows, HintLine, Listed, after_line, listing}
use Rattle.sat_rules.proofs.HintLineFacts.{hints_refute}
use Rattle.hint_rules.specs.Accepted.{Accepts}
use Rattle.hint_rules.proofs.AcceptedFacts.{added_by_lines}
use Rattle.hint_checker.specs.Checked.{AcceptsAfter, IsRefusal}
use Rattle.hint_checker.specs.Given.{of_bytes}
use Rattle.hint_checker.specs.Streams.{IsTextRefusal}
use Rattle.hint_checker.specs.declared.fault.HintTextFault.{HintTextFault}
use Rattle.hint_checker.specs.declared.fault.HintTextFault.TheVariants.{Read, Refused}

-- ---- lists of lines

-- lines after lines
pub follows_join : (h k j : Listed) (xs ys : List HintLine) → Follows h xs k → Follows k ys j → Follows h (xs ++ ys) j
follows_join h k j [] ys f g = subst (λ x. Follows x ys j) f g
follows_join h k j (x ∷ xs) ys f g = (f.0, follows_join (after_line h x) k j xs ys f.1 g)

-- ---- what is said of a formula

-- the text's lines after a formula's clauses and earlier lines
pub accepts_after : (formula : List (List ℕ)) (before : List HintLine) (h : Listed) (bytes : List ℕ) (k : Listed) (o : Option Listed)
    (answer : Bool) → Follows (listing formula) before h → Accepts h bytes k →
    o ≡ Some k → answer ≡ k.added_empty → AcceptsAfter formula before bytes o answer
accepts_after formula before h bytes k o b f a e y =
    let follow = follows_join (listing formula) h k before a.lines f a.follow in
    record { lines = a.lines; said = a.said; leads_to = k; follow = follow; holds = e; answer = y ∙ added_by_lines (listing formula) (before ++ a.lines) k follow }

-- a yes
pub yes_refutes : (formula : List (List ℕ)) (before : List HintLine) (h : Listed) (bytes : List ℕ) (k : Listed) → Follows (listing formula) before h → Accepts h bytes k → k.added_empty ≡ true →
    (a : ℕ → Bool) → all_true a formula ≡ true → ⊥
yes_refutes formula before h bytes k f a y = hints_refute formula (before ++ a.lines) k (follows_join (listing formula) h k before a.lines f a.follow) y

-- ---- a text in memory

-- the fault of a reader that gives these bytes
pub refused_bytes : (h : Listed) (bytes : List ℕ) (fault : HintTextFault) → IsTextRefusal (Some bytes) h fault → IsRefusal h bytes (of_bytes fault)
refused_bytes h bytes (Refused fault) r = subst (λ text. IsRefusal h text fault) r.1 r.2
refused_bytes h bytes (Read cause) r = tt
