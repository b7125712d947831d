-- A text that is accepted leads to one listing, and is never rejected.
use Rattle.std.proofs.Common.{◌≡◌, ℕ, List, [], ◌∷◌, ◌++◌, Option, Some, None, refl, sym, ap, ◌∙◌, subst}
use Rattle.std.specs.Option.{option_map}
use Rattle.std.proofs.lemmas.Option.{none-some}
use Rattle.sat_rules.specs.HintLines.{Follows, HintLine, Listed, after_line}
use Rattle.sat_rules.proofs.HintLineFacts.{some-same}
use Rattle.hint_rules.specs.Accepted.{Accepts, joined, said_all}
use Rattle.hint_checker.specs.Checked.{IsRefusal, Refuses, cause_of, refusal}
use Rattle.hint_checker.specs.OneAnswer.{AnswerIsOne}
use Rattle.hint_rules.specs.Text as text
use Rattle.hint_rules.specs.Text.{Said, in_front, said_by}
use Rattle.hint_checker.specs.declared.fault.HintFault.{HintFault}
use Rattle.hint_checker.specs.declared.fault.HintFault.TheVariants as faults
use Rattle.hint_checker.specs.declared.fault.LineFault.{LineFault}

-- lines lead to one listing
follows_one : (h j k : Listed) (xs : List HintLine) → Follows h xs j → Follows h xs k → j ≡ k
follows_one h j k [] f g = f ∙ sym g
follows_one h j k (x ∷ xs) f g = follows_one (after_line h x) j k xs f.1 g.1

-- what is said of a list is said of the part after its first element
front_said : (x : HintLine) (o : Option (List HintLine)) (xs : List HintLine) → in_front x o ≡ Some xs → (ys : List HintLine) × (o ≡ Some ys) × (x ∷ ys ≡ xs)
front_said x None xs e = absurd (none-some xs e)
front_said x (Some ys) xs e = (ys, refl, some-same (x ∷ ys) xs e)

-- a line that is rejected is not accepted with lines after it
line_stays : (held k : Listed) (said : Said) (rest : Option (List HintLine)) (xs : List HintLine) (fault : LineFault) →
    joined said rest ≡ Some xs → Follows held xs k → refusal held said ≡ Some fault → ⊥
line_stays held k text.Nothing rest xs fault e f r = none-some fault r
line_stays held k (text.Line x) rest xs fault e f r =
    let front = front_said x rest xs e in
    let follow : Follows held (x ∷ front.0) k = subst (λ ys. Follows held ys k) (sym front.2) f in
    none-some fault (ap (option_map cause_of) (sym follow.0) ∙ r)
line_stays held k text.Malformed rest xs fault e f r = none-some xs e

-- a line that is rejected after lines that are accepted
lines_stay : (before after : List (List ℕ)) (line : List ℕ) (h held k : Listed) (lines xs : List HintLine) (fault : LineFault) →
    said_all before ≡ Some lines → Follows h lines held → said_all (before ++ line ∷ after) ≡ Some xs → Follows h xs k → refusal held (said_by line) ≡ Some fault → ⊥
lines_stay [] after line h held k lines xs fault e f d g r =
    let same : held ≡ h = subst (λ ys. Follows h ys held) (sym (some-same [] lines e)) f in
    line_stays h k (said_by line) (said_all after) xs fault d g (subst (λ x. refusal x (said_by line) ≡ Some fault) same r)
lines_stay (m ∷ before) after line h held k lines xs fault e f d g r = go (lines_stay before after line) (said_by m) e d
  where
    Rest : Type 0
    Rest = (h held k : Listed) (lines xs : List HintLine) (fault : LineFault) →
        said_all before ≡ Some lines → Follows h lines held → said_all (before ++ line ∷ after) ≡ Some xs → Follows h xs k → refusal held (said_by line) ≡ Some fault → ⊥

    go : Rest → (s : Said) → joined s (said_all before) ≡ Some lines → joined s (said_all (before ++ line ∷ after)) ≡ Some xs → ⊥
    go rest text.Nothing p q = rest h held k lines xs fault p f q g r
    go rest (text.Line x) p q =
        let these = front_said x (said_all before) lines p in
        let all = front_said x (said_all (before ++ line ∷ after)) xs q in
        let follow : Follows h (x ∷ these.0) held = subst (λ ys. Follows h ys held) (sym these.2) f in
        let others : Follows h (x ∷ all.0) k = subst (λ ys. Follows h ys k) (sym all.2) g in
        rest (after_line h x) held k these.0 all.0 fault these.1 follow.1 all.1 others.1 r
    go rest text.Malformed p q = none-some lines p

never_refused : (h k : Listed) (bytes : List ℕ) (n : ℕ) (fault : LineFault) → Accepts h bytes k → Refuses h bytes n fault → ⊥
never_refused h k bytes n fault a r =
    lines_stay r.before r.after r.line h r.held k r.lines a.lines fault r.said r.follow (ap said_all (sym r.cut) ∙ a.said) a.follow r.refused

one_answer : (h j k : Listed) (bytes : List ℕ) → Accepts h bytes j → Accepts h bytes k → j ≡ k
one_answer h j k bytes a b = follows_one h j k b.lines (subst (λ xs. Follows h xs j) (some-same a.lines b.lines (sym a.said ∙ b.said)) a.follow) b.follow

pub answer_is_one : AnswerIsOne
answer_is_one h k bytes a = record { one = λ j b. one_answer h j k bytes b a; never = never }
  where
    never : (fault : HintFault) → IsRefusal h bytes fault → fault ≡ faults.OutOfMemory
    never faults.OutOfMemory r = refl
    never _ r = absurd (never_refused h k bytes _ _ a r)
