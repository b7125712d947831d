-- What one byte leads to.
use Rattle.std.proofs.Common.{◌≡◌, ℕ, List, [], ◌∷◌, refl}
use Rattle.session_text.specs.declared.fault.TextKind.TheVariants as kinds
use Rattle.session_text.specs.declared.spot.After.{After}
use Rattle.session_text.specs.declared.spot.After.TheVariants.{Ends, Gives, Goes, Stops}
use Rattle.session_text.specs.declared.spot.Spot.{Spot}
use Rattle.session_text.specs.Content.{Content, no_content, with_item}
use Rattle.session_text.specs.Outcomes.{Faulty, Line, Outcome, with_line}
use Rattle.session_text.specs.automaton.Places.{after, unended}
use Rattle.session_text.specs.automaton.Texts.{Off, On, Says, Step, outcome_at, taken}

-- where the reading goes on, or what follows a line
abbrev pub leads : (Content → Spot → Outcome) → (Line → Spot → Outcome) → Content → ℕ → After → Outcome
leads g e c line (Goes s) = g c s
leads g e c line (Gives item s) = g (with_item c item) s
leads g e c line (Ends kind s) = e (record { kind = kind; content = c }) s
leads g e c line (Stops kind) = ([], Faulty line kind)

abbrev pub on : List ℕ → Content → Spot → Outcome
on bytes c s = outcome_at c s bytes

abbrev pub on_line : List ℕ → Line → Spot → Outcome
on_line bytes l s = with_line l (outcome_at no_content s bytes)

abbrev goes_on : Step → List ℕ → Outcome
goes_on d bytes = elim d [
  | On more next ↦ outcome_at more next bytes
  | Says l next ↦ with_line l (outcome_at no_content next bytes)
  | Off line kind ↦ ([], Faulty line kind)
]

taken-leads : (c : Content) (line : ℕ) (a : After) (bytes : List ℕ) → goes_on (taken c line a) bytes ≡ leads (on bytes) (on_line bytes) c line a
taken-leads c line (Goes s) bytes = refl
taken-leads c line (Gives item s) bytes = refl
taken-leads c line (Ends kind s) bytes = refl
taken-leads c line (Stops kind) bytes = refl

pub byte_read : (c : Content) (s : Spot) (b : ℕ) (bytes : List ℕ) → outcome_at c s (b ∷ bytes) ≡ leads (on bytes) (on_line bytes) c s.line (after s b)
unfolding outcome_at
byte_read c s b bytes = taken-leads c s.line (after s b) bytes

-- the text ends there
abbrev pub unfinished : ℕ → Outcome
unfinished line = ([], Faulty line kinds.Unfinished)

pub unended-leads : (c : Content) (line : ℕ) (a : After) → ([], Faulty line (unended a)) ≡ leads (λ c s. unfinished line) (λ l s. unfinished line) c line a
unended-leads c line (Goes s) = refl
unended-leads c line (Gives item s) = refl
unended-leads c line (Ends kind s) = refl
unended-leads c line (Stops kind) = refl
