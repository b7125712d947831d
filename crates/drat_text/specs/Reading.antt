-- What the parts of reading a step answer. f is what all the bytes give from where the part began.
use Rattle.std.specs.Prelude.{◌≡◌, ℕ, Bool, true, false, List, [], ◌∷◌, Option, Some, None, Result, Ok, Err}
use Rattle.sat_formula.specs.declared.source.Source.{Source}
use Rattle.sat_formula.specs.Source.{IsStopped}
use Rattle.drat_text.specs.declared.bytes.Format.{Format}
use Rattle.drat_text.specs.declared.bytes.Format.TheVariants.{Text, Binary}
use Rattle.drat_text.specs.declared.fault.DratKind.{DratKind}
use Rattle.drat_text.specs.declared.fault.DratKind.TheVariants.{NumberTooLarge, Unfinished}
use Rattle.sat_formula.specs.declared.stop.Stop.{Stop}
use Rattle.sat_formula.specs.declared.stop.Stop.TheVariants as stops
use Rattle.drat_text.specs.declared.step.StepEnd.{StepEnd}
use Rattle.drat_text.specs.declared.text.TextNumber.{TextNumber}
use Rattle.drat_text.specs.Bytes.{is_space}
use Rattle.drat_text.specs.Codes.{Partial, TooLong, Whole, code_at}
use Rattle.drat_text.specs.Places.{Rules, Place, Outside, Within, After, Goes, Gives, Stops, coded, last_said}
use Rattle.drat_text.specs.Proofs.{outcome_at}
use Rattle.drat_text.specs.Steps.{Outcome, Ended, Faulty, with_step}
use Rattle.drat_text.specs.Taking.{Leads, EndsAll, Stopped}

-- ---- what a grammar does

-- a step was begun by a letter, or the byte is none
abbrev pub Begins : {S : Type 0} → S → Option S → Bool → Type 0
Begins slot letter true = letter ≡ Some slot
Begins slot letter false = letter ≡ None

-- what a number does was done: the step has ended, or this was read of it
abbrev pub TakesNumber : {S T F : Type 0} → (F → T) → S → After S T → Result (Option F) (Stop DratKind) →
    Type 0
TakesNumber step slot a (Ok (Some found)) = a ≡ Gives (step found)
TakesNumber step slot a (Ok None) = a ≡ Goes (Within slot)
TakesNumber step slot a (Err stops.End) = ⊥
TakesNumber step slot a (Err stops.Read) = ⊥
TakesNumber step slot a (Err (stops.Wrong kind)) = a ≡ Stops kind
TakesNumber step slot a (Err stops.OutOfMemory) = Unit {0}

-- ---- what was read

-- a binary number was begun and not read to its end
pub record BreaksCode (last : ℕ) (old new : Option (List ℕ)) : Type 0 where
  pub value : ℕ
  pub weight : ℕ
  pub leads : Leads old new (code_at last 0 1) (code_at last value weight)

-- it has too many bytes, or the input ended within it
pub data FailsCode (last : ℕ) (old new : Option (List ℕ)) : DratKind → Type 0 where
  too_long : Leads old new (code_at last 0 1) (λ more. (TooLong, more)) →
      FailsCode last old new NumberTooLarge
  cut_off : (v weight : ℕ) → EndsAll old new (code_at last 0 1) (Partial v weight, []) →
      FailsCode last old new Unfinished

-- it was read, of bytes up to one of this weight
abbrev pub TakesCode : {R : Type 0} → ℕ → Option (List ℕ) → Option (List ℕ) → Source R →
    Result ℕ (Stop DratKind) → Type 0
TakesCode last old new source (Ok n) = Leads old new (code_at last 0 1) (λ more. (Whole n, more))
TakesCode last old new source (Err stops.End) = ⊥
TakesCode last old new source (Err stops.Read) = BreaksCode last old new × IsStopped source
TakesCode last old new source (Err (stops.Wrong kind)) = FailsCode last old new kind
TakesCode last old new source (Err stops.OutOfMemory) = Unit {0}

-- a byte that begins a step of text: no blank, and no comment's first one
pub record IsFirst {S T : Type 0} (r : Rules S T) (byte : ℕ) : Type 0 where
  pub space : is_space byte ≡ false
  pub comment : r.begins_comment byte ≡ false

module _ {S T : Type 0} (r : Rules S T) where
  -- what a byte did, and the bytes after it
  abbrev pub goes_on : Format → After S T → List ℕ → Outcome T
  goes_on format d more = elim d [
    | Goes p ↦ outcome_at r format p more
    | Gives step ↦ with_step step (outcome_at r format Outside more)
    | Stops kind ↦ ([], Faulty kind)
  ]

  -- a step was given: before a byte, or where the input ended
  abbrev pub GivesStep : Format → Option (List ℕ) → Option (List ℕ) → (List ℕ → Outcome T) → T →
      Bool → Type 0
  GivesStep format old new f step false =
      Leads old new f (λ more. with_step step (outcome_at r format Outside more))
  GivesStep format old new f step true = EndsAll old new f (step ∷ [], Ended)

  -- a comment was read
  abbrev pub ReadsTo : {R X : Type 0} → Place S → Option (List ℕ) → Option (List ℕ) →
      (List ℕ → Outcome T) → Source R → Result X (Stop DratKind) → Type 0
  ReadsTo p old new f source (Ok x) = Leads old new f (outcome_at r Text p)
  ReadsTo p old new f source (Err stop) = Stopped r Text old new f source stop

  -- the first byte of a step of text, which comes before the rest
  abbrev pub ReadsFirst : {R : Type 0} → Option (List ℕ) → Option (List ℕ) →
      (List ℕ → Outcome T) → Source R → Result ℕ (Stop DratKind) → Type 0
  ReadsFirst old new f source (Ok byte) =
      Leads old new f (λ more. outcome_at r Text Outside (byte ∷ more))
  ReadsFirst old new f source (Err stop) = Stopped r Text old new f source stop

  -- digits were read, and what they say has this effect: before a byte, or where the input ended
  abbrev pub Says : After S T → Bool → Option (List ℕ) → Option (List ℕ) →
      (List ℕ → Outcome T) → Type 0
  Says a false old new f = Leads old new f (goes_on Text a)
  Says a true old new f = EndsAll old new f (last_said a)

  -- a number of a text was read
  abbrev pub ReadsNumber : {R : Type 0} → S → Option (List ℕ) → Option (List ℕ) →
      (List ℕ → Outcome T) → Source R → Result TextNumber (Stop DratKind) → Type 0
  ReadsNumber slot old new f source (Ok n) =
      Says (r.said slot n.negative n.value) n.last old new f
  ReadsNumber slot old new f source (Err stop) = Stopped r Text old new f source stop

  -- a binary number was read
  abbrev pub ReadsCode : {R : Type 0} → S → Option (List ℕ) → Option (List ℕ) →
      (List ℕ → Outcome T) → Source R → Result ℕ (Stop DratKind) → Type 0
  ReadsCode slot old new f source (Ok n) = Leads old new f (goes_on Binary (coded r slot n))
  ReadsCode slot old new f source (Err stop) = Stopped r Binary old new f source stop

  -- a step was read, which is seen so
  abbrev pub ReadsStep : {R F : Type 0} → Format → (F → T) → Option (List ℕ) →
      Option (List ℕ) → (List ℕ → Outcome T) → Source R → Result (StepEnd F) (Stop DratKind) → Type 0
  ReadsStep format step old new f source (Ok e) =
      GivesStep format old new f (step e.found) e.last
  ReadsStep format step old new f source (Err stop) = Stopped r format old new f source stop
