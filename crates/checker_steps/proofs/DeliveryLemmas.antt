-- What a call delivers on, put together from the steps that it delivers on.
use Rattle.std.proofs.Common.{arith, ◌≡◌, List, [], ◌∷◌, ◌++◌, Some, Result, OnOk, IfErr, sym, subst, append_assoc, Ok, Err}
use Rattle.checker_steps.proofs.Common.{NamedStep, TranscriptStep, image, both_ran_append, both_ran_line, both_ran_nil, IsFaultOrMemory, StepFault}
use Rattle.checker_steps.proofs.Common.{Listeners, Listens, ListensImage, DeliveredList, DeliveredStep}
use Rattle.checker_steps.proofs.Common.{DeliveredBeginning, DeliveredWhole, RanOver, Refused, Processor, OutOfMemory}
use Rattle.checker_rules.specs.Ran.{AllTook, OneFaulted}

-- the image is delivered to the transcripts, after every processor took the step
pub delivers-image : {P T : Type 0} (listens : Listens P) (listens_image : ListensImage T)
    (e : NamedStep) (t : TranscriptStep) (old new : Listeners P T) → AllTook listens.took old.processors e new.processors → image e ≡ Some t →
    (r : Result Unit StepFault) → OnOk r (AllTook listens_image.took old.transcripts t new.transcripts) →
    IfErr r (λ x. IsFaultOrMemory x (OneFaulted listens_image.took listens_image.faulted old.transcripts t new.transcripts) ⊥) →
    DeliveredStep r e listens listens_image old new
delivers-image listens listens_image e t old new a i r ok err =
    grind (arith, i, ok, err, both_ran_line listens.took listens_image.took e t old.processors new.processors old.transcripts new.transcripts a i)

pub fault-weaker : {P Q : Type 0} (R : Type 0) → (P → Q) → (e : StepFault) → IsFaultOrMemory e P R → IsFaultOrMemory e Q R
fault-weaker R f e h = grind (arith, f, h)

module _ {P T : Type 0} (listens : Listens P) (listens_image : ListensImage T) where
  -- nothing is delivered on
  pub ran-none : (old : Listeners P T) → RanOver listens listens_image [] old old
  ran-none old = both_ran_nil listens.took listens_image.took old.processors old.transcripts

  pub ran-append : (es fs : List NamedStep) (x y z : Listeners P T) → RanOver listens listens_image es x y → RanOver listens listens_image fs y z → RanOver listens listens_image (es ++ fs) x z
  ran-append es fs x y z a b = both_ran_append listens.took listens_image.took es fs x.processors y.processors z.processors x.transcripts y.transcripts z.transcripts a b

  pub whole-none : (E : List NamedStep → Type 0) (old : Listeners P T) → E [] → DeliveredWhole E listens listens_image old old
  whole-none E old h = ([], h, ran-none old)

  -- one step that is the whole list
  pub delivered-one : {A : Type 0} (E : List NamedStep → Type 0) (e : NamedStep) (old new : Listeners P T) (r : Result A StepFault) →
      E (e ∷ []) → DeliveredStep r e listens listens_image old new →
      DeliveredList r E listens listens_image old new
  delivered-one E e old new r h a = grind (arith, h, a, ran-none old)

  -- a fault at the first of two parts
  pub beginning-first : (E F : List NamedStep → Type 0) (rest : List NamedStep) (old new : Listeners P T) →
      ((es : List NamedStep) → E es → F (es ++ rest)) → DeliveredBeginning E listens listens_image old new →
      DeliveredBeginning F listens listens_image old new
  beginning-first E F rest old new f a = (a.0, a.1, a.2 ++ rest, subst F (append_assoc a.0 (a.1 ∷ a.2) rest) (f (a.0 ++ a.1 ∷ a.2) a.3), a.4)

  -- the first part, and a fault at the second
  pub beginning-second : (E F : List NamedStep → Type 0) (first : List NamedStep) (old mid new : Listeners P T) →
      RanOver listens listens_image first old mid → ((es : List NamedStep) → E es → F (first ++ es)) →
      DeliveredBeginning E listens listens_image mid new →
      DeliveredBeginning F listens listens_image old new
  beginning-second E F first old mid new r f a =
      let b = a.4 in (
        first ++ a.0,
        a.1,
        a.2,
        subst F (sym (append_assoc first a.0 (a.1 ∷ a.2))) (f (a.0 ++ a.1 ∷ a.2) a.3),
        (b.0, b.1, both_ran_append listens.took listens_image.took first a.0 old.processors mid.processors b.0 old.transcripts mid.transcripts b.1 r b.2, b.3),
      )

  -- after a first part, a second one
  pub delivered-second : {A : Type 0} (E F : List NamedStep → Type 0) (first : List NamedStep) (old mid new : Listeners P T)
      (r : Result A StepFault) → RanOver listens listens_image first old mid → ((es : List NamedStep) → E es → F (first ++ es)) →
      DeliveredList r E listens listens_image mid new → DeliveredList r F listens listens_image old new
  delivered-second E F first old mid new (Ok done) a f h = (first ++ h.0, f h.0 h.1, ran-append first h.0 old mid new a h.2)
  delivered-second E F first old mid new (Err (Refused cause)) a f h = (first ++ h.0, f h.0 h.1, ran-append first h.0 old mid new a h.2)
  delivered-second E F first old mid new (Err Processor) a f h = beginning-second E F first old mid new a f h
  delivered-second E F first old mid new (Err OutOfMemory) a f h = tt

  -- the lists of another kind
  pub delivered-weaker : {A : Type 0} (E F : List NamedStep → Type 0) (old new : Listeners P T) (r : Result A StepFault) →
      ((es : List NamedStep) → E es → F es) → DeliveredList r E listens listens_image old new →
      DeliveredList r F listens listens_image old new
  delivered-weaker E F old new r f a = delivered-second E F [] old old new r (ran-none old) f a
