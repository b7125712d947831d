-- What the bytes ahead show of the format.
use Rattle.std.proofs.Common.{◌≡◌, ℕ, ◌+◌, ◌≤◌, ◌<◌, List, [], ◌∷◌, Option, None, Some, IfSome, false, Result, Ok, Err, refl, sym, ap, ◌∙◌, subst, length, take, arith}
use Rattle.std.specs.Prelude.{IsSome, slice_get, unwrap_or}
use Rattle.std.specs.List.{list_all}
use Rattle.std.proofs.lemmas.Option.{none-some, same_Some}
use Rattle.std.specs.Io.KnownBytes.{Keeps}
use Rattle.std.proofs.KnownBytes.{Keeps-refl, Keeps-trans}
use Rattle.sat_formula.specs.declared.source.Source.{Source}
use Rattle.drat_text.specs.declared.bytes.Bytes.{Bytes}
use Rattle.drat_text.specs.declared.bytes.Format.{Format}
use Rattle.drat_text.specs.declared.bytes.Format.TheVariants.{Text, Binary}
use Rattle.drat_text.specs.declared.fault.DratKind.{DratKind}
use Rattle.sat_formula.specs.declared.stop.Stop.{Stop}
use Rattle.sat_formula.specs.declared.stop.Stop.TheVariants as stops
use Rattle.drat_text.specs.Bytes.{is_text_byte, by_text_bytes}
use Rattle.drat_text.specs.Places.{Rules}
use Rattle.drat_text.specs.Proofs.{format_of}
use Rattle.drat_text.specs.Taking.{Looks, Peeks, front_of, room_in, source_of, unread_bytes}
use Rattle.drat_text.proofs.FrontLemmas.{Known, Passes}

-- what is known of the bytes that were kept
pub known_on : (a b : Known) (P : List ℕ → Type 0) → Keeps a b → IfSome b P → IfSome a P
known_on None b P k h = tt
known_on (Some xs) None P k h = absurd k
known_on (Some xs) (Some ys) P k h = subst P k h

-- ---- bytes that are looked at one after the other

module _ {R : Type 0} (remaining : R → Option (List ℕ)) where
  -- from old to new the bytes before this place were looked at, and none was taken
  pub record LooksOn (old new : Bytes R) (place : ℕ) : Type 0 where
    pub room : room_in new ≤ room_in old
    pub front : place ≤ length (front_of new)
    pub most : place ≤ 4096
    pub kept : Keeps (unread_bytes remaining old) (unread_bytes remaining new)

  pub looks_none : (b : Bytes R) → LooksOn b b 0
  looks_none b = record { room = omega arith; front = omega arith; most = omega arith; kept = Keeps-refl (unread_bytes remaining b) }

  module _ (old mid new : Bytes R) (place : ℕ) (byte here : Option ℕ) (on : LooksOn old mid place) (is : byte ≡ here)
      (peeks : Peeks (unread_bytes remaining mid) (unread_bytes remaining new) place (source_of new) (Ok byte)) where
    -- the byte that is looked at next is at its place in all the bytes
    pub looks_at : Peeks (unread_bytes remaining old) (unread_bytes remaining new) place (source_of new) (Ok here)
    looks_at =
        let p = rw is at peeks in (
          Keeps-trans (unread_bytes remaining old) (unread_bytes remaining mid) (unread_bytes remaining new) on.kept p.0,
          known_on (unread_bytes remaining old) (unread_bytes remaining mid) (λ (bytes : List ℕ). slice_get bytes place ≡ here) on.kept p.1,
        )

    pub looks_more : IsSome here → place < 4096 → (IsSome byte → place < length (front_of new)) → room_in new ≤ room_in mid → LooksOn old new (place + 1)
    looks_more some below front room =
        let stands : place < length (front_of new) = front (rw is some) in
        record { room = omega (arith, on.room, room); front = omega (arith, stands); most = omega (arith, below); kept = looks_at.0 }

-- ---- by the first 4,096 bytes

abbrev pub by_first_bytes : List ℕ → Format
by_first_bytes bytes = by_text_bytes (take 4096 bytes)

pub text_told : (a : Known) → Passes is_text_byte a 4096 → IfSome a (λ bytes. Text ≡ by_first_bytes bytes)
text_told None all = tt
text_told (Some bytes) all = rw all refl

pub binary_told : (a : Known) → IfSome a (λ bytes. list_all is_text_byte (take 4096 bytes) ≡ false) → IfSome a (λ bytes. Binary ≡ by_first_bytes bytes)
binary_told None fails = tt
binary_told (Some bytes) fails = rw fails refl

-- ---- by the first byte

module _ {S T : Type 0} (r : Rules S T) where
  -- no byte
  pub none_text : (a : Known) → IfSome a (λ bytes. slice_get bytes 0 ≡ None) → IfSome a (λ bytes. Text ≡ format_of r bytes)
  none_text None at = tt
  none_text (Some []) at = refl
  none_text (Some (b ∷ bs)) at = absurd (none-some b (sym at))

  by_first : (b x : ℕ) (bs : List ℕ) (told : Option Format) → Some b ≡ Some x → told ≡ r.first_tells x → unwrap_or told (by_first_bytes (b ∷ bs)) ≡ format_of r (b ∷ bs)
  by_first b x bs told at e = ap (λ (o : Option Format). unwrap_or o (by_first_bytes (b ∷ bs))) (e ∙ ap r.first_tells (sym (same_Some b x at)))

  pub first_told : (a : Known) (x : ℕ) (format : Format) → IfSome a (λ bytes. slice_get bytes 0 ≡ Some x) → Some format ≡ r.first_tells x → IfSome a (λ bytes. format ≡ format_of r bytes)
  first_told None x format at e = tt
  first_told (Some []) x format at e = absurd (none-some x at)
  first_told (Some (b ∷ bs)) x format at e = by_first b x bs (Some format) at e

  later_told : (a : Known) (x : ℕ) (format : Format) → IfSome a (λ bytes. slice_get bytes 0 ≡ Some x) → None ≡ r.first_tells x →
      IfSome a (λ bytes. format ≡ by_first_bytes bytes) → IfSome a (λ bytes. format ≡ format_of r bytes)
  later_told None x format at e t = tt
  later_told (Some []) x format at e t = absurd (none-some x at)
  later_told (Some (b ∷ bs)) x format at e t = t ∙ by_first b x bs None at e

  -- the bytes after the first are asked too
  pub looked_on : {R : Type 0} (a b c : Known) (x : ℕ) (source : Source R) (f : Result Format (Stop DratKind)) → Keeps a b → IfSome a (λ bytes. slice_get bytes 0 ≡ Some x) →
      None ≡ r.first_tells x → Looks by_first_bytes b c source f → Looks (format_of r) a c source f
  looked_on a b c x source (Ok format) k at e w =
      (Keeps-trans a b c k w.0, later_told a x format at e (known_on a b (λ (bytes : List ℕ). format ≡ by_first_bytes bytes) k w.1))
  looked_on a b c x source (Err stops.Read) k at e w = (Keeps-trans a b c k w.0, w.1)
  looked_on a b c x source (Err stops.OutOfMemory) k at e w = tt
  looked_on a b c x source (Err stop) k at e w = absurd w
