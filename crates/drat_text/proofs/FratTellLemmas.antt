-- The bytes before the first step.
use Rattle.std.proofs.Common.{◌≡◌, ℕ, ◌+◌, ◌≤◌, ◌<◌, List, [], ◌∷◌, None, Some, IfSome, Bool, false, refl, sym, ap, ◌∙◌, take, drop, length, arith}
use Rattle.std.specs.Prelude.{slice_get}
use Rattle.std.proofs.lemmas.List.{length-take, get_or-take, drop_all, drop_more}
use Rattle.std.proofs.lemmas.Option.{slice_get_within, get_or_from_slice_get}
use Rattle.drat_text.proofs.FrontLemmas.{ends_before}
use Rattle.drat_text.specs.declared.frat_telling.Sight.{Sight}
use Rattle.drat_text.specs.declared.frat_telling.Sight.TheVariants.{Later, Told}
use Rattle.drat_text.specs.FratBytes.{is_frat, seen_at, told_by}
use Rattle.drat_text.proofs.FrontLemmas.{Known}

-- the bytes from a place on show what all show
abbrev pub Remains : Known → ℕ → Bool → Type 0
Remains a place in_comment = IfSome a (λ bytes. is_frat bytes ≡ told_by in_comment (drop place (take 4096 bytes)))

pub all_remains : (a : Known) → Remains a 0 false
all_remains None = tt
all_remains (Some bytes) = refl

told_after : Sight → List ℕ → Bool
told_after sight rest = elim sight [
  | Later next ↦ told_by next rest
  | Told answer ↦ answer
]

told_next : (in_comment : Bool) (x : ℕ) (rest : List ℕ) → told_by in_comment (x ∷ rest) ≡ told_after (seen_at in_comment x) rest
unfolding told_by told_after
told_next in_comment x rest = refl

told_none : (in_comment : Bool) → told_by in_comment [] ≡ false
unfolding told_by
told_none in_comment = refl

-- a byte of those that are looked at
byte_there : (bytes : List ℕ) (place x : ℕ) → place < 4096 → slice_get bytes place ≡ Some x → drop place (take 4096 bytes) ≡ x ∷ drop (place + 1) (take 4096 bytes)
byte_there bytes place x lt at =
    let within : place < length bytes = slice_get_within bytes place x at in
    drop_more (take 4096 bytes) place x (omega (arith, length-take 4096 bytes, within, lt))
    ∙ ap (λ (y : ℕ). y ∷ drop (place + 1) (take 4096 bytes)) (get_or-take 4096 bytes place x lt ∙ get_or_from_slice_get bytes place x x at)

told_from : (bytes : List ℕ) (place x : ℕ) (in_comment : Bool) (sight : Sight) → place < 4096 → slice_get bytes place ≡ Some x → sight ≡ seen_at in_comment x →
    told_by in_comment (drop place (take 4096 bytes)) ≡ told_after sight (drop (place + 1) (take 4096 bytes))
told_from bytes place x in_comment sight lt at e =
    ap (told_by in_comment) (byte_there bytes place x lt at)
    ∙ told_next in_comment x (drop (place + 1) (take 4096 bytes))
    ∙ ap (λ (s : Sight). told_after s (drop (place + 1) (take 4096 bytes))) (sym e)

pub seen_later : (a : Known) (place x : ℕ) (in_comment next : Bool) → place < 4096 → Remains a place in_comment → IfSome a (λ bytes. slice_get bytes place ≡ Some x) →
    Later next ≡ seen_at in_comment x → Remains a (place + 1) next
unfolding told_after
seen_later None place x in_comment next lt r at e = tt
seen_later (Some bytes) place x in_comment next lt r at e = r ∙ told_from bytes place x in_comment (Later next) lt at e

pub seen_told : (a : Known) (place x : ℕ) (in_comment answer : Bool) → place < 4096 → Remains a place in_comment → IfSome a (λ bytes. slice_get bytes place ≡ Some x) →
    Told answer ≡ seen_at in_comment x → IfSome a (λ bytes. answer ≡ is_frat bytes)
unfolding told_after
seen_told None place x in_comment answer lt r at e = tt
seen_told (Some bytes) place x in_comment answer lt r at e = sym (r ∙ told_from bytes place x in_comment (Told answer) lt at e)

pub seen_end : (a : Known) (place : ℕ) (in_comment : Bool) → Remains a place in_comment → IfSome a (λ bytes. slice_get bytes place ≡ None) → IfSome a (λ bytes. false ≡ is_frat bytes)
seen_end None place in_comment r at = tt
seen_end (Some bytes) place in_comment r at =
    let short : length bytes ≤ place = ends_before bytes place at in
    sym (r ∙ ap (told_by in_comment) (drop_all place (take 4096 bytes) (omega (arith, length-take 4096 bytes, short))) ∙ told_none in_comment)

pub seen_all : (a : Known) (place : ℕ) (in_comment : Bool) → 4096 ≤ place → Remains a place in_comment → IfSome a (λ bytes. false ≡ is_frat bytes)
seen_all None place in_comment le r = tt
seen_all (Some bytes) place in_comment le r =
    sym (r ∙ ap (told_by in_comment) (drop_all place (take 4096 bytes) (omega (arith, length-take 4096 bytes, le))) ∙ told_none in_comment)
