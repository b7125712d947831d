-- The first bytes of a proof.
use Rattle.std.proofs.Common.{◌≡◌, ℕ, suc, ◌≤◌, Bool, true, false, List, [], ◌∷◌, ◌++◌, length, take, Option, Some, None, Result, Ok, Err, ◌⊎◌, inl, inr, refl, sym, ap, ◌∙◌, append-nil, arith}
use Rattle.std.specs.Prelude.{IfSome, not, ◌&&◌, ◌||◌, ◌==◌, if◌then◌else◌}
use Rattle.std.specs.List.{list_all}
use Rattle.std.proofs.lemmas.List.{take-append-le}
use Rattle.std.specs.Io.KnownBytes.{IsAtEnd, Keeps, ReadConsumes, prepend_known}
use Rattle.drat_text.specs.Bytes.{is_text_byte}
use Rattle.lrat_binary.specs.First.{SeesFirst}
use Rattle.lrat_binary.specs.Telling.{begins_as_binary, form_by, form_of, ids_by, is_binary}
use Rattle.lrat_binary.specs.declared.ids.Ids.{Ids}
use Rattle.lrat_binary.specs.declared.ids.LratForm.{LratForm}
use Rattle.lrat_binary.specs.declared.ids.LratForm.TheVariants.{Text, Binary}

-- ---- the form is detected from what is seen

or_false : (x y z : Bool) → (x || y) ≡ false → (x || (y && z)) ≡ false
or_false x y z e = grind arith

-- where no binary line begins with the first byte it is text
text_first : (n : ℕ) (b : ℕ) (bs : List ℕ) → begins_as_binary (b ∷ bs) ≡ false → is_binary (take (suc n) (b ∷ bs)) ≡ false
text_first n b bs e = or_false (b == 97) (b == 100) (not (list_all is_text_byte (b ∷ take n bs))) e

text_told : (ids : Option Ids) (n : ℕ) (b : ℕ) (bs : List ℕ) → begins_as_binary (b ∷ bs) ≡ false → form_of ids n (b ∷ bs) ≡ Text
text_told ids n b bs e = ap (λ (is : Bool). if is then Binary (ids_by ids n (take 4096 (b ∷ bs))) else Text) (text_first 4095 b bs e)

first_alike : (seen rest : List ℕ) → (4096 ≤ length seen) ⊎ (rest ≡ []) → take 4096 seen ≡ take 4096 (seen ++ rest)
first_alike seen rest (inl le) = sym (take-append-le 4096 seen rest le)
first_alike seen rest (inr e) = ap (λ (l : List ℕ). take 4096 l) (sym (ap (λ (r : List ℕ). seen ++ r) e ∙ append-nil seen))

told_so : (ids : Option Ids) (n : ℕ) (seen rest : List ℕ) → SeesFirst seen (Some rest) → (is : Bool) → begins_as_binary seen ≡ is → form_of ids n seen ≡ form_of ids n (seen ++ rest)
told_so ids n seen rest s true is = ap (λ (first : List ℕ). form_by ids n first) (first_alike seen rest (s.more is))
told_so ids n [] rest s false is = let none : rest ≡ [] = grind (arith, s.one) in ap (λ (l : List ℕ). form_of ids n l) (sym none)
told_so ids n (b ∷ bs) rest s false is = text_told ids n b bs is ∙ sym (text_told ids n b (bs ++ rest) is)

form_told : (ids : Option Ids) (n : ℕ) (known left : Option (List ℕ)) (seen : List ℕ) → Keeps (prepend_known [] known) (prepend_known seen left) → SeesFirst seen left →
    IfSome known (λ bytes. form_of ids n seen ≡ form_of ids n bytes)
form_told ids n None left seen k s = tt
form_told ids n (Some bytes) None seen k s = absurd k
form_told ids n (Some bytes) (Some rest) seen k s = told_so ids n seen rest s (begins_as_binary seen) refl ∙ ap (λ (l : List ℕ). form_of ids n l) k

-- so is the form in which a proof is read
pub form_is : (ids : Option Ids) (n : ℕ) (known left : Option (List ℕ)) (seen start : List ℕ) (f g : LratForm) → f ≡ g → g ≡ form_of ids n seen → start ≡ [] →
    Keeps (prepend_known start known) (prepend_known seen left) → SeesFirst seen left → IfSome known (λ bytes. f ≡ form_of ids n bytes)
form_is ids n known left seen start f g e is none k s = by known (form_told ids n known left seen (rw none at k) s)
  where
    by : (o : Option (List ℕ)) → IfSome o (λ bytes. form_of ids n seen ≡ form_of ids n bytes) → IfSome o (λ bytes. f ≡ form_of ids n bytes)
    by None h = tt
    by (Some bytes) h = e ∙ is ∙ h

-- after those that come first
pub read_behind : {E : Type 0} (front : List ℕ) (a b : Option (List ℕ)) (r : Result ℕ E) (buf : List ℕ) → front ≡ [] → ReadConsumes a b r buf → ReadConsumes (prepend_known front a) (prepend_known front b) r buf
read_behind front None b (Ok n) buf e p = rw e (tt, λ zero some. at_end b (p.1 zero some))
  where
    at_end : (k : Option (List ℕ)) → IsAtEnd k → IsAtEnd (prepend_known [] k)
    at_end None q = tt
    at_end (Some ys) q = q
read_behind front (Some xs) None (Ok n) buf e p = absurd p.0
read_behind front (Some xs) (Some ys) (Ok n) buf e p = rw e p
read_behind front None b (Err x) buf e p = tt
read_behind front (Some xs) None (Err x) buf e p = absurd p
read_behind front (Some xs) (Some ys) (Err x) buf e p = rw e p
