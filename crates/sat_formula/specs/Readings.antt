-- What was taken from a reader's bytes, and what it says of them, for readings with any outcome. f is what all the bytes give.
--     Leads old new f g      some bytes were taken, and whatever follows, f gives of all what g gives of the rest
--     EndsAll old new f o      all bytes were taken, and f gives o of them
--     Continues old new over f g      one of the two
--     Fails old new f o      o comes first, by a byte or where the input ended
--     Breaks at old new f      neither the outcome nor the input has ended yet
use Rattle.std.specs.Prelude.{◌≡◌, ℕ, Bool, true, false, List, [], ◌++◌, Option}
use Rattle.std.specs.Io.KnownBytes.{Consumes, IsAtEnd}

-- bytes that are known, as those of a slice, or not
abbrev pub Known : Type 0
Known = Option (List ℕ)

-- From old to new some bytes were taken, and whatever comes after them, f gives of all what g gives of the rest.
pub record Leads {O : Type 0} (old new : Known) (f g : List ℕ → O) : Type 0 where
  pub taken : List ℕ
  pub consumed : Consumes old new taken
  pub same : (more : List ℕ) → f (taken ++ more) ≡ g more

-- From old to new all bytes were taken, and f gives this of them.
pub record EndsAll {O : Type 0} (old new : Known) (f : List ℕ → O) (o : O) : Type 0 where
  pub taken : List ℕ
  pub consumed : Consumes old new taken
  pub at_end : IsAtEnd new
  pub same : f taken ≡ o

-- the bytes continue so; or they have ended, and nothing is left
abbrev pub Continues : {O : Type 0} → Known → Known → Bool → (List ℕ → O) → (List ℕ → O) → Type 0
Continues old new false f g = Leads old new f g
Continues old new true f g = EndsAll old new f (g [])

-- this comes first: by a byte, whatever comes after it, or where the input ended
pub data Fails {O : Type 0} (old new : Known) (f : List ℕ → O) (o : O) : Type 0 where
  by_byte : Leads old new f (λ more. o) → Fails old new f o
  by_end : EndsAll old new f o → Fails old new f o

-- the reading is at some place, from which on all is still to come
pub record Breaks {P O : Type 0} (at : P → List ℕ → O) (old new : Known) (f : List ℕ → O) :
    Type 0 where
  pub place : P
  pub leads : Leads old new f (at place)
