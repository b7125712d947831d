-- What is read out of the bytes ahead: groups of seven bits, one in each byte of a number, and the items in front.
use Rattle.std.specs.Prelude.{◌≡◌, ℕ, ◌+◌, ◌*◌, ◌<◌, List, ◌++◌, Ok, length}
use Rattle.proof_bytes.specs.Reading.{Found}
use Rattle.proof_bytes.specs.Fields.{many_at}

-- eight groups, the lowest first: each byte of the number is below 128
pub record AreGroups (n : ℕ) : Type 0 where
  pub c0 : ℕ
  pub c1 : ℕ
  pub c2 : ℕ
  pub c3 : ℕ
  pub c4 : ℕ
  pub c5 : ℕ
  pub c6 : ℕ
  pub c7 : ℕ
  pub small0 : c0 < 128
  pub small1 : c1 < 128
  pub small2 : c2 < 128
  pub small3 : c3 < 128
  pub small4 : c4 < 128
  pub small5 : c5 < 128
  pub small6 : c6 < 128
  pub small7 : c7 < 128
  pub is :
      n ≡ c0 + 256 * (c1 + 256 * (c2 + 256 * (c3 + 256
      * (c4 + 256 * (c5 + 256 * (c6 + 256 * c7))))))

-- whatever groups the number has, they are joined
abbrev pub Joins : ℕ → ℕ → Type 0
Joins n joined = (g : AreGroups n) →
    joined ≡ g.c0 + 128 * (g.c1 + 128 * (g.c2 + 128 * (g.c3 + 128
    * (g.c4 + 128 * (g.c5 + 128 * (g.c6 + 128 * g.c7))))))

-- the bytes are read as these items, one after the other, whatever comes after them
abbrev pub ReadAs : {A : Type 0} → (List ℕ → Found A) → List ℕ → List A → Type 0
ReadAs item bytes items =
    (more : List ℕ) → many_at item (length items) (bytes ++ more) ≡ Ok (items, more)
