-- What a line says, by the first bytes of its words.
use Rattle.std.proofs.Common.{◌≡◌, ℕ, false, List, [], ◌∷◌, get_or, refl, Ok, None, Some}
use Rattle.std.proofs.lemmas.Bool.{ne_eqb}
use Rattle.sat_formula.specs.Bytes.{is_blank}
use Rattle.lrat_text.specs.declared.fault.LineKind.{LineKind}
use Rattle.lrat_text.specs.declared.number.Number.{Number}
use Rattle.lrat_text.specs.Bytes.{IsLine, words_in}
use Rattle.lrat_text.specs.FirstNumbers.{IsFirst}
use Rattle.lrat_text.specs.Grammar.{after_id, clause_at, first_said, is_comment, says}
use Rattle.lrat_text.specs.Items.{Words, ◌>>=◌}
use Rattle.lrat_text.proofs.WordLemmas.{begins}

begun_otherwise : (word more : List ℕ) (b : ℕ) → word ≡ b ∷ more → (b ≡ 99 → ⊥) → is_comment word ≡ false
begun_otherwise word more b e other = rw (e, ne_eqb 99 b (λ c. other (cc))) refl

module _ (bytes : List ℕ) (line : IsLine bytes) (blank : is_blank (get_or bytes 0 0) ≡ false) (short : LineKind) where
  -- a comment says nothing
  pub comment_says : get_or bytes 0 0 ≡ 99 → says short (words_in bytes) ≡ Ok None
  comment_says c = go (words_in bytes) refl
    where
      go : (words : Words) → words_in bytes ≡ words → says short words ≡ Ok None
      go [] e = refl
      go (word ∷ later) e = let b = begins bytes line blank word later e in rw (b.1, c) refl

  -- any other line begins with a number
  pub number_says : (get_or bytes 0 0 ≡ 99 → ⊥) → (number : Number) (later : Words) → IsFirst (words_in bytes) number later →
      says short (words_in bytes) ≡ (first_said number >>= λ id. after_id short id later >>= λ said. Ok (Some said))
  number_says other number later f =
      let b = begins bytes line blank f.word later f.words in
      rw (f.words, begun_otherwise f.word b.0 (get_or bytes 0 0) b.1 other, f.says) refl

  -- a word that begins otherwise than with a `d` is that of a clause
  pub clause_says : (id : ℕ) → (id ≡ 0 → ⊥) → (get_or bytes 0 0 ≡ 100 → ⊥) → after_id short id (words_in bytes) ≡ clause_at short id (words_in bytes)
  clause_says id some other = go (words_in bytes) refl
    where
      go : (words : Words) → words_in bytes ≡ words → after_id short id words ≡ clause_at short id words
      go [] e = refl
      go (word ∷ later) e = let b = begins bytes line blank word later e in rw (b.1, ne_eqb (get_or bytes 0 0) 100 other, ne_eqb id 0 some) refl
