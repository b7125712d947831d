-- What the rest of a line says within the word of a status.
use Rattle.std.proofs.Common.{◌≡◌, ℕ, ◌+◌, Bool, true, false, cond, List, [], ◌∷◌, length, refl, sym, ap, ◌∙◌}
use Rattle.std.specs.Prelude.{◌&&◌, ◌||◌, ◌==◌, codes}
use Rattle.std.specs.Str.{bytes_eq}
use Rattle.answer_text.specs.declared.fault.AnswerKind.TheVariants as kinds
use Rattle.answer_text.specs.declared.spot.Status.{Status}
use Rattle.answer_text.specs.declared.spot.Status.TheVariants as statuses
use Rattle.answer_text.specs.Answers.{Outcome, Faulty, SoFar, first_then, satisfiable_then, status_then}
use Rattle.answer_text.specs.automaton.Places.{is_spelled, turns, word_of}
use Rattle.answer_text.proofs.Words.{spells, spells-first, spells-goes, spells-stops, turned, turned-first, turned-goes, turned-stops}

-- after this many bytes of the word: what is open of it, and the words after it; `next` is what follows the line
abbrev pub word_rest : Status → ℕ → ℕ → SoFar → List ℕ → List (List ℕ) → (SoFar → Outcome) → Outcome
word_rest statuses.Satisfiable read line s f ws next = cond (spells (codes "SATISFIABLE") read f) (satisfiable_then line s ws next) (Faulty line kinds.Malformed)
word_rest statuses.Unsatisfiable read line s f ws next =
    cond (spells (codes "UNSATISFIABLE") read f) (Faulty line kinds.Unsatisfiable) (cond (turned read f) (Faulty line kinds.Unknown) (Faulty line kinds.Malformed))
word_rest statuses.Unknown read line s f ws next = cond (spells (codes "UNKNOWN") read f) (Faulty line kinds.Unknown) (Faulty line kinds.Malformed)
word_rest statuses.Sat read line s f ws next = cond (spells (codes "SAT") read f) (satisfiable_then line s ws next) (Faulty line kinds.Malformed)
word_rest statuses.Unsat read line s f ws next = cond (spells (codes "UNSAT") read f) (Faulty line kinds.Unsatisfiable) (Faulty line kinds.Malformed)

pub or_left : (a b : Bool) → (a || b) ≡ false → a ≡ false
or_left true b e = absurd cc
or_left false b e = refl

module _ (line : ℕ) (s : SoFar) (b : ℕ) (f : List ℕ) (ws : List (List ℕ)) (next : SoFar → Outcome) where
  pub rest-goes : (status : Status) (read : ℕ) → is_spelled status read b ≡ true → word_rest status read line s (b ∷ f) ws next ≡ word_rest status (read + 1) line s f ws next
  rest-goes statuses.Satisfiable read e = ap (λ t. cond t (satisfiable_then line s ws next) (Faulty line kinds.Malformed)) (spells-goes (codes "SATISFIABLE") read b f e)
  rest-goes statuses.Unsatisfiable read e =
      ap (λ t. cond t (Faulty line kinds.Unsatisfiable) (cond (turned read (b ∷ f)) (Faulty line kinds.Unknown) (Faulty line kinds.Malformed))) (spells-goes (codes "UNSATISFIABLE") read b f e)
      ∙ ap (λ t. cond (spells (codes "UNSATISFIABLE") (read + 1) f) (Faulty line kinds.Unsatisfiable) (cond t (Faulty line kinds.Unknown) (Faulty line kinds.Malformed))) (turned-goes read b f e)
  rest-goes statuses.Unknown read e = ap (λ t. cond t (Faulty line kinds.Unknown) (Faulty line kinds.Malformed)) (spells-goes (codes "UNKNOWN") read b f e)
  rest-goes statuses.Sat read e = ap (λ t. cond t (satisfiable_then line s ws next) (Faulty line kinds.Malformed)) (spells-goes (codes "SAT") read b f e)
  rest-goes statuses.Unsat read e = ap (λ t. cond t (Faulty line kinds.Unsatisfiable) (Faulty line kinds.Malformed)) (spells-goes (codes "UNSAT") read b f e)

  pub rest-stops : (status : Status) (read : ℕ) → is_spelled status read b ≡ false → turns status read b ≡ false → word_rest status read line s (b ∷ f) ws next ≡ Faulty line kinds.Malformed
  rest-stops statuses.Satisfiable read e t = ap (λ t. cond t (satisfiable_then line s ws next) (Faulty line kinds.Malformed)) (spells-stops (codes "SATISFIABLE") read b f e)
  rest-stops statuses.Unsatisfiable read e t =
      ap (λ t. cond t (Faulty line kinds.Unsatisfiable) (cond (turned read (b ∷ f)) (Faulty line kinds.Unknown) (Faulty line kinds.Malformed))) (spells-stops (codes "UNSATISFIABLE") read b f e)
      ∙ ap (λ t. cond t (Faulty line kinds.Unknown) (Faulty line kinds.Malformed)) (turned-stops read b f e ∙ ap (λ u. u && spells (codes "UNKNOWN") 3 f) t)
  rest-stops statuses.Unknown read e t = ap (λ t. cond t (Faulty line kinds.Unknown) (Faulty line kinds.Malformed)) (spells-stops (codes "UNKNOWN") read b f e)
  rest-stops statuses.Sat read e t = ap (λ t. cond t (satisfiable_then line s ws next) (Faulty line kinds.Malformed)) (spells-stops (codes "SAT") read b f e)
  rest-stops statuses.Unsat read e t = ap (λ t. cond t (Faulty line kinds.Unsatisfiable) (Faulty line kinds.Malformed)) (spells-stops (codes "UNSAT") read b f e)

  -- UN was read, and a K follows
  pub rest-turns : (read : ℕ) → is_spelled statuses.Unsatisfiable read b ≡ false → turns statuses.Unsatisfiable read b ≡ true →
      word_rest statuses.Unsatisfiable read line s (b ∷ f) ws next ≡ word_rest statuses.Unknown 3 line s f ws next
  rest-turns read e t =
      ap (λ t. cond t (Faulty line kinds.Unsatisfiable) (cond (turned read (b ∷ f)) (Faulty line kinds.Unknown) (Faulty line kinds.Malformed))) (spells-stops (codes "UNSATISFIABLE") read b f e)
      ∙ ap (λ t. cond t (Faulty line kinds.Unknown) (Faulty line kinds.Malformed)) (turned-stops read b f e ∙ ap (λ u. u && spells (codes "UNKNOWN") 3 f) t)

  -- the word ends before it is whole
  pub rest-short : (status : Status) (read : ℕ) → (read == length (word_of status)) ≡ false → word_rest status read line s [] ws next ≡ Faulty line kinds.Malformed
  rest-short statuses.Satisfiable read e = rw e refl
  rest-short statuses.Unsatisfiable read e = rw e refl
  rest-short statuses.Unknown read e = rw e refl
  rest-short statuses.Sat read e = rw e refl
  rest-short statuses.Unsat read e = rw e refl

  pub first_s : first_then line s ((83 ∷ f) ∷ ws) next ≡ word_rest statuses.Sat 1 line s f ws next
  first_s = ap (λ t. cond t (satisfiable_then line s ws next) (Faulty line kinds.Malformed)) (sym (spells-first 83 (codes "AT") f))

  pub first_u : first_then line s ((85 ∷ f) ∷ ws) next ≡ word_rest statuses.Unsat 1 line s f ws next
  first_u = ap (λ t. cond t (Faulty line kinds.Unsatisfiable) (Faulty line kinds.Malformed)) (sym (spells-first 85 (codes "NSAT") f))

  pub status_s : status_then line s ((83 ∷ f) ∷ ws) next ≡ word_rest statuses.Satisfiable 1 line s f ws next
  status_s = ap (λ t. cond t (satisfiable_then line s ws next) (Faulty line kinds.Malformed)) (sym (spells-first 83 (codes "ATISFIABLE") f))

  pub status_u : status_then line s ((85 ∷ f) ∷ ws) next ≡ word_rest statuses.Unsatisfiable 1 line s f ws next
  status_u =
      ap (λ t. cond t (Faulty line kinds.Unsatisfiable) (cond (bytes_eq f (codes "NKNOWN")) (Faulty line kinds.Unknown) (Faulty line kinds.Malformed))) (sym (spells-first 85 (codes "NSATISFIABLE") f))
      ∙ ap (λ t. cond (spells (codes "UNSATISFIABLE") 1 f) (Faulty line kinds.Unsatisfiable) (cond t (Faulty line kinds.Unknown) (Faulty line kinds.Malformed))) (sym (turned-first f))
