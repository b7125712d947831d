-- Words, each before a space, and a last 0, are the words of one line.
use Rattle.std.proofs.Common.{◌≡◌, ℕ, true, List, [], ◌∷◌, ◌++◌, refl, append_assoc}
use Rattle.std.specs.Prelude.{All, codes, nat_le}
use Rattle.std.specs.List.{list_all}
use Rattle.std.proofs.lemmas.List.Elements.{All-head, All-tail}
use Rattle.std.proofs.lemmas.List.Folds.{list_all-append}
use Rattle.sat_formula.specs.Lines.{lines_of, words_of}
use Rattle.written_numbers.specs.Words.{line_text, spaced, spaced_word}
use Rattle.written_numbers.proofs.WrittenWords.{IsWord, lines_of-line, word_in_line, words_of-last, words_of-word, zero_is_word}

-- words after words
pub spaced-append : (ws vs : List (List ℕ)) → spaced (ws ++ vs) ≡ spaced ws ++ spaced vs
spaced-append [] vs = refl
spaced-append (w ∷ ws) vs = simp (spaced-append ws vs, append_assoc)

-- the first word, its space, and the rest of the line
pub first_of_spaced : (w rest last : List ℕ) → (spaced_word w ++ rest) ++ last ≡ w ++ 32 ∷ (rest ++ last)
first_of_spaced w rest last = simp append_assoc

pub words_of-line_text : (words : List (List ℕ)) → All IsWord words → words_of (line_text words) ≡ words ++ codes "0" ∷ []
words_of-line_text [] none = words_of-last (codes "0") zero_is_word
words_of-line_text (w ∷ words) are =
    rw (first_of_spaced, words_of-word w (line_text words) (All-head IsWord w words are), words_of-line_text words (All-tail IsWord w words are)) refl

one_line : (words : List (List ℕ)) → All IsWord words → list_all (nat_le 32) (line_text words) ≡ true
one_line [] none = refl
one_line (w ∷ words) are =
    rw (first_of_spaced, list_all-append, word_in_line w (All-head IsWord w words are), one_line words (All-tail IsWord w words are)) refl

-- such a line and its LF, before other lines
pub lines_of-line_text : (words : List (List ℕ)) (text : List ℕ) → All IsWord words → lines_of (line_text words ++ 10 ∷ text) ≡ line_text words ∷ lines_of text
lines_of-line_text words text are = lines_of-line (line_text words) text (one_line words are)
