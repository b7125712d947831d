-- A text is of a circuit if and only if it is read as this circuit.
use Rattle.std.proofs.Common.{◌≡◌, ℕ, List, sym, subst, ◌∙◌, inl, inr}
use Rattle.std.specs.Prelude.{◌⊎◌, codes}
use Rattle.circuit_text.specs.declared.header.Form.TheVariants as forms
use Rattle.circuit_text.specs.automaton.Aigers.{Says, outcome_of}
use Rattle.circuit_text.specs.Circuits.{Circuit}
use Rattle.circuit_text.specs.Written.{BinaryForm, IsAiger, TextForm}
use Rattle.circuit_text.proofs.WrittenWordsBack.{WordRead, word_back}
use Rattle.circuit_text.proofs.WrittenTextForm.{text_is_read}
use Rattle.circuit_text.proofs.WrittenTextFormBack.{text_is_written}
use Rattle.circuit_text.proofs.WrittenWhole.{binary_is_read}
use Rattle.circuit_text.proofs.WrittenWholeBack.{binary_is_written}

pub is_read : (text : List ℕ) (c : Circuit) → IsAiger text c → outcome_of text ≡ Says c
is_read text c is = by_form is.form
  where
    by_form : BinaryForm c text ⊎ TextForm c text → outcome_of text ≡ Says c
    by_form (inl form) = binary_is_read c text is.sized form
    by_form (inr form) = text_is_read c text is.sized form

pub is_written : (text : List ℕ) (c : Circuit) → outcome_of text ≡ Says c → IsAiger text c
is_written text c e = by_word (word_back c text e)
  where
    by_word : WordRead c forms.Binary (codes "aig") text ⊎ WordRead c forms.Text (codes "aag") text → IsAiger text c
    by_word (inl word) = let x = binary_is_written c text word in subst (IsAiger text) (sym x.3) (record { sized = x.1; form = inl x.2 })
    by_word (inr word) = let x = text_is_written c text word in subst (IsAiger text) (sym x.3) (record { sized = x.1; form = inr x.2 })

said_is : (c d : Circuit) → Says c ≡ Says d → c ≡ d
said_is c d e = cc

pub is_one : (text : List ℕ) (c d : Circuit) → IsAiger text c → IsAiger text d → c ≡ d
is_one text c d is is' = said_is c d (sym (is_read text c is) ∙ is_read text d is')
