-- The first word of a text that is read: which of the two it is.
use Rattle.std.proofs.Common.{◌≡◌, ℕ, List, [], ◌∷◌, ◌++◌, refl, sym, ap, ◌∙◌, inl, inr}
use Rattle.std.specs.Prelude.{None, ◌⊎◌, ◌==◌, codes}
use Rattle.std.proofs.lemmas.Bool.{cases_Bool, eqb-true}
use Rattle.circuit_text.specs.declared.fault.AigerKind.TheVariants as kinds
use Rattle.circuit_text.specs.declared.header.Form.{Form}
use Rattle.circuit_text.specs.declared.header.Form.TheVariants as forms
use Rattle.circuit_text.specs.declared.header.Header.{Header}
use Rattle.circuit_text.specs.declared.header.Field.TheVariants as fields
use Rattle.circuit_text.specs.declared.spot.Place.TheVariants.{Word, Head}
use Rattle.circuit_text.specs.declared.spot.After.TheVariants.{Next}
use Rattle.circuit_text.specs.automaton.Aigers.{Says, outcome_at}
use Rattle.circuit_text.specs.automaton.Items.{no_circuit}
use Rattle.circuit_text.specs.Circuits.{Circuit}
use Rattle.circuit_text.specs.automaton.Headers.{no_header}
use Rattle.circuit_text.specs.automaton.Places.{after, in_word, location, start}
use Rattle.circuit_text.proofs.WrittenHeaders.{header, if_not}
use Rattle.circuit_text.proofs.WrittenNumbers.{at, byte_read, no_end, onward}

module _ (r : Circuit) where
  -- a byte of the first word
  word_byte : (h : Header) (read : ℕ) (b : ℕ) (more : List ℕ) → outcome_at no_circuit (at h 1 0 (Word read)) (b ∷ more) ≡ Says r →
      onward no_circuit (location (at h 1 0 (Word read))) (in_word (at h 1 0 (Word read)) read b) more ≡ Says r
  unfolding after
  word_byte h read b more e = sym (byte_read no_circuit (at h 1 0 (Word read)) b more) ∙ e

  pub record WordRead (form : Form) (word text : List ℕ) : Type 0 where
    pub more : List ℕ
    pub whole : text ≡ word ++ 32 ∷ more
    pub on : outcome_at no_circuit (at (header form 0 0 0 0 0 0 0) 1 0 (Head fields.Maximum None)) more ≡ Says r

  -- from its third byte on
  word_ends : (form : Form) (text : List ℕ) → outcome_at no_circuit (at (header form 0 0 0 0 0 0 0) 1 0 (Word 2)) text ≡ Says r →
      (more : List ℕ) × (text ≡ 103 ∷ 32 ∷ more) × (outcome_at no_circuit (at (header form 0 0 0 0 0 0 0) 1 0 (Head fields.Maximum None)) more ≡ Says r)
  word_ends form [] e = absurd (no_end no_circuit r (at (header form 0 0 0 0 0 0 0) 1 0 (Word 2)) refl e)
  word_ends form (b ∷ []) e =
      let first = if_not no_circuit r (location (at (header form 0 0 0 0 0 0 0) 1 0 (Word 2))) [] (103 == b) (Next (at (header form 0 0 0 0 0 0 0) 1 0 (Word 3))) kinds.NoHeader
      (word_byte (header form 0 0 0 0 0 0 0) 2 b [] e) in
      absurd (no_end no_circuit r (at (header form 0 0 0 0 0 0 0) 1 0 (Word 3)) refl first.1)
  word_ends form (b ∷ d ∷ more) e =
      let first = if_not no_circuit r (location (at (header form 0 0 0 0 0 0 0) 1 0 (Word 2))) (d ∷ more) (103 == b) (Next (at (header form 0 0 0 0 0 0 0) 1 0 (Word 3))) kinds.NoHeader
      (word_byte (header form 0 0 0 0 0 0 0) 2 b (d ∷ more) e) in
      let second = if_not no_circuit r (location (at (header form 0 0 0 0 0 0 0) 1 0 (Word 3))) more (32 == d) (Next (at (header form 0 0 0 0 0 0 0) 1 0 (Head fields.Maximum None))) kinds.NoHeader
      (word_byte (header form 0 0 0 0 0 0 0) 3 d more first.1) in
      (more, ap (λ (x : ℕ). x ∷ d ∷ more) (sym (eqb-true 103 b first.0)) ∙ ap (λ (x : ℕ). 103 ∷ x ∷ more) (sym (eqb-true 32 d second.0)), second.1)

  -- its second byte
  word_second : (b : ℕ) (more : List ℕ) → outcome_at no_circuit (at no_header 1 0 (Word 1)) (b ∷ more) ≡ Says r →
      ((b ≡ 105) × (outcome_at no_circuit (at (header forms.Binary 0 0 0 0 0 0 0) 1 0 (Word 2)) more ≡ Says r))
      ⊎ ((b ≡ 97) × (outcome_at no_circuit (at (header forms.Text 0 0 0 0 0 0 0) 1 0 (Word 2)) more ≡ Says r))
  word_second b more e = elim (cases_Bool (b == 97)) [
    | inl is ↦ inr (eqb-true b 97 is, rw is at (word_byte no_header 1 b more e))
    | inr other ↦
        let binary = if_not no_circuit r (location (at no_header 1 0 (Word 1))) more (105 == b) (Next (at (header forms.Binary 0 0 0 0 0 0 0) 1 0 (Word 2))) kinds.NoHeader
        (rw other at (word_byte no_header 1 b more e)) in
        inl (sym (eqb-true 105 b binary.0), binary.1)
  ]

  pub word_back : (text : List ℕ) → outcome_at no_circuit start text ≡ Says r → WordRead forms.Binary (codes "aig") text ⊎ WordRead forms.Text (codes "aag") text
  word_back [] e = absurd (no_end no_circuit r start refl e)
  word_back (b ∷ []) e =
      let first = if_not no_circuit r (location start) [] (97 == b) (Next (at no_header 1 0 (Word 1))) kinds.NoHeader (word_byte no_header 0 b [] e) in
      absurd (no_end no_circuit r (at no_header 1 0 (Word 1)) refl first.1)
  word_back (b ∷ d ∷ more) e =
      let first = if_not no_circuit r (location start) (d ∷ more) (97 == b) (Next (at no_header 1 0 (Word 1))) kinds.NoHeader (word_byte no_header 0 b (d ∷ more) e) in
      third (sym (eqb-true 97 b first.0)) (word_second d more first.1)
    where
      third : b ≡ 97 → ((d ≡ 105) × (outcome_at no_circuit (at (header forms.Binary 0 0 0 0 0 0 0) 1 0 (Word 2)) more ≡ Says r))
          ⊎ ((d ≡ 97) × (outcome_at no_circuit (at (header forms.Text 0 0 0 0 0 0 0) 1 0 (Word 2)) more ≡ Says r)) →
          WordRead forms.Binary (codes "aig") (b ∷ d ∷ more) ⊎ WordRead forms.Text (codes "aag") (b ∷ d ∷ more)
      third is (inl p) =
          let rest = word_ends forms.Binary more p.1 in
          inl (record { more = rest.0; whole = ap (λ (x : ℕ). x ∷ d ∷ more) is ∙ ap (λ (x : ℕ). 97 ∷ x ∷ more) p.0 ∙ ap (λ (l : List ℕ). 97 ∷ 105 ∷ l) rest.1; on = rest.2 })
      third is (inr p) =
          let rest = word_ends forms.Text more p.1 in
          inr (record { more = rest.0; whole = ap (λ (x : ℕ). x ∷ d ∷ more) is ∙ ap (λ (x : ℕ). 97 ∷ x ∷ more) p.0 ∙ ap (λ (l : List ℕ). 97 ∷ 97 ∷ l) rest.1; on = rest.2 })
