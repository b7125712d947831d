-- Two circuits by their names, as they were read.
use Rattle.std.proofs.Common.{◌≡◌, ◌⊎◌, ℕ, ◌-◌, ◌<◌, ◌^◌, List, length, inl, inr, ap, sym, subst, ◌∙◌, arith}
use Rattle.std.specs.Prelude.{slice_index}
use Rattle.circuit_text.specs.declared.circuit.Circuit as read
use Rattle.circuit_text.specs.Circuits.{circuit_of}
use Rattle.circuit_names.specs.Names.{AreNames, NamesNone, count_in, count_of, name_from, name_in, name_of}
use Rattle.circuit_names.specs.Pairs.{AreByName, AreNamed, ArePlaces, CannotPair, FailsNames, HaveOneShape, IsUnnamed}
use Rattle.circuit_names.specs.Starts.{starts_in}
use Rattle.circuit_names.specs.declared.fault.PairFault.{PairFault}
use Rattle.circuit_names.specs.declared.names.Names.{Names}
use Rattle.circuit_names.specs.declared.names.Which.{Which}
use Rattle.circuit_names.specs.declared.names.Which.TheVariants.{First, Second}
use Rattle.circuit_names.specs.declared.place.Kind.{Kind}
use Rattle.circuit_names.specs.declared.place.Kind.TheVariants.{Input, Output}

module _ (which : Which) (c : read.Circuit) (text : List ℕ) (n : Names) (h : AreNames which c text n) where
  pub names_are : (kind : Kind) → name_in n kind ≡ name_of (circuit_of c) text kind
  names_are kind = ap (λ t. name_from t (starts_in n.table) kind) h.text_is ∙ ap (λ s. name_from text s kind) h.starts

  pub counts_are : (kind : Kind) → count_in n kind ≡ count_of (circuit_of c) kind
  counts_are Input = h.inputs
  counts_are Output = h.outputs

  pub is_unnamed : NamesNone n → IsUnnamed text (circuit_of c)
  is_unnamed none kind p less =
      sym (ap (λ (names : ℕ → List ℕ). names p) (names_are kind)) ∙ none kind p (subst (λ m. p < m) (sym (counts_are kind)) less)

  pub unnamed_is : IsUnnamed text (circuit_of c) → NamesNone n
  unnamed_is none kind p less =
      ap (λ (names : ℕ → List ℕ). names p) (names_are kind) ∙ none kind p (subst (λ m. p < m) (counts_are kind) less)

-- the same counts and names
named_as : (n m : ℕ) (names names' : ℕ → List ℕ) → n ≡ m → names ≡ names' → AreNamed n names → AreNamed m names'
named_as n m names names' e f h = subst (λ k. AreNamed k names') e (subst (λ g. AreNamed n g) f h)

places_as : (n m : ℕ) (names names' others others' : ℕ → List ℕ) (places : List ℕ) → n ≡ m → names ≡ names' → others ≡ others' →
    ArePlaces n names others places → ArePlaces m names' others' places
places_as n m names names' others others' places e f g h =
    subst (λ k. ArePlaces k names' others' places) e (subst (λ x. ArePlaces n names' x places) g (subst (λ x. ArePlaces n x others places) f h))

fails_as : (which : Which) (kind : Kind) (n m : ℕ) (names names' others others' : ℕ → List ℕ) (fault : PairFault) → n ≡ m → names ≡ names' → others ≡ others' →
    FailsNames which kind n names others fault → FailsNames which kind m names' others' fault
fails_as which kind n m names names' others others' fault e f g h =
    subst (λ k. FailsNames which kind k names' others' fault) e
    (subst (λ x. FailsNames which kind n names' x fault) g (subst (λ x. FailsNames which kind n x others fault) f h))

module _ (c c' : read.Circuit) (text text' : List ℕ) (n n' : Names) (h : AreNames First c text n) (h' : AreNames Second c' text' n')
    (shape : HaveOneShape (circuit_of c) (circuit_of c')) where
  pub same_counts : (kind : Kind) → count_in n kind ≡ count_in n' kind
  same_counts Input = h.inputs ∙ shape.inputs ∙ sym h'.inputs
  same_counts Output = h.outputs ∙ shape.outputs ∙ sym h'.outputs

  own_count : (kind : Kind) → count_in n' kind ≡ count_of (circuit_of c) kind
  own_count kind = sym (same_counts kind) ∙ counts_are First c text n h kind

  other_count : (kind : Kind) → count_in n kind ≡ count_of (circuit_of c') kind
  other_count kind = same_counts kind ∙ counts_are Second c' text' n' h' kind

  module _ (inputs outputs : List ℕ) (own_inputs : AreNamed (count_in n' Input) (name_in n Input)) (their_inputs : AreNamed (count_in n' Input) (name_in n' Input))
      (input_places : ArePlaces (count_in n' Input) (name_in n Input) (name_in n' Input) inputs) (their_outputs : AreNamed (count_in n Output) (name_in n' Output))
      (own_outputs : AreNamed (count_in n Output) (name_in n Output))
      (output_places : ArePlaces (count_in n Output) (name_in n' Output) (name_in n Output) outputs) where
    own : (kind : Kind) → AreNamed (count_of (circuit_of c) kind) (name_of (circuit_of c) text kind)
    own Input = named_as _ _ _ _ (own_count Input) (names_are First c text n h Input) own_inputs
    own Output = named_as _ _ _ _ (counts_are First c text n h Output) (names_are First c text n h Output) own_outputs

    theirs : (kind : Kind) → AreNamed (count_of (circuit_of c) kind) (name_of (circuit_of c') text' kind)
    theirs Input = named_as _ _ _ _ (own_count Input) (names_are Second c' text' n' h' Input) their_inputs
    theirs Output = named_as _ _ _ _ (counts_are First c text n h Output) (names_are Second c' text' n' h' Output) their_outputs

    pub are_by_name : AreByName text text' (circuit_of c) (circuit_of c') inputs outputs
    are_by_name = record {
      named = own;
      named' = theirs;
      inputs_are = places_as _ _ _ _ _ _ inputs (own_count Input) (names_are First c text n h Input) (names_are Second c' text' n' h' Input) input_places;
      outputs_are =
          places_as _ _ _ _ _ _ outputs (counts_are First c text n h Output) (names_are Second c' text' n' h' Output) (names_are First c text n h Output) output_places;
    }

  -- the places are those of inputs and outputs that are there
  pub inputs_fit : (inputs : List ℕ) → ArePlaces (count_in n' Input) (name_in n Input) (name_in n' Input) inputs → (p : ℕ) → p < length inputs →
      slice_index inputs p < 2 ^ 28 - 1
  inputs_fit inputs places p less =
      let within = (places.each p (subst (λ m. p < m) places.as_many less)).0 in
      omega (arith, within, own_count Input, shape.few)

  pub outputs_fit : (outputs : List ℕ) → ArePlaces (count_in n Output) (name_in n' Output) (name_in n Output) outputs → (p : ℕ) → p < length outputs →
      slice_index outputs p < length c'.outputs.items
  outputs_fit outputs places p less =
      let within = (places.each p (subst (λ m. p < m) places.as_many less)).0 in
      subst (λ m. slice_index outputs p < m) (other_count Output) within

  module _ (named : NamesNone n × NamesNone n' → ⊥) (fault : PairFault) where
    own_fails : (kind : Kind) → FailsNames First kind (count_in n kind) (name_in n kind) (name_in n' kind) fault →
        CannotPair text text' (circuit_of c) (circuit_of c') fault
    own_fails kind fails = record {
      shape = shape;
      named = λ one two. named (unnamed_is First c text n h one, unnamed_is Second c' text' n' h' two);
      kind = kind;
      fails = inl (fails_as First kind _ _ _ _ _ _ fault (counts_are First c text n h kind) (names_are First c text n h kind)
          (names_are Second c' text' n' h' kind) fails);
    }

    their_fails : (kind : Kind) → FailsNames Second kind (count_in n' kind) (name_in n' kind) (name_in n kind) fault →
        CannotPair text text' (circuit_of c) (circuit_of c') fault
    their_fails kind fails = record {
      shape = shape;
      named = λ one two. named (unnamed_is First c text n h one, unnamed_is Second c' text' n' h' two);
      kind = kind;
      fails = inr (fails_as Second kind _ _ _ _ _ _ fault (counts_are Second c' text' n' h' kind) (names_are Second c' text' n' h' kind)
          (names_are First c text n h kind) fails);
    }

    pub inputs_fail : FailsNames n.circuit Input (count_in n' Input) (name_in n Input) (name_in n' Input) fault
        ⊎ FailsNames n'.circuit Input (count_in n' Input) (name_in n' Input) (name_in n Input) fault → CannotPair text text' (circuit_of c) (circuit_of c') fault
    inputs_fail (inl fails) =
        own_fails Input (subst (λ k. FailsNames First Input k (name_in n Input) (name_in n' Input) fault) (sym (same_counts Input))
        (subst (λ w. FailsNames w Input (count_in n' Input) (name_in n Input) (name_in n' Input) fault) h.which_is fails))
    inputs_fail (inr fails) =
        their_fails Input (subst (λ w. FailsNames w Input (count_in n' Input) (name_in n' Input) (name_in n Input) fault) h'.which_is fails)

    pub outputs_fail : FailsNames n'.circuit Output (count_in n Output) (name_in n' Output) (name_in n Output) fault
        ⊎ FailsNames n.circuit Output (count_in n Output) (name_in n Output) (name_in n' Output) fault → CannotPair text text' (circuit_of c) (circuit_of c') fault
    outputs_fail (inl fails) =
        their_fails Output (subst (λ k. FailsNames Second Output k (name_in n' Output) (name_in n Output) fault) (same_counts Output)
        (subst (λ w. FailsNames w Output (count_in n Output) (name_in n' Output) (name_in n Output) fault) h'.which_is fails))
    outputs_fail (inr fails) =
        own_fails Output (subst (λ w. FailsNames w Output (count_in n Output) (name_in n Output) (name_in n' Output) fault) h.which_is fails)
