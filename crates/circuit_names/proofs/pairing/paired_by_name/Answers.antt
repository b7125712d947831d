use Rattle.std.proofs.Common.{ap, inl, refl, rules, sym, ◌∙◌}
use Rattle.std.specs.Prelude.{IfErr}
use Rattle.std.proofs.lemmas.Bool.{false≢true}
use Rattle.sat_formula.proofs.Exits.{exits}
use Rattle.circuit_text.specs.Circuits.{circuit_of}
use Rattle.circuit_names.specs.Pairs.{IsPairFault, arranged, by_name, unlike, unnamed}
use Rattle.circuit_names.proofs.PairLemmas.{are_by_name, inputs_fail, inputs_fit, is_unnamed, outputs_fail, outputs_fit}
use Rattle.circuit_names.specs.declared.names.Which.TheVariants.{First, Second}
use Rattle.circuit_names.proofs.pairing.paired_by_name.Goals as goal

pub returns-then-not-have_one_shape-clause-paired : goal.returns-then-not-have_one_shape-clause-paired
returns-then-not-have_one_shape-clause-paired c =
    unlike (λ shape. false≢true (sym c.if-not-have_one_shape.true ∙ c.have_one_shape.ensures.1 shape)) refl

pub returns-then-are_unnamed-clause-paired : goal.returns-then-are_unnamed-clause-paired
returns-then-are_unnamed-clause-paired c =
    let none = c.are_unnamed.ensures.0 c.if-are_unnamed.true in
    unnamed (is_unnamed First c.args.circuit.now c.args.text.now c.in_ok-one.one c.in_ok-one.ensures none.0)
    (is_unnamed Second c.args.second c.args.other.now c.in_ok-two.two c.in_ok-two.ensures none.1) refl

pub arranged-requires-clause-inputs : goal.arranged-requires-clause-inputs
arranged-requires-clause-inputs c =
    rw c.deref.ensures.value
    (inputs_fit c.args.circuit.now c.args.second c.args.text.now c.args.other.now c.in_ok-one.one c.in_ok-two.two c.in_ok-one.ensures c.in_ok-two.ensures (c.have_one_shape.ensures.0 (search rules))
    c.in_ok-inputs.inputs.items c.in_ok-inputs.ensures.places)

pub arranged-requires-clause-outputs : goal.arranged-requires-clause-outputs
arranged-requires-clause-outputs c =
    rw c.deref-2.ensures.value
    (outputs_fit c.args.circuit.now c.args.second c.args.text.now c.args.other.now c.in_ok-one.one c.in_ok-two.two c.in_ok-one.ensures c.in_ok-two.ensures (c.have_one_shape.ensures.0 (search rules))
    c.in_ok-outputs.outputs.items c.in_ok-outputs.ensures.places)

pub returns-clause-paired : goal.returns-clause-paired
returns-clause-paired c =
    by_name c.in_ok-inputs.inputs.items c.in_ok-outputs.outputs.items
    (are_by_name c.args.circuit.now c.args.second c.args.text.now c.args.other.now c.in_ok-one.one c.in_ok-two.two c.in_ok-one.ensures c.in_ok-two.ensures (c.have_one_shape.ensures.0 (search rules))
    c.in_ok-inputs.inputs.items c.in_ok-outputs.outputs.items c.in_ok-inputs.ensures.among c.in_ok-inputs.ensures.names c.in_ok-inputs.ensures.places
    c.in_ok-outputs.ensures.among c.in_ok-outputs.ensures.names c.in_ok-outputs.ensures.places)
    (c.in_ok-arranged.ensures ∙ ap (λ xs. arranged xs c.deref-2.result.now (circuit_of c.args.second)) c.deref.ensures.value
    ∙ ap (λ xs. arranged c.in_ok-inputs.inputs.items xs (circuit_of c.args.second)) c.deref-2.ensures.value)

pub returns-in_err-inputs-clause-fault : goal.returns-in_err-inputs-clause-fault
returns-in_err-inputs-clause-fault c =
    exits (λ r. IfErr r (IsPairFault c.args.text.now c.args.other.now (circuit_of c.args.circuit.now) (circuit_of c.args.second))) _ _
    c.from_residual-in_err-inputs.ensures.1
    (inl (inputs_fail c.args.circuit.now c.args.second c.args.text.now c.args.other.now c.in_ok-one.one c.in_ok-two.two c.in_ok-one.ensures c.in_ok-two.ensures (c.have_one_shape.ensures.0 (search rules))
    (λ none. false≢true (sym c.if-are_unnamed.false ∙ c.are_unnamed.ensures.1 none)) c.in_err-inputs.field-0.0 c.in_err-inputs.ensures.fault))

pub returns-in_err-outputs-clause-fault : goal.returns-in_err-outputs-clause-fault
returns-in_err-outputs-clause-fault c =
    exits (λ r. IfErr r (IsPairFault c.args.text.now c.args.other.now (circuit_of c.args.circuit.now) (circuit_of c.args.second))) _ _
    c.from_residual-in_err-outputs.ensures.1
    (inl (outputs_fail c.args.circuit.now c.args.second c.args.text.now c.args.other.now c.in_ok-one.one c.in_ok-two.two c.in_ok-one.ensures c.in_ok-two.ensures (c.have_one_shape.ensures.0 (search rules))
    (λ none. false≢true (sym c.if-are_unnamed.false ∙ c.are_unnamed.ensures.1 none)) c.in_err-outputs.field-0.0 c.in_err-outputs.ensures.fault))
