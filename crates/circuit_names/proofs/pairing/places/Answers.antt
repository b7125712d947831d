use Rattle.std.proofs.Common.{◌⊎◌, Result, Ok, Err, inl, inr, subst}
use Rattle.std.specs.Prelude.{IfErr, IfOk}
use Rattle.sat_formula.proofs.Exits.{exits}
use Rattle.circuit_names.specs.Names.{count_in, name_in}
use Rattle.circuit_names.specs.Pairs.{AreNamed, FailsNames}
use Rattle.circuit_names.proofs.PositionLemmas.{are_named}
use Rattle.circuit_names.proofs.pairing.places.Goals as goal

-- a fact of all
if_ok_all : {X E : Type 0} (r : Result X E) (P : Type 0) → P → IfOk r (λ x. P)
if_ok_all (Ok x) P p = p
if_ok_all (Err e) P p = tt

pub returns-in_err-positions-clause-fault : goal.returns-in_err-positions-clause-fault
returns-in_err-positions-clause-fault c =
    let one = name_in c.args.among.now c.args.kind in
    let two = name_in c.args.names.now c.args.kind in
    exits (λ r. IfErr r (λ fault. FailsNames c.args.among.now.circuit c.args.kind (count_in c.args.names.now c.args.kind) one two fault
    ⊎ FailsNames c.args.names.now.circuit c.args.kind (count_in c.args.names.now c.args.kind) two one fault)) _ _ c.from_residual.ensures.1
    (inl (subst (λ n. FailsNames c.args.among.now.circuit c.args.kind n one two c.in_err-positions.field-0.0) c.requires (c.in_err-positions.ensures.fault two)))

pub returns-in_err-of-clause-fault : goal.returns-in_err-of-clause-fault
returns-in_err-of-clause-fault c =
    let one = name_in c.args.among.now c.args.kind in
    let two = name_in c.args.names.now c.args.kind in
    exits (λ r. IfErr r (λ fault. FailsNames c.args.among.now.circuit c.args.kind (count_in c.args.names.now c.args.kind) one two fault
    ⊎ FailsNames c.args.names.now.circuit c.args.kind (count_in c.args.names.now c.args.kind) two one fault)) _ _ c.from_residual-in_err-of.ensures.1
    (inr (c.in_err-of.ensures.fault one))

pub returns-clause-among : goal.returns-clause-among
returns-clause-among c =
    let one = name_in c.args.among.now c.args.kind in
    let named = are_named (count_in c.args.among.now c.args.kind) one c.in_ok-positions.positions c.in_ok-positions.ensures.positions in
    if_ok_all c.places.result (AreNamed (count_in c.args.names.now c.args.kind) one) (subst (λ n. AreNamed n one) c.requires named)

pub returns-clause-names : goal.returns-clause-names
returns-clause-names c =
    let two = name_in c.args.names.now c.args.kind in
    if_ok_all c.places.result (AreNamed (count_in c.args.names.now c.args.kind) two)
    (are_named (count_in c.args.names.now c.args.kind) two c.in_ok-of.field-0 c.in_ok-of.ensures.positions)
