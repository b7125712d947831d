use Rattle.std.proofs.Common.{arith}
use Rattle.proof_bytes.specs.Steps.{fields_at}
use Rattle.proof_bytes.proofs.Leading.{leads_nil, malformed}
use Rattle.proof_bytes.proofs.Tags.{unknown_tag}
use Rattle.proof_bytes.proofs.body.BodyReader.body.Goals as goal

pub returns-in-1 : goal.returns-in-1
unfolding fields_at
returns-in-1 g c = rw c.in-1.is assumption

pub returns-in-2 : goal.returns-in-2
unfolding fields_at
returns-in-2 g c = rw c.in-2.is assumption

pub returns-in-3 : goal.returns-in-3
unfolding fields_at
returns-in-3 g c = rw c.in-3.is assumption

pub returns-in-4 : goal.returns-in-4
unfolding fields_at
returns-in-4 g c = rw c.in-4.is assumption

pub returns-in-5 : goal.returns-in-5
unfolding fields_at
returns-in-5 g c = rw c.in-5.is assumption

pub returns-in-6 : goal.returns-in-6
unfolding fields_at
returns-in-6 g c = rw c.in-6.is assumption

pub returns-in-7 : goal.returns-in-7
unfolding fields_at
returns-in-7 g c = rw c.in-7.is assumption

pub returns-in-8 : goal.returns-in-8
unfolding fields_at
returns-in-8 g c = rw c.in-8.is assumption

pub returns-in-9 : goal.returns-in-9
unfolding fields_at
returns-in-9 g c = rw c.in-9.is assumption

pub returns-in-10 : goal.returns-in-10
unfolding fields_at
returns-in-10 g c = rw c.in-10.is assumption

pub returns-in-11 : goal.returns-in-11
unfolding fields_at
returns-in-11 g c = rw c.in-11.is assumption

pub returns-in-12 : goal.returns-in-12
unfolding fields_at
returns-in-12 g c = rw c.in-12.is assumption

pub returns-in-13 : goal.returns-in-13
unfolding fields_at
returns-in-13 g c = rw c.in-13.is (leads_nil _ _)

pub returns-in_default : goal.returns-in_default
returns-in_default g c = malformed (unknown_tag _ _ _ (omega arith))
