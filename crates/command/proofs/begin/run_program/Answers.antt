use Rattle.std.proofs.Common.{inl, inr}
use Rattle.command.proofs.Ending.{ends}
use Rattle.command.proofs.begin.run_program.Goals as goal

-- the words are answered by what they ask, by a refusal, or by the program's own part
pub returns-in-Ok : goal.returns-in-Ok
returns-in-Ok g c = elim c.answer.ensures [
  | inl asked ↦ inl (inl (rw asked.1 at c.exit_code_of.ensures))
  | inr other ↦ elim other [
    | inl refused ↦ inl (ends _ _ c.exit_code_of.ensures refused)
    | inr run ↦ inr (run.0, _, run.2, run.3, c.exit_code_of.ensures)
  ]
]
