-- A whole proof as a piece.
--     piece_of r      the result of a run over a whole proof, as one over a piece
use Rattle.std.specs.Prelude.{Result, Ok, Err}
use Rattle.drat_check.specs.declared.fault.RunFault.{RunFault}
use Rattle.drat_check.specs.declared.piece_fault.PieceFault.{PieceFault}
use Rattle.drat_check.specs.declared.piece_fault.PieceFault.TheVariants.{Run}
use Rattle.verdicts.specs.declared.piece.PieceVerdict.{PieceVerdict}
use Rattle.verdicts.specs.declared.piece.PieceVerdict.TheVariants.{NotCarried, Refuted}
use Rattle.verdicts.specs.declared.verdict.Verdict.{Verdict}
use Rattle.verdicts.specs.declared.verdict.Verdict.TheVariants.{NotVerified, Verified}

-- a whole proof is a piece whose only target clause is the empty one
abbrev pub piece_of : Result Verdict RunFault → Result PieceVerdict PieceFault
piece_of (Ok Verified) = Ok Refuted
piece_of (Ok NotVerified) = Ok NotCarried
piece_of (Err fault) = Err (Run fault)
