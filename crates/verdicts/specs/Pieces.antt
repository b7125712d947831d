-- Verdicts on a piece of a proof, and their lines.
use Rattle.std.specs.Prelude.{ℕ, Bool, true, false, List, [], ◌∷◌, ◌++◌, codes}
use Rattle.verdicts.specs.Verdicts.{shown_line}
use Rattle.verdicts.specs.declared.verdict.Verdict.TheVariants.{Verified, NotVerified}
use Rattle.verdicts.specs.declared.piece.PieceVerdict.{PieceVerdict}
use Rattle.verdicts.specs.declared.piece.PieceVerdict.TheVariants.{Refuted, Carried, NotCarried}

-- the line, with its line feed; a piece that refutes its formula says so as a whole proof does
abbrev pub piece_line : PieceVerdict → List ℕ
piece_line Refuted = shown_line Verified
piece_line Carried = codes "s VERIFIED PIECE" ++ 10 ∷ []
piece_line NotCarried = shown_line NotVerified

-- no target clause is missing
abbrev pub shows_wanted : PieceVerdict → Bool
shows_wanted Refuted = true
shows_wanted Carried = true
shows_wanted NotCarried = false
