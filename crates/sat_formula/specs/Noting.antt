-- The lines of the clauses that a reader gave, and the header, over many calls.
--     BeginsOn known lines   the first clauses of a text end on these lines
--     HasNoted               between two readers the clauses that were given end on these lines
use Rattle.std.specs.Prelude.{◌≡◌, ℕ, List, [], ◌++◌, Option, Some, IfSome, if◌then◌else◌}
use Rattle.std.specs.Option.{option_map}
use Rattle.sat_formula.specs.declared.dimacs.DimacsReader.{DimacsReader}
use Rattle.sat_formula.specs.DimacsReader.{has_ended, unread_of, standing}
use Rattle.sat_formula.specs.Notes.{Notes, notes_at}
use Rattle.sat_formula.specs.Text.{past_of}

-- the notes of what a reader has not given yet, where its bytes are known
abbrev pub notes_left : {R : Type 0} → (R → Option (List ℕ)) → DimacsReader R → Option Notes
notes_left remaining r = if has_ended r then Some ([], past_of (standing r))
    else option_map (notes_at (standing r)) (unread_of remaining r)

-- these are the notes, where they are known
abbrev pub IsNotes : Option Notes → Notes → Type 0
IsNotes known n = IfSome known (λ notes. notes ≡ n)

-- the notes begin with these lines, where they are known
abbrev pub BeginsOn : Option Notes → List ℕ → Type 0
BeginsOn known lines = (n : Notes) × IsNotes known (lines ++ n.0, n.1)

-- between old and new clauses were given that end on these lines: the notes were they and then what they are now
pub record HasNoted {R : Type 0} (remaining : R → Option (List ℕ)) (old : DimacsReader R)
    (lines : List ℕ) (new : DimacsReader R) : Type 0 where
  pub back : (n : Notes) → IsNotes (notes_left remaining new) n →
      IsNotes (notes_left remaining old) (lines ++ n.0, n.1)
