-- What a call for the next line of a session answers.
--     Reads texts lines r      these lines of a session were read
--     ReadsNext texts lines r result      what a call for the next line leaves of that
--     rooms_left r      how many more bytes are taken at most
use Rattle.std.specs.Prelude.{ℕ, ◌+◌, List, [], ◌∷◌, ◌++◌, Option, Some, None, Result, Ok, Err}
use Rattle.drat_text.specs.Taking.{Leads}
use Rattle.session_text.specs.declared.format.Format.{Format}
use Rattle.session_text.specs.declared.format.Format.TheVariants.{Icnf, Lidrup}
use Rattle.session_text.specs.declared.line.LineKind.{LineKind}
use Rattle.session_text.specs.declared.reader.SessionReader.{SessionReader}
use Rattle.session_text.specs.NextLine.{bytes_left, left_to_say, line_read, room_left}
use Rattle.session_text.specs.Outcomes.{Line, Outcome, with_line}
use Rattle.session_text.specs.Texts.{outcome_of}
use Rattle.session_check.specs.Lines.{BeforeFault, Joins, LinesBy, Make, Texts, alone, both}
use Rattle.session_check.specs.declared.fault.RunFault.{RunFault}
use Rattle.session_check.specs.declared.lines.Ahead.{Ahead}
use Rattle.session_check.specs.declared.lines.Ahead.TheVariants.{End, Next, Unread}
use Rattle.session_check.specs.declared.lines.SessionLines.{SessionLines}

-- an outcome behind these lines
abbrev pub behind : List Line → Outcome → Outcome
behind ls o = (ls ++ o.0, o.1)

module _ {R : Type 0} (remaining : R → Option (List ℕ)) where
  -- of a text these lines were read
  abbrev pub At : Format → SessionReader R → Option (List ℕ) → List Line → Type 0
  At format r known ls = Leads known (bytes_left remaining r) (outcome_of format)
      (λ more. behind ls (left_to_say r more))

  -- these, and one of this kind
  abbrev pub AtLine : Format → SessionReader R → LineKind → Option (List ℕ) → List Line → Type 0
  AtLine format r kind known ls = Leads known (bytes_left remaining r) (outcome_of format)
      (λ more. behind ls (with_line (line_read r kind) (left_to_say r more)))

  -- of an interaction these were taken, and this comes next
  abbrev pub AheadOf : Ahead → SessionReader R → Option (List ℕ) → List Line → Type 0
  AheadOf Unread r known ls = At Icnf r known ls
  AheadOf (Next kind) r known ls = AtLine Icnf r kind known ls
  AheadOf End r known ls = Make Icnf known ls

module _ {P I : Type 0} (proof : P → Option (List ℕ)) (interaction : I → Option (List ℕ)) where
  -- by what is said of the lines of the proof
  abbrev pub ReadsBy : (Option (List ℕ) → List Line → Type 0) → Texts → List Line →
      Option (SessionReader I) → Ahead → Type 0
  ReadsBy says (alone known) lines None ahead = says known lines
  ReadsBy says (alone known) lines (Some r) ahead = ⊥
  ReadsBy says (both i p) lines None ahead = ⊥
  ReadsBy says (both i p) lines (Some r) ahead =
      (told : List Line) × Joins (AheadOf interaction ahead r) says i p told lines

  -- these lines of a session were read
  abbrev pub Reads : Texts → List Line → SessionLines P I → Type 0
  Reads known lines r = ReadsBy (At proof Lidrup r.proof) known lines r.interaction r.ahead

  -- and of the proof one of this kind
  abbrev pub ReadsLine : Texts → List Line → SessionLines P I → LineKind → Type 0
  ReadsLine known lines r kind =
      ReadsBy (AtLine proof Lidrup r.proof kind) known lines r.interaction r.ahead

  -- or the proof to its end
  abbrev pub ReadsProof : Texts → List Line → SessionLines P I → Type 0
  ReadsProof known lines r = ReadsBy (Make Lidrup) known lines r.interaction r.ahead

  -- one line more was read, or these are all, or those before a fault
  abbrev pub ReadsNext : Texts → List Line → SessionLines P I →
      Result (Option LineKind) RunFault → Type 0
  ReadsNext known lines r (Ok (Some kind)) = Reads known (lines ++ line_read r.proof kind ∷ []) r
  ReadsNext known lines r (Ok None) = (told : List Line) × LinesBy Make Make known told lines
  ReadsNext known lines r (Err fault) = (told : List Line) × BeforeFault fault known told lines

  -- one line more was read, or none, or the interaction has a fault
  abbrev pub ReadsAhead : Texts → List Line → SessionLines P I →
      Result (Option LineKind) RunFault → Type 0
  ReadsAhead known lines r (Ok (Some kind)) = Reads known (lines ++ line_read r.proof kind ∷ []) r
  ReadsAhead known lines r (Ok None) = Reads known lines r
  ReadsAhead known lines r (Err fault) = (told : List Line) × BeforeFault fault known told lines

module _ {R : Type 0} where
  -- how many more bytes of an interaction are taken at most
  abbrev pub interaction_room : Option (SessionReader R) → ℕ
  interaction_room None = 0
  interaction_room (Some r) = room_left r

module _ {P I : Type 0} where
  -- and of both texts
  abbrev pub rooms_left : SessionLines P I → ℕ
  rooms_left r = room_left r.proof + interaction_room r.interaction
