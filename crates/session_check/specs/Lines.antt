-- The lines of a session, by those of its texts.
--     Texts      a proof alone, or an interaction and its proof
--     Pair, joined p      a line of the proof, perhaps with the one of the interaction that it repeats, or one of the interaction alone;  the line of the session
--     LinesBy I P texts told lines      these are the lines of a session, and told are those of the text that tells it
use Rattle.std.specs.Prelude.{◌≡◌, ℕ, Bool, true, false, List, [], ◌∷◌, ◌++◌, Option, IfSome}
use Rattle.session_text.specs.declared.fault.TextKind.{TextKind}
use Rattle.sat_formula.specs.declared.read_fault.LineNumber.{LineNumber}
use Rattle.sat_formula.specs.declared.read_fault.ReadFault.{ReadFault}
use Rattle.sat_formula.specs.declared.read_fault.ReadFault.TheVariants as texts
use Rattle.session_text.specs.declared.format.Format.{Format}
use Rattle.session_text.specs.declared.format.Format.TheVariants.{Icnf, Lidrup}
use Rattle.session_text.specs.declared.line.LineKind.{LineKind}
use Rattle.session_text.specs.declared.line.LineKind.TheVariants.{Answer, Clause, Core, Deletion, Failed, Lemma, Model, Query, Several, Trail, Values, Weakening}
use Rattle.session_text.specs.Content.{with_lits}
use Rattle.session_text.specs.Outcomes.{Ended, Faulty, Line}
use Rattle.session_text.specs.Texts.{outcome_of}
use Rattle.session_check.specs.declared.fault.RunFault.{RunFault}
use Rattle.session_check.specs.declared.fault.RunFault.TheVariants as faults

-- the bytes of a proof alone, or of an interaction and its proof, where they are known
pub data Texts : Type 0 where
  alone : (proof : Option (List ℕ)) → Texts
  both : (interaction proof : Option (List ℕ)) → Texts

-- what an application tells: clauses, queries, the answers that it got, and what it was told of them
abbrev pub is_told : LineKind → Bool
is_told Clause = true
is_told Lemma = false
is_told Deletion = false
is_told Weakening = false
is_told Query = true
is_told (Answer status) = true
is_told Model = false
is_told Core = false
is_told Trail = false
is_told (Several count) = false
is_told Values = true
is_told Failed = true

-- what it was told of an answer: values, or a core
abbrev pub is_heard : LineKind → Bool
is_heard Clause = false
is_heard Lemma = false
is_heard Deletion = false
is_heard Weakening = false
is_heard Query = false
is_heard (Answer status) = false
is_heard Model = false
is_heard Core = false
is_heard Trail = false
is_heard (Several count) = false
is_heard Values = true
is_heard Failed = true

abbrev pub is_clause : LineKind → Bool
is_clause Clause = true
is_clause Lemma = false
is_clause Deletion = false
is_clause Weakening = false
is_clause Query = false
is_clause (Answer status) = false
is_clause Model = false
is_clause Core = false
is_clause Trail = false
is_clause (Several count) = false
is_clause Values = false
is_clause Failed = false

abbrev pub is_query : LineKind → Bool
is_query Clause = false
is_query Lemma = false
is_query Deletion = false
is_query Weakening = false
is_query Query = true
is_query (Answer status) = false
is_query Model = false
is_query Core = false
is_query Trail = false
is_query (Several count) = false
is_query Values = false
is_query Failed = false

abbrev pub is_answer : LineKind → Bool
is_answer Clause = false
is_answer Lemma = false
is_answer Deletion = false
is_answer Weakening = false
is_answer Query = false
is_answer (Answer status) = true
is_answer Model = false
is_answer Core = false
is_answer Trail = false
is_answer (Several count) = false
is_answer Values = false
is_answer Failed = false

-- a line that is told, and one of the proof that may repeat it: another answer may stand there
abbrev pub is_alike : LineKind → LineKind → Bool
is_alike Clause kind = is_clause kind
is_alike Lemma kind = false
is_alike Deletion kind = false
is_alike Weakening kind = false
is_alike Query kind = is_query kind
is_alike (Answer status) kind = is_answer kind
is_alike Model kind = false
is_alike Core kind = false
is_alike Trail kind = false
is_alike (Several count) kind = false
is_alike Values kind = false
is_alike Failed kind = false

-- a line of the proof alone, one that repeats a line of the interaction, or a line of the interaction alone
pub data Pair : Type 0 where
  own : (line : Line) → Pair
  repeats : (told line : Line) → Pair
  heard : (told : Line) → Pair

-- what is not repeated is the proof's own, and what was told of an answer is the interaction's
abbrev pub IsPair : Pair → Type 0
IsPair (own line) = is_told line.kind ≡ false
IsPair (repeats told line) = is_alike told.kind line.kind ≡ true
IsPair (heard told) = is_heard told.kind ≡ true

abbrev pub ArePairs : List Pair → Type 0
ArePairs [] = Unit {0}
ArePairs (p ∷ ps) = IsPair p × ArePairs ps

-- the line of the session: as it is told, but under the id of the proof
abbrev pub joined : Pair → Line
joined (own line) = line
joined (repeats told line) = record {
  kind = told.kind;
  content = with_lits line.content told.content.lits;
}
joined (heard told) = told

abbrev pub joined_in : List Pair → List Line
joined_in [] = []
joined_in (p ∷ ps) = joined p ∷ joined_in ps

-- those of the interaction
abbrev pub told_in : List Pair → List Line
told_in [] = []
told_in (own line ∷ ps) = told_in ps
told_in (repeats told line ∷ ps) = told ∷ told_in ps
told_in (heard told ∷ ps) = told ∷ told_in ps

-- those of the proof
abbrev pub proof_in : List Pair → List Line
proof_in [] = []
proof_in (own line ∷ ps) = line ∷ proof_in ps
proof_in (repeats told line ∷ ps) = line ∷ proof_in ps
proof_in (heard told ∷ ps) = proof_in ps

-- the lines of both texts, of which this is said, make the session: each line of the interaction is repeated, or stands there alone, in their order
pub record Joins (I P : Option (List ℕ) → List Line → Type 0) (interaction proof : Option (List ℕ))
    (told lines : List Line) : Type 0 where
  pub pairs : List Pair
  pub paired : ArePairs pairs
  pub repeated : told ≡ told_in pairs
  pub by_interaction : I interaction told
  pub by_proof : P proof (proof_in pairs)
  pub session : lines ≡ joined_in pairs

-- a proof alone tells the session itself
abbrev pub LinesBy : (I P : Format → Option (List ℕ) → List Line → Type 0) → Texts → List Line →
    List Line → Type 0
LinesBy I P (alone proof) told lines = (told ≡ lines) × P Lidrup proof lines
LinesBy I P (both interaction proof) told lines =
    Joins (I Icnf) (P Lidrup) interaction proof told lines

-- ---- the lines of a text

-- it begins with them
abbrev pub Begin : Format → Option (List ℕ) → List Line → Type 0
Begin format known ls =
    IfSome known (λ text. (more : List Line) × ((outcome_of format text).0 ≡ ls ++ more))

-- they are all
abbrev pub Make : Format → Option (List ℕ) → List Line → Type 0
Make format known ls = IfSome known (λ text. outcome_of format text ≡ (ls, Ended))

-- they are all before its fault
abbrev pub Precede : ReadFault LineNumber TextKind → Format → Option (List ℕ) → List Line → Type 0
Precede (texts.Read e) format known ls = Begin format known ls
Precede (texts.Wrong at kind) format known ls =
    IfSome known (λ text. outcome_of format text ≡ (ls, Faulty at.0 kind))
Precede texts.OutOfMemory format known ls = Begin format known ls

-- the lines before a fault of a text or of a line
abbrev pub BeforeFault : RunFault → Texts → List Line → List Line → Type 0
BeforeFault (faults.Interaction fault) known told lines =
    LinesBy (Precede fault) Begin known told lines
BeforeFault (faults.Proof fault) known told lines = LinesBy Begin (Precede fault) known told lines
BeforeFault (faults.Line line cause) known told lines = LinesBy Begin Begin known told lines
BeforeFault (faults.Unproved line) known told lines = LinesBy Begin Make known told lines
BeforeFault (faults.NoAnswer line) known told lines = ⊥
BeforeFault faults.OutOfMemory known told lines = ⊥
BeforeFault (faults.Write e) known told lines = ⊥
