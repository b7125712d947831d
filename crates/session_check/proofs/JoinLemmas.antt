-- The lines of a session, from those of its texts.
use Rattle.std.proofs.Common.{◌≡◌, ℕ, true, false, List, [], ◌∷◌, ◌++◌, Option, None, Some, Ok, Err, refl, sym, ap, ◌∙◌, append-nil, subst}
use Rattle.std.proofs.lemmas.Bool.{true≢false}
use Rattle.session_text.specs.declared.fault.TextKind.{TextKind}
use Rattle.sat_formula.specs.declared.read_fault.LineNumber.{LineNumber}
use Rattle.sat_formula.specs.declared.read_fault.ReadFault.{ReadFault}
use Rattle.session_text.specs.declared.format.Format.{Format}
use Rattle.session_text.specs.declared.format.Format.TheVariants.{Icnf, Lidrup}
use Rattle.session_text.specs.declared.line.LineKind.{LineKind}
use Rattle.session_text.specs.declared.line.LineKind.TheVariants.{Answer, Clause, Core, Deletion, Failed, Lemma, Model, Query, Several, Trail, Values, Weakening}
use Rattle.session_text.specs.declared.reader.SessionReader.{SessionReader}
use Rattle.session_text.specs.Content.{Content, with_lits}
use Rattle.session_text.specs.NextLine.{Answers, bytes_left, content_read, line_read, spot_of}
use Rattle.session_text.specs.Outcomes.{Line}
use Rattle.session_check.specs.Interactions.{Interaction, interact, interaction_of, with_line, with_lines}
use Rattle.session_check.specs.Laws.{ToldIsSaid}
use Rattle.session_check.specs.Lines.{ArePairs, Begin, BeforeFault, IsPair, Joins, LinesBy, Make, Pair, Precede, Texts, alone, both, heard, is_alike, is_heard, is_told, joined, joined_in, own, proof_in, repeats, told_in}
use Rattle.session_check.specs.NextLine.{At, AtLine, Reads, ReadsBy}
use Rattle.session_check.specs.declared.fault.RunFault.{RunFault}
use Rattle.session_check.specs.declared.fault.RunFault.TheVariants as faults
use Rattle.session_check.specs.declared.lines.Ahead.{Ahead}
use Rattle.session_check.specs.declared.lines.Ahead.TheVariants.{End, Next, Unread}
use Rattle.session_check.specs.declared.lines.SessionLines.{SessionLines}
use Rattle.session_check.proofs.TextLemmas.{Known, ahead_begins, at_same, begins_at, line_at, line_begins, line_done, made_begins, text_made, text_preceded}

-- ---- what lines tell

untold_keeps : (a : Interaction) (kind : LineKind) (lits : List ℕ) → is_told kind ≡ false → interact a kind lits ≡ a
untold_keeps a Clause lits e = absurd (true≢false e)
untold_keeps a Lemma lits e = refl
untold_keeps a Deletion lits e = refl
untold_keeps a Weakening lits e = refl
untold_keeps a Query lits e = absurd (true≢false e)
untold_keeps a (Answer status) lits e = absurd (true≢false e)
untold_keeps a Model lits e = refl
untold_keeps a Core lits e = refl
untold_keeps a Trail lits e = refl
untold_keeps a (Several count) lits e = refl
untold_keeps a Values lits e = absurd (true≢false e)
untold_keeps a Failed lits e = absurd (true≢false e)

joined_told : (ps : List Pair) (a : Interaction) → ArePairs ps → with_lines a (joined_in ps) ≡ with_lines a (told_in ps)
unfolding with_lines
joined_told [] a h = refl
joined_told (own l ∷ ps) a h = ap (λ (x : Interaction). with_lines x (joined_in ps)) (untold_keeps a l.kind l.content.lits h.0) ∙ joined_told ps a h.1
joined_told (repeats t l ∷ ps) a h = joined_told ps (with_line a t) h.1
joined_told (heard t ∷ ps) a h = joined_told ps (with_line a t) h.1

abbrev nothing : Interaction
nothing = record { given = []; unanswered = None; queries = [] }

pub told_is_said : ToldIsSaid
told_is_said pairs h = joined_told pairs nothing h

-- the lines of the interaction ask and answer what those of the session do
pub told_same : (I P : Format → Known → List Line → Type 0) (known : Texts) (told lines : List Line) → LinesBy I P known told lines → interaction_of told ≡ interaction_of lines
told_same I P (alone k) told lines h = ap (λ (ls : List Line). interaction_of ls) h.0
told_same I P (both i p) told lines j =
    ap (λ (ls : List Line). interaction_of ls) j.repeated ∙ sym (joined_told j.pairs nothing j.paired) ∙ ap (λ (ls : List Line). interaction_of ls) (sym j.session)

-- so it is before a fault
pub fault_same : (fault : RunFault) (known : Texts) (told lines : List Line) → BeforeFault fault known told lines → interaction_of told ≡ interaction_of lines
fault_same (faults.Interaction fault) known told lines h = told_same (Precede fault) Begin known told lines h
fault_same (faults.Proof fault) known told lines h = told_same Begin (Precede fault) known told lines h
fault_same (faults.Line line cause) known told lines h = told_same Begin Begin known told lines h
fault_same (faults.Unproved line) known told lines h = told_same Begin Make known told lines h
fault_same (faults.NoAnswer line) known told lines h = absurd h
fault_same faults.OutOfMemory known told lines h = absurd h
fault_same (faults.Write e) known told lines h = absurd h

-- ---- a pair more

told_in_more : (ps : List Pair) (p : Pair) → told_in (ps ++ p ∷ []) ≡ told_in ps ++ told_in (p ∷ [])
told_in_more [] p = refl
told_in_more (own l ∷ ps) p = told_in_more ps p
told_in_more (repeats t l ∷ ps) p = ap (λ (ls : List Line). t ∷ ls) (told_in_more ps p)
told_in_more (heard t ∷ ps) p = ap (λ (ls : List Line). t ∷ ls) (told_in_more ps p)

proof_in_more : (ps : List Pair) (p : Pair) → proof_in (ps ++ p ∷ []) ≡ proof_in ps ++ proof_in (p ∷ [])
proof_in_more [] p = refl
proof_in_more (own l ∷ ps) p = ap (λ (ls : List Line). l ∷ ls) (proof_in_more ps p)
proof_in_more (repeats t l ∷ ps) p = ap (λ (ls : List Line). l ∷ ls) (proof_in_more ps p)
proof_in_more (heard t ∷ ps) p = proof_in_more ps p

joined_in_more : (ps : List Pair) (p : Pair) → joined_in (ps ++ p ∷ []) ≡ joined_in ps ++ joined p ∷ []
joined_in_more [] p = refl
joined_in_more (q ∷ ps) p = ap (λ (ls : List Line). joined q ∷ ls) (joined_in_more ps p)

are_pairs_more : (ps : List Pair) (p : Pair) → ArePairs ps → IsPair p → ArePairs (ps ++ p ∷ [])
are_pairs_more [] p h q = (q, tt)
are_pairs_more (x ∷ ps) p h q = (h.0, are_pairs_more ps p h.1 q)

-- more is said of the same lines
joins_by : {I P J Q : Known → List Line → Type 0} {i p : Known} {told lines : List Line} → ((ls : List Line) → I i ls → J i ls) → ((ls : List Line) → P p ls → Q p ls) → Joins I P i p told lines → Joins J Q i p told lines
joins_by {told = told} f g j = record {
  pairs = j.pairs;
  paired = j.paired;
  repeated = j.repeated;
  by_interaction = f told j.by_interaction;
  by_proof = g (proof_in j.pairs) j.by_proof;
  session = j.session;
}

-- a line of the proof alone
joins_own : {I P Q : Known → List Line → Type 0} {i p : Known} {told lines : List Line} (l : Line) → is_told l.kind ≡ false → (j : Joins I P i p told lines) → Q p (proof_in j.pairs ++ l ∷ []) → Joins I Q i p told (lines ++ l ∷ [])
joins_own {Q = Q} {p = p} l other j h = record {
  pairs = j.pairs ++ own l ∷ [];
  paired = are_pairs_more j.pairs (own l) j.paired other;
  repeated = j.repeated ∙ sym (told_in_more j.pairs (own l) ∙ append-nil (told_in j.pairs));
  by_interaction = j.by_interaction;
  by_proof = subst (Q p) (sym (proof_in_more j.pairs (own l))) h;
  session = ap (λ (ls : List Line). ls ++ l ∷ []) j.session ∙ sym (joined_in_more j.pairs (own l));
}

-- a line of both
joins_repeat : {I P J Q : Known → List Line → Type 0} {i p : Known} {told lines : List Line} (t l : Line) → is_alike t.kind l.kind ≡ true → (j : Joins I P i p told lines) → J i (told ++ t ∷ []) → Q p (proof_in j.pairs ++ l ∷ []) →
    Joins J Q i p (told ++ t ∷ []) (lines ++ joined (repeats t l) ∷ [])
joins_repeat {Q = Q} {p = p} t l alike j h k = record {
  pairs = j.pairs ++ repeats t l ∷ [];
  paired = are_pairs_more j.pairs (repeats t l) j.paired alike;
  repeated = ap (λ (ls : List Line). ls ++ t ∷ []) j.repeated ∙ sym (told_in_more j.pairs (repeats t l));
  by_interaction = h;
  by_proof = subst (Q p) (sym (proof_in_more j.pairs (repeats t l))) k;
  session = ap (λ (ls : List Line). ls ++ joined (repeats t l) ∷ []) j.session ∙ sym (joined_in_more j.pairs (repeats t l));
}

-- a line of the interaction alone
joins_heard : {I P J Q : Known → List Line → Type 0} {i p : Known} {told lines : List Line} (t : Line) → is_heard t.kind ≡ true → ((ls : List Line) → P p ls → Q p ls) → (j : Joins I P i p told lines) → J i (told ++ t ∷ []) →
    Joins J Q i p (told ++ t ∷ []) (lines ++ t ∷ [])
joins_heard {Q = Q} {p = p} t alone_there g j h = record {
  pairs = j.pairs ++ heard t ∷ [];
  paired = are_pairs_more j.pairs (heard t) j.paired alone_there;
  repeated = ap (λ (ls : List Line). ls ++ t ∷ []) j.repeated ∙ sym (told_in_more j.pairs (heard t));
  by_interaction = h;
  by_proof = subst (Q p) (sym (proof_in_more j.pairs (heard t) ∙ append-nil (proof_in j.pairs))) (g (proof_in j.pairs) j.by_proof);
  session = ap (λ (ls : List Line). ls ++ t ∷ []) j.session ∙ sym (joined_in_more j.pairs (heard t));
}

pub lines_begin : (known : Texts) (told lines : List Line) → LinesBy Make Make known told lines → LinesBy Begin Begin known told lines
lines_begin (alone k) told lines h = (h.0, made_begins Lidrup k lines h.1)
lines_begin (both i p) told lines j = joins_by (made_begins Icnf i) (made_begins Lidrup p) j

-- ---- the readers

module _ {R S : Type 0} (proof : R → Known) (interaction : S → Known) where
  -- more is said of the lines of the proof
  pub reads_as : (P Q : Known → List Line → Type 0) (known : Texts) (lines : List Line) (r : Option (SessionReader S)) (ahead : Ahead) → ((k : Known) (ls : List Line) → P k ls → Q k ls) →
      ReadsBy proof interaction P known lines r ahead → ReadsBy proof interaction Q known lines r ahead
  reads_as P Q (alone k) lines None ahead f h = f k lines h
  reads_as P Q (alone k) lines (Some r) ahead f h = absurd h
  reads_as P Q (both i p) lines None ahead f h = absurd h
  reads_as P Q (both i p) lines (Some r) ahead f h = (h.0, joins_by (λ ls x. x) (f p) h.1)

  -- the interaction begins so
  pub reads_begin : (P : Format → Known → List Line → Type 0) (known : Texts) (lines : List Line) (r : Option (SessionReader S)) (ahead : Ahead) → ReadsBy proof interaction (P Lidrup) known lines r ahead →
      (told : List Line) × LinesBy Begin P known told lines
  reads_begin P (alone k) lines None ahead h = (lines, (refl, h))
  reads_begin P (alone k) lines (Some r) ahead h = absurd h
  reads_begin P (both i p) lines None ahead h = absurd h
  reads_begin P (both i p) lines (Some r) ahead h = (h.0, joins_by (ahead_begins interaction ahead r i) (λ ls x. x) h.1)

  -- ---- the interaction

  -- the next line of it is read, and not taken yet
  pub ahead_read : (P : Known → List Line → Type 0) (known : Texts) (lines : List Line) (s t : SessionReader S) (kind : LineKind) → Answers interaction s t (Ok (Some kind)) →
      ReadsBy proof interaction P known lines (Some s) Unread → ReadsBy proof interaction P known lines (Some t) (Next kind)
  ahead_read P (alone k) lines s t kind answers h = absurd h
  ahead_read P (both i p) lines s t kind answers h = (h.0, joins_by (λ ls x. line_at interaction Icnf s t kind i ls answers x) (λ ls x. x) h.1)

  -- it has ended
  pub ahead_ended : (P : Known → List Line → Type 0) (known : Texts) (lines : List Line) (s t : SessionReader S) → Answers interaction s t (Ok None) →
      ReadsBy proof interaction P known lines (Some s) Unread → ReadsBy proof interaction P known lines (Some t) End
  ahead_ended P (alone k) lines s t answers h = absurd h
  ahead_ended P (both i p) lines s t answers h = (h.0, joins_by (λ ls x. text_made interaction Icnf s t i ls answers x) (λ ls x. x) h.1)

  -- it has a fault
  pub ahead_fault : (P : Known → List Line → Type 0) (known : Texts) (lines : List Line) (s t : SessionReader S) (fault : ReadFault LineNumber TextKind) → ((k : Known) (ls : List Line) → P k ls → Begin Lidrup k ls) →
      Answers interaction s t (Err fault) → ReadsBy proof interaction P known lines (Some s) Unread → (told : List Line) × LinesBy (Precede fault) Begin known told lines
  ahead_fault P (alone k) lines s t fault f answers h = absurd h
  ahead_fault P (both i p) lines s t fault f answers h = (h.0, joins_by (λ ls x. text_preceded interaction Icnf s t fault i ls answers x) (f p) h.1)

  -- a line of it alone was taken
  pub heard_read : (known : Texts) (lines : List Line) (r q : SessionReader R) (s t u : SessionReader S) (kind : LineKind) → is_heard kind ≡ true → Answers interaction s t (Ok (Some kind)) →
      content_read q ≡ content_read t → bytes_left proof q ≡ bytes_left proof r → spot_of q ≡ spot_of r → bytes_left interaction u ≡ bytes_left interaction t → spot_of u ≡ spot_of t →
      ReadsBy proof interaction (At proof Lidrup r) known lines (Some s) Unread → ReadsBy proof interaction (At proof Lidrup q) known (lines ++ line_read q kind ∷ []) (Some u) Unread
  heard_read (alone k) lines r q s t u kind there answers content b e b' e' h = absurd h
  heard_read (both i p) lines r q s t u kind there answers content b e b' e' h =
      subst (λ (c : Content). ReadsBy proof interaction (At proof Lidrup q) (both i p) (lines ++ record { kind = kind; content = c } ∷ []) (Some u) Unread) (sym content) (
        h.0 ++ line_read t kind ∷ [],
        joins_heard (line_read t kind) there (λ ls x. at_same proof Lidrup r q p ls b e x) h.1
            (at_same interaction Icnf t u i (h.0 ++ line_read t kind ∷ []) b' e'
            (line_done interaction Icnf t kind i h.0 (line_at interaction Icnf s t kind i h.0 answers h.1.by_interaction))),
      )

  -- ---- the proof

  -- the proof's own line
  pub own_read : (known : Texts) (lines : List Line) (r : SessionReader R) (s : Option (SessionReader S)) (ahead : Ahead) (kind : LineKind) → is_told kind ≡ false →
      ReadsBy proof interaction (AtLine proof Lidrup r kind) known lines s ahead → ReadsBy proof interaction (At proof Lidrup r) known (lines ++ line_read r kind ∷ []) s ahead
  own_read (alone k) lines r None ahead kind other h = line_done proof Lidrup r kind k lines h
  own_read (alone k) lines r (Some s) ahead kind other h = absurd h
  own_read (both i p) lines r None ahead kind other h = absurd h
  own_read (both i p) lines r (Some s) ahead kind other h = (h.0, joins_own (line_read r kind) other h.1 (line_done proof Lidrup r kind p (proof_in h.1.pairs) h.1.by_proof))

  -- it tells the session itself
  pub alone_read : (known : Texts) (lines : List Line) (r : SessionReader R) (ahead : Ahead) (kind : LineKind) → ReadsBy proof interaction (AtLine proof Lidrup r kind) known lines None ahead →
      ReadsBy proof interaction (At proof Lidrup r) known (lines ++ line_read r kind ∷ []) None ahead
  alone_read (alone k) lines r ahead kind h = line_done proof Lidrup r kind k lines h
  alone_read (both i p) lines r ahead kind h = absurd h

  pub alone_ended : (known : Texts) (lines : List Line) (ahead : Ahead) → ReadsBy proof interaction (Make Lidrup) known lines None ahead → (told : List Line) × LinesBy Make Make known told lines
  alone_ended (alone k) lines ahead h = (lines, (refl, h))
  alone_ended (both i p) lines ahead h = absurd h

  -- it repeats what was told next
  pub repeat_read : (known : Texts) (lines : List Line) (r q : SessionReader R) (t u : SessionReader S) (kind told : LineKind) → is_alike told kind ≡ true →
      content_read q ≡ with_lits (content_read r) (content_read t).lits → bytes_left proof q ≡ bytes_left proof r → spot_of q ≡ spot_of r → bytes_left interaction u ≡ bytes_left interaction t →
      spot_of u ≡ spot_of t → ReadsBy proof interaction (AtLine proof Lidrup r kind) known lines (Some t) (Next told) → ReadsBy proof interaction (At proof Lidrup q) known (lines ++ line_read q told ∷ []) (Some u) Unread
  repeat_read (alone k) lines r q t u kind told alike content b e b' e' h = absurd h
  repeat_read (both i p) lines r q t u kind told alike content b e b' e' h =
      let all = proof_in h.1.pairs ++ line_read r kind ∷ [] in
      subst (λ (c : Content). ReadsBy proof interaction (At proof Lidrup q) (both i p) (lines ++ record { kind = told; content = c } ∷ []) (Some u) Unread) (sym content) (
        h.0 ++ line_read t told ∷ [],
        joins_repeat (line_read t told) (line_read r kind) alike h.1
            (at_same interaction Icnf t u i (h.0 ++ line_read t told ∷ []) b' e' (line_done interaction Icnf t told i h.0 h.1.by_interaction))
            (at_same proof Lidrup r q p all b e (line_done proof Lidrup r kind p (proof_in h.1.pairs) h.1.by_proof)),
      )

  -- both have ended
  pub both_ended : (known : Texts) (lines : List Line) (s : SessionReader S) → ReadsBy proof interaction (Make Lidrup) known lines (Some s) End → (told : List Line) × LinesBy Make Make known told lines
  both_ended (alone k) lines s h = absurd h
  both_ended (both i p) lines s h = (h.0, h.1)

  -- the texts begin so
  pub reads_begun : (known : Texts) (r : SessionLines R S) (ls : List Line) → Reads proof interaction known ls r → (told : List Line) × LinesBy Begin Begin known told ls
  reads_begun known r ls h =
      reads_begin Begin known ls r.interaction r.ahead (reads_as (At proof Lidrup r.proof) (Begin Lidrup) known ls r.interaction r.ahead (begins_at proof Lidrup r.proof) h)

  -- a line more of the proof was read, which is still to be taken
  pub proof_line : (known : Texts) (lines : List Line) (old new : SessionReader R) (s : Option (SessionReader S)) (ahead : Ahead) (kind : LineKind) → Answers proof old new (Ok (Some kind)) →
      ReadsBy proof interaction (At proof Lidrup old) known lines s ahead → ReadsBy proof interaction (AtLine proof Lidrup new kind) known lines s ahead
  proof_line known lines old new s ahead kind answers h =
      reads_as (At proof Lidrup old) (AtLine proof Lidrup new kind) known lines s ahead (λ k ls p. line_at proof Lidrup old new kind k ls answers p) h

  -- it has a fault
  pub proof_fault : (known : Texts) (lines : List Line) (old new : SessionReader R) (s : Option (SessionReader S)) (ahead : Ahead) (fault : ReadFault LineNumber TextKind) → Answers proof old new (Err fault) →
      ReadsBy proof interaction (At proof Lidrup old) known lines s ahead → (told : List Line) × LinesBy Begin (Precede fault) known told lines
  proof_fault known lines old new s ahead fault answers h =
      reads_begin (Precede fault) known lines s ahead
      (reads_as (At proof Lidrup old) (Precede fault Lidrup) known lines s ahead (λ k ls p. text_preceded proof Lidrup old new fault k ls answers p) h)

  -- it ends
  pub proof_ended : (known : Texts) (lines : List Line) (old new : SessionReader R) (s : Option (SessionReader S)) (ahead : Ahead) → Answers proof old new (Ok None) →
      ReadsBy proof interaction (At proof Lidrup old) known lines s ahead → ReadsBy proof interaction (Make Lidrup) known lines s ahead
  proof_ended known lines old new s ahead answers h =
      reads_as (At proof Lidrup old) (Make Lidrup) known lines s ahead (λ k ls p. text_made proof Lidrup old new k ls answers p) h

  -- it ends before the interaction
  pub unproved : (known : Texts) (lines : List Line) (s : Option (SessionReader S)) (ahead : Ahead) → ReadsBy proof interaction (Make Lidrup) known lines s ahead → (told : List Line) × LinesBy Begin Make known told lines
  unproved known lines s ahead h = reads_begin Make known lines s ahead h

  -- the line is not taken
  pub line_begun : (known : Texts) (lines : List Line) (r : SessionReader R) (s : Option (SessionReader S)) (ahead : Ahead) (kind : LineKind) → ReadsBy proof interaction (AtLine proof Lidrup r kind) known lines s ahead →
      (told : List Line) × LinesBy Begin Begin known told lines
  line_begun known lines r s ahead kind h =
      reads_begin Begin known lines s ahead (reads_as (AtLine proof Lidrup r kind) (Begin Lidrup) known lines s ahead (line_begins proof Lidrup r kind) h)
