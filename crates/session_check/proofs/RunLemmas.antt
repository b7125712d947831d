-- A run, a line after the other.
use Rattle.std.proofs.Common.{◌≡◌, ℕ, false, List, [], ◌∷◌, ◌++◌, Option, None, Some, Result, Ok, Err, refl, sym, ap, ◌∙◌, append-nil, subst}
use Rattle.std.specs.Io.KnownBytes.{Appends}
use Rattle.std.proofs.KnownBytes.{Appends-nil, Appends-trans}
pub use Rattle.sat_formula.specs.Readings.{Known}
use Rattle.sat_output.proofs.Beginnings.{begins_past, begins_whole}
use Rattle.whole_writes.specs.Beginnings.{AppendsBeginning}
use Rattle.session_text.specs.declared.line.LineKind.{LineKind}
use Rattle.session_text.specs.Content.{Content}
use Rattle.session_text.specs.Outcomes.{Line}
use Rattle.session_check.specs.Counts.{counted, last_line, no_counts}
use Rattle.session_check.specs.Interactions.{AllShown, Interaction, interaction_of, with_lines}
use Rattle.session_check.specs.Lines.{Begin, BeforeFault, LinesBy, Make, Texts}
use Rattle.session_check.specs.Progress.{Closes, IsFresh, IsJudged, IsUnanswered, Pending, Plays, Progress, Takes, settled, with_report}
use Rattle.session_check.specs.Reports.{report_line}
use Rattle.session_check.specs.Runs.{BreaksOff, CutsOff, EndsPart, Finishes, IsCut, IsRun, Leaves, LeavesOne, Shows, ShowsAll, ShowsBut, Tells, TellsPart, Told, among, at_last, at_last_line, at_report, listed, stop_fault, tell_all, told}
use Rattle.session_check.specs.declared.counts.Counts.{Counts}
use Rattle.session_check.specs.declared.fault.RunFault.{RunFault}
use Rattle.session_check.specs.declared.fault.RunFault.TheVariants as faults
use Rattle.session_check.specs.declared.fault.Stop.{Stop}
use Rattle.session_check.specs.declared.fault.Stop.TheVariants as stops
use Rattle.session_check.specs.declared.report.Report.{Report}
use Rattle.session_check.proofs.InteractionLemmas.{Stands, all_but_one, all_reported, lines_more, plays_more, shows_but, stands_closed, stands_on, told_more, unanswered_in, unreported_in}
use Rattle.session_check.proofs.JoinLemmas.{fault_same, lines_begin, told_same}

-- what is known of the lines that were read
abbrev pub At : Type 1
At = List Line → Type 0

-- they begin the session
abbrev pub Begins : Texts → At → Type 0
Begins known at = (ls : List Line) → at ls → (told : List Line) × LinesBy Begin Begin known told ls

-- ---- a run so far

-- the lines that were read, and the reports that were written
pub record SoFar (at : List Line → Type 0) (before after : Known) (p : Progress) (counts : Counts) : Type 0 where
  pub lines : List Line
  pub reports : List Report
  pub reads : at lines
  pub stands : Stands (interaction_of lines) reports p
  pub counted : (told reports).counts ≡ counts
  pub written : Appends before after (told reports).text
  pub first : Progress
  pub fresh : IsFresh first
  pub played : Plays first lines reports p

pub so_far_start : (at : At) (before : Known) (p : Progress) (counts : Counts) → at [] → IsFresh p → counts ≡ no_counts → SoFar at before before p counts
unfolding with_lines tell_all Plays
so_far_start at before p counts r h c = record {
  lines = [];
  reports = [];
  reads = r;
  stands = record {
    reported = [];
    queries = sym (ap (λ (o : Pending). listed (unreported_in p.given o)) h.3);
    shown = tt;
    given = sym h.0;
    unanswered = sym (ap unanswered_in h.3);
  };
  counted = sym c;
  written = Appends-nil before;
  first = p;
  fresh = h;
  played = (refl, refl);
}

-- what is told is what the lines ask and answer
shows_told : {a b : Interaction} (rs : List Report) → a ≡ b → ShowsBut b rs → ShowsBut a rs
shows_told rs e h = subst (λ x. ShowsBut x rs) (sym e) h

shows_lines : (known : Texts) (at : At) (ls : List Line) (rs : List Report) → Begins known at → at ls → ShowsBut (interaction_of ls) rs → Shows known rs
shows_lines known at ls rs begins r h = let b = begins ls r in (b.0, ls, b.1, shows_told rs (told_same Begin Begin known b.0 ls b.1) h)

-- the texts begin so, whatever comes next
shows_some : (known : Texts) {at : At} {before after : Known} {p : Progress} {counts : Counts} → Begins known at → (s : SoFar at before after p counts) → Shows known s.reports
shows_some known {at} begins s = shows_lines known at s.lines s.reports begins s.reads (shows_but s.stands)

-- an error before anything more is written
pub cut_here : (known : Texts) {at : At} {before after : Known} {p : Progress} {counts : Counts} → Begins known at → SoFar at before after p counts → IsCut known before after
cut_here known {before = before} {after = after} begins s = among s.reports (shows_some known begins s) (begins_whole before after (told s.reports).text s.written)

-- before the first line
abbrev nothing_yet : Progress
nothing_yet = record { given = []; named = λ k. None; broken = false; pending = settled; more = 0 }

pub cut_first : (known : Texts) (at : At) (before : Known) → Begins known at → at [] → IsCut known before before
cut_first known at before begins r = cut_here known begins (so_far_start at before nothing_yet no_counts r (refl, λ k. refl, refl, refl, refl) refl)

-- a line is not taken
pub stopped_run : (known : Texts) {at : At} {before after : Known} {p : Progress} {counts : Counts} (stop : Stop) (line : ℕ) → Begins known at → SoFar at before after p counts →
    Leaves known before after (stop_fault stop line)
stopped_run known (stops.Line cause) line begins s = (s.reports, shows_some known begins s, s.written)
stopped_run known stops.OutOfMemory line begins s = cut_here known begins s

-- the next line can't be read
pub faulty_run : (known : Texts) {at : At} {before after : Known} {p : Progress} {counts : Counts} (fault : RunFault) (s : SoFar at before after p counts) →
    (told : List Line) × BeforeFault fault known told s.lines → Leaves known before after fault
faulty_run known (faults.Interaction fault) s h =
    (s.reports, (h.0, s.lines, h.1, shows_told s.reports (fault_same (faults.Interaction fault) known h.0 s.lines h.1) (shows_but s.stands)), s.written)
faulty_run known (faults.Proof fault) s h = (s.reports, (h.0, s.lines, h.1, shows_told s.reports (fault_same (faults.Proof fault) known h.0 s.lines h.1) (shows_but s.stands)), s.written)
faulty_run known (faults.Line line cause) s h =
    (s.reports, (h.0, s.lines, h.1, shows_told s.reports (fault_same (faults.Line line cause) known h.0 s.lines h.1) (shows_but s.stands)), s.written)
faulty_run known (faults.Unproved line) s h =
    (s.reports, (h.0, s.lines, h.1, shows_told s.reports (fault_same (faults.Unproved line) known h.0 s.lines h.1) (shows_but s.stands)), s.written)
faulty_run known (faults.NoAnswer line) s h = absurd h.1
faulty_run known faults.OutOfMemory s h = absurd h.1
faulty_run known (faults.Write e) s h = absurd h.1

-- what is written of a report more
tells_counts : (rs : List Report) (old new : Counts) (r : Option Report) (before mid after : Known) → (told rs).counts ≡ old → Appends before mid (told rs).text → Tells old new r mid after →
    ((told (with_report rs r)).counts ≡ new) × Appends before after (told (with_report rs r)).text
tells_counts rs old new None before mid after e w t = (e ∙ sym t.0, subst (λ x. Appends before x (told rs).text) (sym t.1) w)
tells_counts rs old new (Some r) before mid after e w t =
    let counts : (told (rs ++ r ∷ [])).counts ≡ new = ap (λ (x : Told). x.counts) (told_more _ rs r) ∙ ap (λ (c : Counts). counted c r) e ∙ sym t.0 in
    let line : report_line (counted (told rs).counts r).queries r ≡ report_line new.queries r = ap (λ (c : Counts). report_line (counted c r).queries r) e ∙ ap (λ (c : Counts). report_line c.queries r) (sym t.0) in (
      counts,
      subst (Appends before after) (sym (ap (λ (x : Told). x.text) (told_more _ rs r) ∙ ap (λ (l : List ℕ). (told rs).text ++ l) line)) (Appends-trans before mid after _ _ w t.1),
    )

-- a beginning of that
tells_part : (rs : List Report) (old : Counts) (r : Option Report) (before mid after : Known) → (told rs).counts ≡ old → Appends before mid (told rs).text → TellsPart old r mid after →
    AppendsBeginning before after (told (with_report rs r)).text
tells_part rs old None before mid after e w t = absurd t
tells_part rs old (Some r) before mid after e w t =
    let line : report_line (counted (told rs).counts r).queries r ≡ report_line (counted old r).queries r = ap (λ (c : Counts). report_line (counted c r).queries r) e in
    subst (AppendsBeginning before after) (sym (ap (λ (x : Told). x.text) (told_more _ rs r) ∙ ap (λ (l : List ℕ). (told rs).text ++ l) line)) (begins_past before mid after _ _ w t)

-- a line was read, and taken
pub record LineTaken (at : List Line → Type 0) (before after : Known) (p : Progress) (counts : Counts) (r : Option Report) : Type 0 where
  pub lines : List Line
  pub reports : List Report
  pub reads : at lines
  pub stands : Stands (interaction_of lines) (with_report reports r) p
  pub counted : (told reports).counts ≡ counts
  pub written : Appends before after (told reports).text
  pub first : Progress
  pub fresh : IsFresh first
  pub played : Plays first lines (with_report reports r) p

pub line_taken : {at : At} (next : At) {before after : Known} {p q : Progress} {counts : Counts} (r : Option Report) (kind : LineKind) (content : Content) (s : SoFar at before after p counts) →
    next (s.lines ++ record { kind = kind; content = content } ∷ []) → Takes kind content p r q → LineTaken next before after q counts r
line_taken next {p = p} {q = q} r kind content s l t =
    let line : Line = record { kind = kind; content = content } in
    record {
      lines = s.lines ++ line ∷ [];
      reports = s.reports;
      reads = l;
      stands = subst (λ a. Stands a (with_report s.reports r) q) (sym (lines_more _ s.lines line)) (stands_on _ s.reports p kind content r q s.stands t);
      counted = s.counted;
      written = s.written;
      first = s.first;
      fresh = s.fresh;
      played = plays_more s.first s.lines s.reports p line r q s.played t;
    }

-- its report is written
pub so_far_on : {at : At} {before mid after : Known} {p : Progress} {old new : Counts} (r : Option Report) → LineTaken at before mid p old r → Tells old new r mid after → SoFar at before after p new
so_far_on {before = before} {mid = mid} {after = after} {old = old} {new = new} r s t =
    let w = tells_counts s.reports old new r before mid after s.counted s.written t in
    record {
      lines = s.lines;
      reports = with_report s.reports r;
      reads = s.reads;
      stands = s.stands;
      counted = w.0;
      written = w.1;
      first = s.first;
      fresh = s.fresh;
      played = s.played;
    }

-- the texts begin so, whatever comes next
taken_some : (known : Texts) {at : At} {before mid : Known} {p : Progress} {old : Counts} {r : Option Report} → Begins known at → (s : LineTaken at before mid p old r) → Shows known (with_report s.reports r)
taken_some known {at} {r = r} begins s = shows_lines known at s.lines (with_report s.reports r) begins s.reads (shows_but s.stands)

-- or a beginning of it
pub cut_report : (known : Texts) {at : At} {before mid : Known} {p : Progress} {old : Counts} (after : Known) (r : Option Report) (fault : RunFault) → Begins known at → LineTaken at before mid p old r →
    CutsOff (TellsPart old r mid after) fault → Leaves known before after fault
cut_report known after r (faults.Interaction fault) begins s t = absurd t
cut_report known after r (faults.Proof fault) begins s t = absurd t
cut_report known after r (faults.Line line cause) begins s t = absurd t
cut_report known after r (faults.Unproved line) begins s t = absurd t
cut_report known after r (faults.NoAnswer line) begins s t = absurd t
cut_report known {before = before} {mid = mid} {old = old} after r faults.OutOfMemory begins s t =
    among (with_report s.reports r) (taken_some known begins s) (tells_part s.reports old r before mid after s.counted s.written t)
cut_report known {before = before} {mid = mid} {old = old} after r (faults.Write e) begins s t =
    among (with_report s.reports r) (taken_some known begins s) (tells_part s.reports old r before mid after s.counted s.written t)

-- ---- the end of the texts

-- the lines are all
abbrev pub Whole : Texts → List Line → Type 0
Whole known ls = (told : List Line) × LinesBy Make Make known told ls

some_of : (known : Texts) (rs : List Report) → ShowsAll known rs → Shows known rs
some_of known rs h = (
  h.0,
  h.1,
  lines_begin known h.0 h.1 h.2,
  record { reported = (interaction_of h.0).queries; unreported = None; queries = sym (append-nil (interaction_of h.0).queries); shown = h.4 },
)

shows_all : (known : Texts) {at : At} {before after : Known} {p : Progress} {counts : Counts} (r : Option Report) (s : SoFar at before after p counts) → Whole known s.lines → Closes p.pending r →
    ShowsAll known (with_report s.reports r)
shows_all known {p = p} r s e c =
    let same = sym (told_same Make Make known e.0 s.lines e.1) in
    let all = all_reported _ (with_report s.reports r) p (stands_closed _ s.reports p r s.stands c) in
    let judged : IsJudged s.lines (with_report s.reports r) = record { first = s.first; fresh = s.fresh; last = p; reports = s.reports; end = r; plays = s.played; closes = c; all = refl } in (
      e.0,
      s.lines,
      e.1,
      subst (λ (a : Interaction). a.unanswered ≡ None) same all.0,
      subst (λ (a : Interaction). AllShown a.queries (with_report s.reports r)) same all.1,
      judged,
    )

leaves_one : (known : Texts) {at : At} {before after : Known} {p : Progress} {counts : Counts} (s : SoFar at before after p counts) → Whole known s.lines → IsUnanswered p.pending → LeavesOne known s.reports
leaves_one known {p = p} s e u =
    let same = sym (told_same Make Make known e.0 s.lines e.1) in
    let all = all_but_one _ s.reports p s.stands u in (
      e.0,
      s.lines,
      e.1,
      subst (λ (a : Interaction). (assumed : List ℕ) × (a.unanswered ≡ Some assumed)) same all.0,
      subst (λ (a : Interaction). AllShown a.queries s.reports) same all.1,
    )

-- the end was cut off
ends_part : (known : Texts) {at : At} {before mid : Known} (after : Known) {p : Progress} {counts : Counts} (s : SoFar at before mid p counts) → Whole known s.lines → EndsPart p counts mid after →
    IsCut known before after
ends_part known {before = before} {mid = mid} after {counts = counts} s e (at_report r c t) =
    among (with_report s.reports r) (some_of known (with_report s.reports r) (shows_all known r s e c)) (tells_part s.reports counts r before mid after s.counted s.written t)
ends_part known {before = before} {mid = mid} after {counts = counts} s e (at_last_line r new part c t b) =
    let w = tells_counts s.reports counts new r before mid part s.counted s.written t in
    at_last (with_report s.reports r) (shows_all known r s e c)
    (subst (λ k. AppendsBeginning before after ((told (with_report s.reports r)).text ++ last_line k)) (sym w.0) (begins_past before part after _ _ w.1 b))

-- an error among the last lines
pub finish_cut : (p : Progress) (old : Counts) (before after : Known) {part : Type 0} (fault : RunFault) → (part → EndsPart p old before after) → CutsOff part fault →
    BreaksOff p old before after fault
finish_cut p old before after (faults.Interaction fault) g h = absurd h
finish_cut p old before after (faults.Proof fault) g h = absurd h
finish_cut p old before after (faults.Line line cause) g h = absurd h
finish_cut p old before after (faults.Unproved line) g h = absurd h
finish_cut p old before after (faults.NoAnswer line) g h = absurd h
finish_cut p old before after faults.OutOfMemory g h = g h
finish_cut p old before after (faults.Write e) g h = g h

pub ended_run : (known : Texts) {at : At} {before mid : Known} (after : Known) {p : Progress} {counts : Counts} (result : Result Counts RunFault) (s : SoFar at before mid p counts) →
    Whole known s.lines → Finishes p counts mid after result → IsRun known before after result
ended_run known {before = before} {mid = mid} after {counts = counts} (Ok new) s e h =
    let w = tells_counts s.reports counts new h.0 before mid h.2 s.counted s.written h.3 in
    (with_report s.reports h.0, shows_all known h.0 s e h.1, w.0, Appends-trans before h.2 after _ _ w.1 h.4)
ended_run known after (Err (faults.Interaction fault)) s e h = absurd h
ended_run known after (Err (faults.Proof fault)) s e h = absurd h
ended_run known after (Err (faults.Line line cause)) s e h = absurd h
ended_run known after (Err (faults.Unproved line)) s e h = absurd h
ended_run known {before = before} after (Err (faults.NoAnswer line)) s e h = (s.reports, leaves_one known s e h.0, subst (λ x. Appends before x (told s.reports).text) (sym h.1) s.written)
ended_run known after (Err faults.OutOfMemory) s e h = ends_part known after s e h
ended_run known after (Err (faults.Write fault)) s e h = ends_part known after s e h
