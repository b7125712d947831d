-- The lines of one text.
use Rattle.std.proofs.Common.{◌≡◌, ℕ, List, [], ◌∷◌, ◌++◌, None, Some, Ok, Err, refl, sym, ap, ◌∙◌, append-nil, append_assoc, subst}
use Rattle.std.specs.Prelude.{IfSome}
pub use Rattle.sat_formula.specs.Readings.{Known}
use Rattle.sat_formula.specs.Readings.{Leads}
use Rattle.sat_formula.proofs.Readings.{ends_all, ends_on, ends_under, leads_as, leads_nil, leads_on, leads_under}
use Rattle.session_text.specs.declared.fault.TextKind.{TextKind}
use Rattle.sat_formula.specs.declared.read_fault.LineNumber.{LineNumber}
use Rattle.sat_formula.specs.declared.read_fault.ReadFault.{ReadFault}
use Rattle.sat_formula.specs.declared.read_fault.ReadFault.TheVariants as texts
use Rattle.session_text.specs.declared.format.Format.{Format}
use Rattle.session_text.specs.declared.format.Format.TheVariants.{Icnf}
use Rattle.session_text.specs.declared.line.LineKind.{LineKind}
use Rattle.session_text.specs.declared.reader.SessionReader.{SessionReader}
use Rattle.session_text.specs.declared.spot.Spot.{Spot}
use Rattle.session_text.specs.Content.{no_content}
use Rattle.session_text.specs.NextLine.{Answers, bytes_left, left_to_say, line_read, spot_of}
use Rattle.session_text.specs.automaton.Places.{start}
use Rattle.session_text.specs.Outcomes.{Ended, Ending, Faulty, Line, Outcome, with_line}
use Rattle.session_text.specs.Texts.{outcome_of}
use Rattle.session_text.specs.automaton.Texts.{outcome_at}
use Rattle.session_text.proofs.Lines.{are_lines}
use Rattle.session_check.specs.Lines.{Begin, Make, Precede}
use Rattle.session_check.specs.NextLine.{AheadOf, At, AtLine, behind}
use Rattle.session_check.specs.declared.lines.Ahead.{Ahead}
use Rattle.session_check.specs.declared.lines.Ahead.TheVariants.{End, Next, Unread}

-- ---- an outcome behind lines

behind_more : (ls : List Line) (l : Line) (o : Outcome) → behind ls (with_line l o) ≡ behind (ls ++ l ∷ []) o
behind_more ls l o = ap (λ (ms : List Line). (ms, o.1)) (sym (append_assoc ls (l ∷ []) o.0))

-- the lines that were read begin the text
text_begins : (format : Format) (a b : Known) (f : List ℕ → Outcome) (ls : List Line) → Leads a b (outcome_of format) (λ m. behind ls (f m)) → Begin format a ls
text_begins format None b f ls p = tt
text_begins format (Some t) None f ls p = absurd p.consumed
text_begins format (Some t) (Some z) f ls p = ((f z).0, ap (λ (x : List ℕ). (outcome_of format x).0) p.consumed ∙ ap (λ (o : Outcome). o.0) (p.same z))

-- what comes next ends it
outcome_by : (a b : Known) (f g : List ℕ → Outcome) (ls : List Line) (o : Outcome) → Leads a b f (λ m. behind ls (g m)) → IfSome b (λ bytes. g bytes ≡ o) → IfSome a (λ text. f text ≡ behind ls o)
outcome_by None b f g ls o p h = tt
outcome_by (Some t) None f g ls o p h = absurd p.consumed
outcome_by (Some t) (Some z) f g ls o p h = ap f p.consumed ∙ p.same z ∙ ap (behind ls) h

-- nothing is behind them
faulty_here : (known : Known) (f : List ℕ → Outcome) (ls : List Line) (e : Ending) → IfSome known (λ text. f text ≡ (ls ++ [], e)) → IfSome known (λ text. f text ≡ (ls, e))
faulty_here None f ls e h = tt
faulty_here (Some t) f ls e h = h ∙ ap (λ (ms : List Line). (ms, e)) (append-nil ls)

pub made_begins : (format : Format) (known : Known) (ls : List Line) → Make format known ls → Begin format known ls
made_begins format None ls h = tt
made_begins format (Some t) ls h = ([], ap (λ (o : Outcome). o.0) h ∙ sym (append-nil ls))

-- ---- a reader

module _ {R : Type 0} (remaining : R → Known) where
  pub at_start : (format : Format) (r : SessionReader R) (known : Known) → bytes_left remaining r ≡ known → spot_of r ≡ start format → At remaining format r known []
  at_start format r known b s =
      subst (λ k. Leads known k (outcome_of format) (λ m. behind [] (left_to_say r m))) (sym b)
      (subst (λ (x : Spot). Leads known known (outcome_of format) (λ m. behind [] (outcome_at no_content x m))) (sym s) (leads_as (leads_nil known (outcome_of format)) (λ m. sym (are_lines format m))))

  -- another line of it stands there, and all else is the same
  pub at_same : (format : Format) (r s : SessionReader R) (known : Known) (ls : List Line) → bytes_left remaining s ≡ bytes_left remaining r → spot_of s ≡ spot_of r → At remaining format r known ls →
      At remaining format s known ls
  at_same format r s known ls b e p =
      subst (λ k. Leads known k (outcome_of format) (λ m. behind ls (left_to_say s m))) (sym b)
      (subst (λ (x : Spot). Leads known (bytes_left remaining r) (outcome_of format) (λ m. behind ls (outcome_at no_content x m))) (sym e) p)

  pub begins_at : (format : Format) (r : SessionReader R) (known : Known) (ls : List Line) → At remaining format r known ls → Begin format known ls
  begins_at format r known ls p = text_begins format known (bytes_left remaining r) (left_to_say r) ls p

  -- one line more, which is still to be taken
  pub line_at : (format : Format) (old new : SessionReader R) (kind : LineKind) (known : Known) (ls : List Line) → Answers remaining old new (Ok (Some kind)) → At remaining format old known ls →
      AtLine remaining format new kind known ls
  line_at format old new kind known ls h p = leads_on p (leads_under (behind ls) h.0)

  pub line_begins : (format : Format) (r : SessionReader R) (kind : LineKind) (known : Known) (ls : List Line) → AtLine remaining format r kind known ls → Begin format known ls
  line_begins format r kind known ls p = text_begins format known (bytes_left remaining r) (λ m. with_line (line_read r kind) (left_to_say r m)) ls p

  pub line_done : (format : Format) (r : SessionReader R) (kind : LineKind) (known : Known) (ls : List Line) → AtLine remaining format r kind known ls →
      At remaining format r known (ls ++ line_read r kind ∷ [])
  line_done format r kind known ls p = leads_as p (λ m. behind_more ls (line_read r kind) (left_to_say r m))

  -- up to the end
  pub text_made : (format : Format) (old new : SessionReader R) (known : Known) (ls : List Line) → Answers remaining old new (Ok None) → At remaining format old known ls → Make format known ls
  text_made format old new known ls h p =
      faulty_here known (outcome_of format) ls Ended (ends_all known (bytes_left remaining new) (ls ++ [], Ended) (ends_on p (ends_under (behind ls) h)))

  -- up to a fault
  pub text_preceded : (format : Format) (old new : SessionReader R) (fault : ReadFault LineNumber TextKind) (known : Known) (ls : List Line) → Answers remaining old new (Err fault) → At remaining format old known ls →
      Precede fault format known ls
  text_preceded format old new (texts.Read e) known ls h p = begins_at format old known ls p
  text_preceded format old new (texts.Wrong at kind) known ls h p =
      faulty_here known (outcome_of format) ls (Faulty at.0 kind)
      (outcome_by known (bytes_left remaining old) (outcome_of format) (left_to_say old) ls ([], Faulty at.0 kind) p h)
  text_preceded format old new texts.OutOfMemory known ls h p = begins_at format old known ls p

  -- whatever comes next
  pub ahead_begins : (ahead : Ahead) (r : SessionReader R) (known : Known) (ls : List Line) → AheadOf remaining ahead r known ls → Begin Icnf known ls
  ahead_begins Unread r known ls p = begins_at Icnf r known ls p
  ahead_begins (Next kind) r known ls p = line_begins Icnf r kind known ls p
  ahead_begins End r known ls p = made_begins Icnf known ls p
