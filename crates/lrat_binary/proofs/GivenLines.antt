-- The lines of a proof that a reader gave so far.
--     HasGiven      these lines, and how the proof continues
--     taken_done, taken_all, taken_before, taken_but_one      what was done with them, by what the reader gave next
--     none_taken, not_opened      no line was asked for;  the first bytes could not be read
use Rattle.std.proofs.Common.{◌≡◌, ℕ, Bool, true, false, List, [], ◌∷◌, ◌++◌, Option, Some, None, Result, Ok, Err, refl, sym, ap, ◌∙◌, subst, append-nil, append_assoc, arith}
use Rattle.std.specs.Prelude.{IfSome}
use Rattle.std.specs.declared.io.Error.{Error}
use Rattle.std.specs.Io.KnownBytes.{Consumes}
use Rattle.std.proofs.KnownBytes.{Consumes-kept, Consumes-nil, Consumes-trans, Consumes-whole, Keeps-refl}
use Rattle.sat_formula.proofs.Readings.{continues_as, continues_on, continues_under}
use Rattle.lrat_rules.specs.Lines.{Line}
use Rattle.lrat_text.specs.NextLine as texts
use Rattle.lrat_text.specs.NextLine.{view}
use Rattle.lrat_text.specs.Texts.{Ended, Ending, Faulty, Outcome, outcome_after, with_line, with_lines}
use Rattle.sat_formula.specs.declared.read_fault.ReadFault.TheVariants as reads
use Rattle.lrat_text.specs.Faults.{LratTextFault}
use Rattle.lrat_text.specs.declared.line.LratLine.{LratLine}
use Rattle.lrat_text.proofs.LineLemmas.{with_lines-more}
use Rattle.lrat_binary.specs.Lines.{outcome_at}
use Rattle.lrat_binary.specs.Proofs.{Gives, IsCounted, IsFresh, IsNoLine, bytes_left, form_now, has_ended, line_number, lines_after, outcome_in}
use Rattle.lrat_binary.specs.TakenLines.{Begins, FailsAfter, IsCut, IsExact, IsToldForm, TakesLines, TextSays, said}
use Rattle.lrat_binary.specs.Telling.{form_of}
use Rattle.lrat_binary.specs.declared.ids.Ids.{Ids}
use Rattle.lrat_binary.specs.declared.ids.LratForm.{LratForm}
use Rattle.lrat_binary.specs.declared.ids.LratForm.TheVariants as forms
use Rattle.lrat_binary.specs.declared.proof.LratReader.{LratReader}
use Rattle.lrat_binary.specs.declared.proof.LratReader.TheVariants.{Text, Binary}
use Rattle.lrat_binary.specs.declared.sink.UntakenLine.TheVariants.{Proof, Sink}
use Rattle.lrat_binary.proofs.ReadLemmas.{Goes, Known, fault_exact, gave_end, gave_fault, gave_line, line_exact, open_still, same_form, still_counted}

-- ---- lines

-- no byte says no line
no_line : (form : LratForm) (n : ℕ) → lines_after form n [] ≡ ([], Ended)
unfolding outcome_at
no_line forms.Text n = refl
no_line (forms.Binary ids) n = refl

-- no line more
pub with_lines-none : (ls : List (ℕ × Line)) (ending : Ending) → with_lines ls ([], ending) ≡ (ls, ending)
with_lines-none ls ending = ap (λ (xs : List (ℕ × Line)). (xs, ending)) (append-nil ls)

-- one line more, without its number
pub said-more : (ls : List (ℕ × Line)) (n : ℕ) (l : Line) → said (ls ++ (n, l) ∷ []) ≡ said ls ++ l ∷ []
said-more [] n l = refl
said-more (x ∷ ls) n l = ap (λ ms. x.1 ∷ ms) (said-more ls n l)

-- ---- the bytes of a proof

-- what is left after some bytes, where it is known
abbrev left_after : Known → List ℕ
left_after None = []
left_after (Some bytes) = bytes

gives_all : (a b : Known) (bs : List ℕ) → Consumes a b bs → IfSome a (λ bytes. bs ++ left_after b ≡ bytes)
gives_all None b bs c = tt
gives_all (Some xs) None bs c = absurd c
gives_all (Some xs) (Some ys) bs c = sym c

module _ (form : LratForm) (known left : Known) where
  -- the way in which a proof continues is what a text of its bytes says
  found : (over : Bool) (g : List ℕ → Outcome) → Goes form known left 0 over g → (rest : List ℕ) × TextSays (outcome_in form) known (g rest)
  found false g e = (left_after left, record { text = e.taken ++ left_after left; gives = gives_all known left e.taken e.consumed; is = e.same (left_after left) })
  found true g e = ([], record { text = e.taken; gives = Consumes-whole known left e.taken (λ bs. e.taken ≡ bs) e.consumed e.at_end refl; is = e.same })

  module _ (ls : List (ℕ × Line)) where
    -- after the proof so far it continues
    goes_on : (n : ℕ) (new : Known) (over : Bool) (g : List ℕ → Outcome) →
        Goes form known left 0 false (λ more. with_lines ls (lines_after form n more)) → Goes form left new n over g →
        Goes form known new 0 over (λ more. with_lines ls (g more))
    goes_on n new over g e f = continues_on new over (λ more. with_lines ls (g more)) e (continues_under left new over (with_lines ls) (lines_after form n) g f)

    more_goes : (new : Known) (over : Bool) (m : ℕ) (l : Line) → Goes form known new 0 over (λ more. with_lines ls (with_line m l (lines_after form m more))) →
        Goes form known new 0 over (λ more. with_lines (ls ++ (m, l) ∷ []) (lines_after form m more))
    more_goes new over m l h = continues_as known new over (lines_after form 0) h (λ more. with_lines-more ls m l (lines_after form m more))

    -- it has ended
    ended : (n : ℕ) → Goes form known left 0 true (λ more. with_lines ls (lines_after form n more)) → TextSays (outcome_in form) known (ls, Ended)
    ended n e = record {
      text = e.taken;
      gives = Consumes-whole known left e.taken (λ bs. e.taken ≡ bs) e.consumed e.at_end refl;
      is = e.same ∙ ap (with_lines ls) (no_line form n) ∙ with_lines-none ls Ended;
    }

-- a read failed within a line
cut_off : {R : Type 0} (remaining : R → Option (List ℕ)) (known : Known) (ls : List (ℕ × Line)) (old new : LratReader R) (cause : Error) → Gives remaining old new (Err (reads.Read cause)) →
    Goes (form_now old) known (bytes_left remaining old) 0 false (λ more. with_lines ls (lines_after (form_now old) (line_number old) more)) → IsCut (form_now old) known ls
cut_off remaining known ls (Text old) (Text new) cause gives so =
    let b = (gives.reads (open_still remaining (Text old) (Text new) (Err (reads.Read cause)) (λ e. absurd cc) gives)).0 in
    record {
      front = so.taken ++ b.passed;
      begun = b.begun;
      left = texts.bytes_left remaining new;
      consumed = rw (append_assoc so.taken b.passed b.begun)
          (Consumes-trans known (texts.bytes_left remaining old) (texts.bytes_left remaining new) so.taken (b.passed ++ b.begun) so.consumed b.consumed);
      is = so.same b.passed ∙ ap (with_lines ls) (ap (outcome_after (texts.line_number old)) (sym (append-nil b.passed)) ∙ b.same []) ∙ with_lines-none ls Ended;
      is_open = b.is_open;
    }
cut_off remaining known ls (Text old) (Binary new) cause gives so = absurd gives
cut_off remaining known ls (Binary old) new cause gives so = tt

-- ---- a reader

pub record HasGiven {R : Type 0} (remaining : R → Option (List ℕ)) (known : Known) (form : LratForm) (reader : LratReader R) (lines : List (ℕ × Line)) : Type 0 where
  pub same : form_now reader ≡ form
  pub text : Goes form known (bytes_left remaining reader) 0 (has_ended reader) (λ more. with_lines lines (lines_after form (line_number reader) more))
  pub counted : IsCounted reader

-- at its start
pub fresh_at : {R : Type 0} {remaining : R → Option (List ℕ)} {known : Known} {reader : LratReader R} → bytes_left remaining reader ≡ known → line_number reader ≡ 0 → has_ended reader ≡ false →
    IsCounted reader → IsFresh remaining known (form_now reader) reader
fresh_at bytes line ended counted = record { bytes = rw bytes (Keeps-refl _); form = refl; line = line; ended = ended; counted = counted }

module _ {R : Type 0} (remaining : R → Option (List ℕ)) (known : Known) (form : LratForm) (old : LratReader R) where
  pub given_start : IsFresh remaining known form old → HasGiven remaining known form old []
  given_start fresh = record {
    same = fresh.form;
    text = rw (fresh.ended, fresh.line) (record { taken = []; consumed = Consumes-kept known known (bytes_left remaining old) [] (Consumes-nil known) fresh.bytes; same = λ more. refl });
    counted = fresh.counted;
  }

  module _ (lines : List (ℕ × Line)) (so : HasGiven remaining known form old lines) where
    -- the proof begins with them
    given_begun : Begins form known lines
    given_begun =
        let f = found form known (bytes_left remaining old) (has_ended old) (λ more. with_lines lines (lines_after form (line_number old) more)) so.text in
        (lines_after form (line_number old) f.0, f.1)

    -- no line more was given yet
    given_open : (new : LratReader R) (r : Result (Option LratLine) LratTextFault) → (r ≡ Ok None → ⊥) → Gives remaining old new r →
        Goes form known (bytes_left remaining old) 0 false (λ more. with_lines lines (lines_after form (line_number old) more))
    given_open new r some gives = rw (open_still remaining old new r some gives) at so.text

    module _ (new : LratReader R) where
      -- one line more
      pub given_more : (line : LratLine) → Gives remaining old new (Ok (Some line)) → HasGiven remaining known form new (lines ++ (line_number new, view line) ∷ [])
      given_more line gives =
          let on = open_still remaining old new (Ok (Some line)) (λ e. absurd cc) gives in
          let goes = rw so.same at (gave_line remaining old new line on gives) in
          record {
            same = same_form remaining old new (Ok (Some line)) gives ∙ so.same;
            text = more_goes form known (bytes_left remaining old) lines (bytes_left remaining new) (has_ended new) (line_number new) (view line)
                (goes_on form known (bytes_left remaining old) lines (line_number old) (bytes_left remaining new) (has_ended new) (λ more. with_line (line_number new) (view line) (lines_after form (line_number new) more))
                (given_open new (Ok (Some line)) (λ e. absurd cc) gives) goes);
            counted = still_counted remaining old new line gives so.counted;
          }

      given_ending : (over : Bool) (ending : Ending) → Goes form known (bytes_left remaining old) 0 false (λ more. with_lines lines (lines_after form (line_number old) more)) →
          Goes form (bytes_left remaining old) (bytes_left remaining new) (line_number old) over (λ more. ([], ending)) → TextSays (outcome_in form) known (lines, ending)
      given_ending over ending e f =
          subst (TextSays (outcome_in form) known) (with_lines-none lines ending)
          (found form known (bytes_left remaining new) over (λ more. with_lines lines ([], ending))
          (goes_on form known (bytes_left remaining old) lines (line_number old) (bytes_left remaining new) over (λ more. ([], ending)) e f)).1

      -- the end
      given_end : Gives remaining old new (Ok None) → TextSays (outcome_in form) known (lines, Ended)
      given_end gives = go (has_ended old) refl
        where
          go : (b : Bool) → has_ended old ≡ b → TextSays (outcome_in form) known (lines, Ended)
          go false e = given_ending true Ended (rw e at so.text) (rw so.same at (gave_end remaining old new e gives))
          go true e = ended form known (bytes_left remaining old) lines (line_number old) (rw e at so.text)

      -- a fault of the next line, or a read that failed
      given_fault : (fault : LratTextFault) → Gives remaining old new (Err fault) → FailsAfter form known lines fault
      given_fault (reads.Read cause) gives =
          let goes = given_open new (Err (reads.Read cause)) (λ e. absurd cc) gives in (
            given_begun,
            subst (λ (i : LratForm). IsCut i known lines) so.same
                (cut_off remaining known lines old new cause gives
                (subst (λ (i : LratForm). Goes i known (bytes_left remaining old) 0 false (λ more. with_lines lines (lines_after i (line_number old) more))) (sym so.same) goes)),
          )
      given_fault (reads.Wrong at kind) gives =
          let on = open_still remaining old new (Err (reads.Wrong at kind)) (λ e. absurd cc) gives in
          let goes = gave_fault remaining old new at kind on gives in (
            given_ending goes.0 (Faulty at.0 kind) (given_open new (Err (reads.Wrong at kind)) (λ e. absurd cc) gives) (rw so.same at goes.1),
            subst (λ (i : LratForm). IsExact i at.0) so.same (fault_exact remaining old new at kind gives so.counted),
          )
      given_fault reads.OutOfMemory gives = given_begun

-- ---- lines that were taken

module _ {R S E : Type 0} (remaining : R → Option (List ℕ)) (known : Known) (form : LratForm) (is_done : S → Bool) (taken : List Line → S → Type 0) (refused : List Line → Line → E → S → Type 0)
    (old : LratReader R) (lines : List (ℕ × Line)) (so : HasGiven remaining known form old lines) (now : S) where
  -- no line more is needed
  pub taken_done : taken (said lines) now → is_done now ≡ true → TakesLines form known is_done taken refused now (Ok tt)
  taken_done took done = (lines, took, rw done (given_begun remaining known form old lines so))

  module _ (new : LratReader R) where
    -- there is no line more
    pub taken_all : taken (said lines) now → is_done now ≡ false → Gives remaining old new (Ok None) → TakesLines form known is_done taken refused now (Ok tt)
    taken_all took wanted gives = (lines, took, rw wanted (given_end remaining known form old lines so new gives))

    -- the next line can't be read
    pub taken_before : taken (said lines) now → is_done now ≡ false → (fault : LratTextFault) → Gives remaining old new (Err fault) → TakesLines form known is_done taken refused now (Err (Proof fault))
    taken_before took wanted fault gives = (lines, took, wanted, given_fault remaining known form old lines so new fault gives)

    -- the next line was not taken
    pub taken_but_one : (line : LratLine) → Gives remaining old new (Ok (Some line)) → (fault : E) → refused (said lines) (view line) fault now →
        TakesLines form known is_done taken refused now (Err (Sink (line_number new) fault))
    taken_but_one line gives fault told = (
      lines,
      view line,
      told,
      given_begun remaining known form new (lines ++ (line_number new, view line) ∷ []) (given_more remaining known form old lines so new line gives),
      subst (λ (i : LratForm). IsExact i (line_number new)) so.same (line_exact remaining old new line gives so.counted),
    )

-- ---- no line

-- a proof has some text
pub some_text : (known : Known) → (text : List ℕ) × IfSome known (λ bytes. text ≡ bytes)
some_text None = ([], tt)
some_text (Some bytes) = (bytes, refl)

pub told_form : (ids : Option Ids) (n : ℕ) (known : Known) → (form : LratForm) × IsToldForm ids n known form
told_form ids n None = (forms.Text, tt)
told_form ids n (Some bytes) = (form_of ids n bytes, refl)

begins_none : (form : LratForm) (known : Known) → Begins form known []
begins_none form known = let given = some_text known in (outcome_in form given.0, record { text = given.0; gives = given.1; is = refl })

cut_first : (form : LratForm) (known : Known) → IsCut form known []
cut_first forms.Text known = record { front = []; begun = []; left = known; consumed = Consumes-nil known; is = refl; is_open = λ k d below. absurd (omega arith) }
cut_first (forms.Binary ids) known = tt

module _ {S E : Type 0} (ids : Option Ids) (n : ℕ) (known : Known) (is_done : S → Bool) (taken : List Line → S → Type 0) (refused : List Line → Line → E → S → Type 0) (now : S) (took : taken [] now) where
  pub none_taken : is_done now ≡ true → (form : LratForm) × IsToldForm ids n known form × TakesLines form known is_done taken refused now (Ok tt)
  none_taken done = let told = told_form ids n known in (told.0, told.1, ([], took, rw done (begins_none told.0 known)))

  pub not_opened : is_done now ≡ false → (fault : LratTextFault) → IsNoLine fault → (form : LratForm) × IsToldForm ids n known form × TakesLines form known is_done taken refused now (Err (Proof fault))
  not_opened wanted (reads.Wrong at kind) none = absurd none
  not_opened wanted (reads.Read cause) none = let told = told_form ids n known in (told.0, told.1, ([], took, wanted, (begins_none told.0 known, cut_first told.0 known)))
  not_opened wanted reads.OutOfMemory none = let told = told_form ids n known in (told.0, told.1, ([], took, wanted, begins_none told.0 known))

-- ---- what was begun

-- one line less
pub begins_less : (form : LratForm) (known : Known) (ls : List (ℕ × Line)) (n : ℕ) (l : Line) → Begins form known (ls ++ (n, l) ∷ []) → Begins form known ls
begins_less form known ls n l b = (with_line n l b.0, subst (TextSays (outcome_in form) known) (sym (with_lines-more ls n l b.0)) b.1)

module _ (ids : Option Ids) (n : ℕ) (known : Known) (form : LratForm) (told : IsToldForm ids n known form) where
  -- what a text says in the form that was detected is what the bytes say
  pub told_says : (o : Outcome) → TextSays (outcome_in form) known o → IfSome known (λ bytes. outcome_in (form_of ids n bytes) bytes ≡ o)
  told_says o p = go known told p.gives
    where
      go : (k : Known) → IsToldForm ids n k form → IfSome k (λ bytes. p.text ≡ bytes) → IfSome k (λ bytes. outcome_in (form_of ids n bytes) bytes ≡ o)
      go None is gives = tt
      go (Some bytes) is gives = ap (λ (f : LratForm). outcome_in f bytes) (sym is) ∙ ap (outcome_in form) (sym gives) ∙ p.is
