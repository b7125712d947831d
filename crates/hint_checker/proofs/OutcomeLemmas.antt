-- What the outcome of LRAT text says of the same lines as lines of hints.
--     Run h xs k      the lines that a reader gives are accepted after h, and lead to k
--     run_leads      then they are lines of hints that are accepted
--     accepts      and so are the lines of the text
--     refuses      a line that is rejected, or malformed, after them is one of the text's
use Rattle.std.proofs.Common.{◌≡◌, ℕ, zero, suc, ◌+◌, ◌-◌, ◌^◌, ◌<◌, ◌≤◌, List, [], ◌∷◌, ◌++◌, length, Option, Some, None, Result, Ok, Err, refl, sym, ap, ◌∙◌, subst, arith}
use Rattle.std.specs.Option.{option_map}
use Rattle.std.proofs.lemmas.Option.{none-some}
use Rattle.sat_rules.specs.HintLines.{HintCause, HintLine, Listed, line_cause}
use Rattle.sat_formula.specs.Lines.{lines_of, words_of}
use Rattle.sat_formula.specs.Outcome.{next_line}
use Rattle.lrat_rules.specs.Lines.{Line, adds, deletes}
use Rattle.lrat_text.specs.Grammar.{says}
use Rattle.lrat_text.specs.Texts.{Ended, Ending, Faulty, Outcome, line_then, lines_from, outcome_of, short_before}
use Rattle.lrat_text.specs.declared.fault.LineKind.{LineKind}
use Rattle.lrat_binary.specs.TakenLines.{said}
use Rattle.hint_rules.specs.Accepted.{Accepts, joined, said_all}
use Rattle.hint_checker.specs.Checked.{Leads, Refuses, after_said, cause_of, refusal}
use Rattle.hint_checker.specs.Given.{Stops, as_hints, lines_said}
use Rattle.hint_checker.specs.Taken.{Runs}
use Rattle.hint_rules.specs.Text as text
use Rattle.hint_rules.specs.Text.{Said, in_front, said_by}
use Rattle.hint_checker.specs.declared.fault.LineFault.{LineFault}
use Rattle.hint_checker.specs.declared.fault.LineFault.TheVariants as causes
use Rattle.hint_checker.proofs.Agreement.{SaysAlike, says_alike}

-- ---- lines that are given

abbrev pub Run : Listed → List (ℕ × Line) → Listed → Type 0
Run h xs k = Runs h (said xs) k

pub runs_more : (h k : Listed) (ls : List Line) (line : Line) → Runs h ls k → refusal k (as_hints line) ≡ None → Runs h (ls ++ line ∷ []) (after_said k (as_hints line))
runs_more h k [] line e r = (subst (λ s. refusal s (as_hints line) ≡ None) e r, ap (λ s. after_said s (as_hints line)) e)
runs_more h k (l ∷ ls) line run r = (run.0, runs_more (after_said h (as_hints l)) k ls line run.1 r)

-- a line of text is rejected like the line that is given
same_refusal : (h : Listed) (line : Line) (s : Said) → SaysAlike (Ok (Some line)) s → refusal h s ≡ refusal h (as_hints line)
same_refusal h (adds id c hs) s e = ap (refusal h) e
same_refusal h (deletes ids) s e = ap (refusal h) e.1

same_after : (h : Listed) (line : Line) (s : Said) → SaysAlike (Ok (Some line)) s → after_said h s ≡ after_said h (as_hints line)
same_after h (adds id c hs) s e = ap (after_said h) e
same_after h (deletes ids) s e = ap (after_said h) e.1

none_of : (o : Option HintCause) → option_map cause_of o ≡ None → o ≡ None
none_of None e = refl
none_of (Some cause) e = absurd (none-some (cause_of cause) (sym e))

-- one more in front
joined_front : (s : Said) (rest : Option (List HintLine)) (h k : Listed) → refusal h s ≡ None → Leads rest (after_said h s) k → Leads (joined s rest) h k
joined_front text.Nothing rest h k r a = a
joined_front (text.Line x) rest h k r a = record { lines = x ∷ a.lines; all = ap (in_front x) a.all; follow = (none_of (line_cause h x) r, a.follow) }
joined_front text.Malformed rest h k r a = absurd (none-some causes.Malformed (sym r))

-- lines that are given are lines of hints
pub run_leads : (h k : Listed) (xs : List (ℕ × Line)) → Run h xs k → Leads (lines_said xs) h k
run_leads h k [] run = record { lines = []; all = refl; follow = run }
run_leads h k (x ∷ xs) run = joined_front (as_hints x.1) (lines_said xs) h k run.0 (run_leads (after_said h (as_hints x.1)) k xs run.1)

-- ---- lines of text

-- the lines of text are accepted after h, and lead to k
abbrev pub Accepted : List (List ℕ) → Listed → Listed → Type 0
Accepted raw h k = Leads (said_all raw) h k

-- one more in front
accepted_front : (l : List ℕ) (raw : List (List ℕ)) (h k : Listed) (s : Said) → said_by l ≡ s → refusal h s ≡ None → Accepted raw (after_said h s) k → Accepted (l ∷ raw) h k
accepted_front l raw h k s is r a = subst (λ x. Leads (joined x (said_all raw)) h k) (sym is) (joined_front s (said_all raw) h k r a)

given_front : (l : List ℕ) (raw : List (List ℕ)) (h k : Listed) (line : Line) → SaysAlike (Ok (Some line)) (said_by l) → refusal h (as_hints line) ≡ None →
    Accepted raw (after_said h (as_hints line)) k → Accepted (l ∷ raw) h k
given_front l raw h k line alike r a =
    accepted_front l raw h k (said_by l) refl (same_refusal h line (said_by l) alike ∙ r) (subst (λ s. Accepted raw s k) (sym (same_after h line (said_by l) alike)) a)

all_accepted : (n : ℕ) (raw : List (List ℕ)) (h k : Listed) → (lines_from n raw).1 ≡ Ended → Run h (lines_from n raw).0 k → Accepted raw h k
all_accepted n [] h k e run = record { lines = []; all = refl; follow = run }
all_accepted n (l ∷ raw) h k e run = go (all_accepted (next_line n) raw) (says (short_before raw) (words_of l)) (says_alike (short_before raw) (words_of l)) e run
  where
    Rest : Type 0
    Rest = (i j : Listed) → (lines_from (next_line n) raw).1 ≡ Ended → Run i (lines_from (next_line n) raw).0 j → Accepted raw i j

    go : Rest → (r : Result (Option Line) LineKind) → SaysAlike r (said_by l) → (line_then (next_line n) r (lines_from (next_line n) raw)).1 ≡ Ended →
        Run h (line_then (next_line n) r (lines_from (next_line n) raw)).0 k → Accepted (l ∷ raw) h k
    go rest (Ok None) alike ended run = accepted_front l raw h k text.Nothing alike refl (rest h k ended run)
    go rest (Ok (Some line)) alike ended run = given_front l raw h k line alike run.0 (rest (after_said h (as_hints line)) k ended run.1)
    go rest (Err kind) alike ended run = absurd cc

-- ---- the line at which a text stops

-- the number of the line that is this many after this one
abbrev numbered : ℕ → ℕ → ℕ
numbered n zero = n
numbered n (suc j) = numbered (next_line n) j

no_lower : (j n : ℕ) → n ≤ 2 ^ 64 - 1 → n ≤ numbered n j
no_lower zero n fits = omega arith
no_lower (suc j) n fits = let more = no_lower j (next_line n) (omega arith) in omega (arith, more)

numbered-exact : (j n : ℕ) → n ≤ 2 ^ 64 - 1 → numbered n j < 2 ^ 64 - 1 → numbered n j ≡ n + j
numbered-exact zero n fits below = omega arith
numbered-exact (suc j) n fits below =
    let low = no_lower j (next_line n) (omega arith) in
    let rest = numbered-exact j (next_line n) (omega arith) below in
    omega (arith, low, rest)

-- lines of text are accepted after h, and the one after them is rejected
record StoppedAt (raw : List (List ℕ)) (h : Listed) (n m : ℕ) (fault : LineFault) : Type 0 where
  before : List (List ℕ)
  line : List ℕ
  after : List (List ℕ)
  cut : raw ≡ before ++ line ∷ after
  number : m ≡ numbered n (suc (length before))
  held : Listed
  accepted : Accepted before h held
  refused : refusal held (said_by line) ≡ Some fault

stops_first : (l : List ℕ) (raw : List (List ℕ)) (h : Listed) (n m : ℕ) (fault : LineFault) → m ≡ next_line n → refusal h (said_by l) ≡ Some fault → StoppedAt (l ∷ raw) h n m fault
stops_first l raw h n m fault number r = record {
  before = [];
  line = l;
  after = raw;
  cut = refl;
  number = number;
  held = h;
  accepted = record { lines = []; all = refl; follow = refl };
  refused = r;
}

stops_later : (l : List ℕ) (raw : List (List ℕ)) (h j : Listed) (n m : ℕ) (fault : LineFault) → ((before : List (List ℕ)) (k : Listed) → Accepted before j k → Accepted (l ∷ before) h k) →
    StoppedAt raw j (next_line n) m fault → StoppedAt (l ∷ raw) h n m fault
stops_later l raw h j n m fault front s = record {
  before = l ∷ s.before;
  line = s.line;
  after = s.after;
  cut = ap (λ (ls : List (List ℕ)). l ∷ ls) s.cut;
  number = s.number;
  held = s.held;
  accepted = front s.before s.held s.accepted;
  refused = s.refused;
}

stopped_at : (n : ℕ) (raw : List (List ℕ)) (h k : Listed) (xs ys : List (ℕ × Line)) (ending : Ending) (m : ℕ) (fault : LineFault) →
    (lines_from n raw).0 ≡ xs ++ ys → (lines_from n raw).1 ≡ ending → Run h xs k → Stops k ys ending m fault → StoppedAt raw h n m fault
stopped_at n [] h k [] ys ending m fault e f run stops =
    absurd (subst (λ (x : Ending). Stops k [] x m fault) (sym f) (subst (λ (zs : List (ℕ × Line)). Stops k zs ending m fault) (sym e) stops))
stopped_at n [] h k (x ∷ xs) ys ending m fault e f run stops = absurd cc
stopped_at n (l ∷ raw) h k xs ys ending m fault e f run stops = go (stopped_at (next_line n) raw) (says (short_before raw) (words_of l)) (says_alike (short_before raw) (words_of l)) xs e f run
  where
    Rest : Type 0
    Rest = (i j : Listed) (zs ws : List (ℕ × Line)) (end : Ending) (o : ℕ) (g : LineFault) → (lines_from (next_line n) raw).0 ≡ zs ++ ws → (lines_from (next_line n) raw).1 ≡ end → Run i zs j →
        Stops j ws end o g → StoppedAt raw i (next_line n) o g

    given : Rest → (line : Line) → SaysAlike (Ok (Some line)) (said_by l) → (zs : List (ℕ × Line)) → (next_line n, line) ∷ (lines_from (next_line n) raw).0 ≡ zs ++ ys →
        (lines_from (next_line n) raw).1 ≡ ending → Run h zs k → StoppedAt (l ∷ raw) h n m fault
    given rest line alike [] a b ran =
        let s = subst (λ (zs : List (ℕ × Line)). Stops k zs ending m fault) (sym a) stops in
        stops_first l raw h n m fault s.0 (same_refusal h line (said_by l) alike ∙ subst (λ j. refusal j (as_hints line) ≡ Some fault) ran s.1)
    given rest line alike (z ∷ zs) a b ran =
        let here : z ≡ (next_line n, line) = cc in
        let there : (lines_from (next_line n) raw).0 ≡ zs ++ ys = cc in
        let now : Run h ((next_line n, line) ∷ zs) k = subst (λ (x : ℕ × Line). Run h (x ∷ zs) k) here ran in
        stops_later l raw h (after_said h (as_hints line)) n m fault (λ before j. given_front l before h j line alike now.0)
        (rest (after_said h (as_hints line)) k zs ys ending m fault there b now.1 stops)

    malformed : (kind : LineKind) → said_by l ≡ text.Malformed → (zs : List (ℕ × Line)) → [] ≡ zs ++ ys → Faulty (next_line n) kind ≡ ending → Run h zs k → StoppedAt (l ∷ raw) h n m fault
    malformed kind alike [] a b ran =
        let s = subst (λ (x : Ending). Stops k [] x m fault) (sym b) (subst (λ (zs : List (ℕ × Line)). Stops k zs ending m fault) (sym a) stops) in
        stops_first l raw h n m fault s.0 (ap (refusal h) alike ∙ ap (λ (g : LineFault). Some g) (sym s.1))
    malformed kind alike (z ∷ zs) a b ran = absurd cc

    go : Rest → (r : Result (Option Line) LineKind) → SaysAlike r (said_by l) → (zs : List (ℕ × Line)) → (line_then (next_line n) r (lines_from (next_line n) raw)).0 ≡ zs ++ ys →
        (line_then (next_line n) r (lines_from (next_line n) raw)).1 ≡ ending → Run h zs k → StoppedAt (l ∷ raw) h n m fault
    go rest (Ok None) alike zs a b ran =
        stops_later l raw h h n m fault (λ before j. accepted_front l before h j text.Nothing alike refl) (rest h k zs ys ending m fault a b ran stops)
    go rest (Ok (Some line)) alike zs a b ran = given rest line alike zs a b ran
    go rest (Err kind) alike zs a b ran = malformed kind alike zs a b ran

-- ---- a whole text

module _ (h k : Listed) (xs : List (ℕ × Line)) (run : Run h xs k) (bytes : List ℕ) where
  -- all its lines are accepted
  pub accepts : outcome_of bytes ≡ (xs, Ended) → Accepts h bytes k
  accepts e =
      let a = all_accepted 0 (lines_of bytes) h k (ap (λ (o : Outcome). o.1) e) (subst (λ (ys : List (ℕ × Line)). Run h ys k) (sym (ap (λ (o : Outcome). o.0) e)) run) in
      record { lines = a.lines; said = a.all; follow = a.follow }

  -- a line after them is rejected, or malformed
  pub refuses : (later : Outcome) → outcome_of bytes ≡ (xs ++ later.0, later.1) → (m : ℕ) → m < 2 ^ 64 - 1 → (fault : LineFault) → Stops k later.0 later.1 m fault → Refuses h bytes m fault
  refuses later e m below fault stops =
      let s = stopped_at 0 (lines_of bytes) h k xs later.0 later.1 m fault (ap (λ (o : Outcome). o.0) e) (ap (λ (o : Outcome). o.1) e) run stops in
      record {
        before = s.before;
        line = s.line;
        after = s.after;
        cut = s.cut;
        number =
            let exact = numbered-exact (suc (length s.before)) 0 (omega arith) (subst (λ j. j < 2 ^ 64 - 1) s.number below) in
            s.number ∙ exact ∙ omega arith;
        lines = s.accepted.lines;
        said = s.accepted.all;
        held = s.held;
        follow = s.accepted.follow;
        refused = s.refused;
      }
