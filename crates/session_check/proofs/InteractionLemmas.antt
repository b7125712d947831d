-- What a session was asked and answered so far, and its reports.
use Rattle.std.proofs.Common.{◌≡◌, ℕ, List, [], ◌∷◌, ◌++◌, Option, None, Some, refl, sym, ap, ◌∙◌, append-nil, append_assoc, subst}
use Rattle.session_text.specs.declared.line.LineKind.{LineKind}
use Rattle.session_text.specs.declared.line.LineKind.TheVariants.{Answer, Clause, Core, Deletion, Failed, Lemma, Model, Query, Several, Trail, Values, Weakening}
use Rattle.session_text.specs.declared.line.Status.{Status}
use Rattle.session_text.specs.declared.line.Status.TheVariants.{Satisfiable, Unknown, Unsatisfiable}
use Rattle.session_text.specs.Content.{Content}
use Rattle.session_text.specs.Outcomes.{Line}
use Rattle.session_check.specs.Interactions.{AllShown, Asked, Interaction, IsAnswer, IsShown, answer_to, hear, hear_last, interact, once_more, with_line, with_lines}
use Rattle.session_check.specs.Progress.{Announces, Answers, Closes, Cores, Hears, IsUnanswered, Models, Pending, Plays, Progress, Stays, Takes, answer_report, answered, asked, ended, pending_after, said, settled, with_report}
use Rattle.session_check.specs.Runs.{ShowsBut, Told, listed, tell, tell_all}
use Rattle.session_check.specs.declared.report.Reason.{Reason}
use Rattle.session_check.specs.declared.report.Reason.TheVariants.{NoConclusion}
use Rattle.session_check.specs.declared.report.Report.{Report}
use Rattle.session_check.specs.declared.session.Times.{Times}
use Rattle.session_check.specs.declared.session.Times.TheVariants.{Never}

-- ---- one more

pub lines_more : (a : Interaction) (ls : List Line) (l : Line) → with_lines a (ls ++ l ∷ []) ≡ with_line (with_lines a ls) l
unfolding with_lines
lines_more a [] l = refl
lines_more a (k ∷ ls) l = lines_more (with_line a k) ls l

pub told_more : (t : Told) (rs : List Report) (r : Report) → tell_all t (rs ++ r ∷ []) ≡ tell (tell_all t rs) r
unfolding tell_all
told_more t [] r = refl
told_more t (x ∷ rs) r = told_more (tell t x) rs r

shown_more : (qs : List Asked) (rs : List Report) (q : Asked) (r : Report) → AllShown qs rs → IsShown q r → AllShown (qs ++ q ∷ []) (rs ++ r ∷ [])
shown_more [] [] q r all s = (s, tt)
shown_more [] (x ∷ rs) q r all s = absurd all
shown_more (p ∷ qs) [] q r all s = absurd all
shown_more (p ∷ qs) (x ∷ rs) q r all s = (all.0, shown_more qs rs q r all.1 s)

-- nothing is claimed of an answer that is not shown
not_shown : (q : Asked) (status : Status) (reason : Reason) → IsAnswer q status (Some reason)
not_shown q Satisfiable reason = tt
not_shown q Unsatisfiable reason = tt
not_shown q Unknown reason = tt

-- ---- where a session stands

-- a query of which this was told
abbrev query : List (List ℕ) → List ℕ → Status → List ℕ → Times → Asked
query given assumed status told times = record { given = given; assumed = assumed; status = status; told = told; times = times }

-- the answered query that has no report yet
abbrev pub unreported_in : List (List ℕ) → Pending → Option Asked
unreported_in given settled = None
unreported_in given (asked assumed) = None
unreported_in given (answered assumed status told times) = Some (query given assumed status told times)

-- what the query assumed that has no answer yet
abbrev pub unanswered_in : Pending → Option (List ℕ)
unanswered_in settled = None
unanswered_in (asked assumed) = Some assumed
unanswered_in (answered assumed status told times) = None

-- all answered queries but the pending one have true reports
pub record Stands (a : Interaction) (rs : List Report) (p : Progress) : Type 0 where
  pub reported : List Asked
  pub queries : a.queries ≡ reported ++ listed (unreported_in p.given p.pending)
  pub shown : AllShown reported rs
  pub given : a.given ≡ p.given
  pub unanswered : a.unanswered ≡ unanswered_in p.pending

-- the pending query gets its report
reported_on : (a : Interaction) (rs : List Report) (p : Progress) (r : Report) (assumed : List ℕ) (status : Status) (told : List ℕ) (times : Times) → Stands a rs p →
    p.pending ≡ answered assumed status told times → IsShown (query p.given assumed status told times) r → Stands a (rs ++ r ∷ []) (ended p)
reported_on a rs p r assumed status told times s e shown =
    let q : Asked = query p.given assumed status told times in
    record {
      reported = s.reported ++ q ∷ [];
      queries = s.queries ∙ ap (λ (o : Pending). s.reported ++ listed (unreported_in p.given o)) e ∙ sym (append-nil (s.reported ++ q ∷ []));
      shown = shown_more s.reported rs q r s.shown shown;
      given = s.given;
      unanswered = s.unanswered ∙ ap unanswered_in e;
    }

pub stands_closed : (a : Interaction) (rs : List Report) (p : Progress) (r : Option Report) → Stands a rs p → Closes p.pending r → Stands a (with_report rs r) (ended p)
stands_closed a rs p None s c = record {
  reported = s.reported;
  queries = s.queries ∙ ap (λ (o : Pending). s.reported ++ listed (unreported_in p.given o)) c;
  shown = s.shown;
  given = s.given;
  unanswered = s.unanswered ∙ ap unanswered_in c;
}
stands_closed a rs p (Some r) s c =
    let q : Asked = query p.given c.0 r.status c.1 c.2 in
    reported_on a rs p r c.0 r.status c.1 c.2 s c.3 (refl, subst (IsAnswer q r.status) (sym c.4) (not_shown q r.status NoConclusion))

given_on : (a : Interaction) (rs : List Report) (lits : List ℕ) (p q : Progress) → Stands a rs (ended p) → q.given ≡ p.given ++ lits ∷ [] → q.pending ≡ settled
    → Stands (interact a Clause lits) rs q
given_on a rs lits p q s g e = record {
  reported = s.reported;
  queries = s.queries ∙ sym (ap (λ (o : Pending). s.reported ++ listed (unreported_in q.given o)) e);
  shown = s.shown;
  given = ap (λ (cs : List (List ℕ)). cs ++ lits ∷ []) s.given ∙ sym g;
  unanswered = s.unanswered ∙ sym (ap unanswered_in e);
}

asked_on : (a : Interaction) (rs : List Report) (lits : List ℕ) (p q : Progress) → Stands a rs (ended p) → q ≡ record p { pending = asked lits; more = 0 }
    → Stands (interact a Query lits) rs q
asked_on a rs lits p q s e = subst (Stands (interact a Query lits) rs) (sym e) (record {
  reported = s.reported;
  queries = s.queries;
  shown = s.shown;
  given = s.given;
  unanswered = refl;
})

-- an answered query more
one_more : (a : Interaction) (rs : List Report) (p : Progress) (assumed : List ℕ) (status : Status) (s : Stands a rs p) → p.pending ≡ asked assumed →
    a.queries ++ query a.given assumed status [] Never ∷ [] ≡ s.reported ++ query p.given assumed status [] Never ∷ []
one_more a rs p assumed status s e =
    let before : a.queries ≡ s.reported = s.queries ∙ ap (λ (o : Pending). s.reported ++ listed (unreported_in p.given o)) e ∙ append-nil s.reported in
    ap (λ (qs : List Asked). qs ++ query a.given assumed status [] Never ∷ []) before
    ∙ ap (λ (cs : List (List ℕ)). s.reported ++ query cs assumed status [] Never ∷ []) s.given

answer_stands : (a : Interaction) (rs : List Report) (p : Progress) (assumed : List ℕ) (status : Status) → Stands a rs p → p.pending ≡ asked assumed →
    Stands (answer_to (Some assumed) a status) (with_report rs (answer_report status)) (record p { pending = pending_after assumed status })
answer_stands a rs p assumed Satisfiable s e = record {
  reported = s.reported;
  queries = one_more a rs p assumed Satisfiable s e;
  shown = s.shown;
  given = s.given;
  unanswered = refl;
}
answer_stands a rs p assumed Unsatisfiable s e = record {
  reported = s.reported;
  queries = one_more a rs p assumed Unsatisfiable s e;
  shown = s.shown;
  given = s.given;
  unanswered = refl;
}
answer_stands a rs p assumed Unknown s e =
    let q : Asked = query p.given assumed Unknown [] Never in
    record {
      reported = s.reported ++ q ∷ [];
      queries = one_more a rs p assumed Unknown s e ∙ sym (append-nil (s.reported ++ q ∷ []));
      shown = shown_more s.reported rs q (record { status = Unknown; reason = None }) s.shown (refl, tt);
      given = s.given;
      unanswered = refl;
    }

answered_on : (a : Interaction) (rs : List Report) (p : Progress) (status : Status) (r : Option Report) (q : Progress) → Stands a rs p → Answers status p r q →
    Stands (answer_to a.unanswered a status) (with_report rs r) q
answered_on a rs p status r q s t =
    subst (Stands (answer_to a.unanswered a status) (with_report rs r)) (sym t.3)
    (subst (λ o. Stands (answer_to a.unanswered a status) (with_report rs o) (record p { pending = pending_after t.0 status })) (sym t.2)
    (subst (λ o. Stands (answer_to o a status) (with_report rs (answer_report status)) (record p { pending = pending_after t.0 status })) (sym (s.unanswered ∙ ap unanswered_in t.1))
    (answer_stands a rs p t.0 status s t.1)))

-- nothing is said, and neither a query nor a clause is new
kept_on : (a : Interaction) (rs : List Report) (p : Progress) (r : Option Report) (q : Progress) → Stands a rs p → r ≡ None → q.given ≡ p.given → q.pending ≡ p.pending → Stands a (with_report rs r) q
kept_on a rs p r q s none g e =
    subst (λ o. Stands a (with_report rs o) q) (sym none) (record {
      reported = s.reported;
      queries = s.queries ∙ ap (λ (o : Pending). s.reported ++ listed (unreported_in p.given o)) (sym e) ∙ ap (λ (cs : List (List ℕ)). s.reported ++ listed (unreported_in cs q.pending)) (sym g);
      shown = s.shown;
      given = s.given ∙ sym g;
      unanswered = s.unanswered ∙ ap unanswered_in (sym e);
    })

-- a conclusion
modelled_on : (a : Interaction) (rs : List Report) (p : Progress) (lits : List ℕ) (r : Option Report) (q : Progress) → Stands a rs p → Models lits p r q → Stands a (with_report rs r) q
modelled_on a rs p lits None q s t = absurd t
modelled_on a rs p lits (Some r) q s t = subst (Stands a (rs ++ r ∷ [])) (sym t.4) (reported_on a rs p r t.0 Satisfiable t.1 t.2 s t.3 t.6)

cored_on : (a : Interaction) (rs : List Report) (p : Progress) (lits ids : List ℕ) (r : Option Report) (q : Progress) → Stands a rs p → Cores lits ids p r q → Stands a (with_report rs r) q
cored_on a rs p lits ids None q s t = kept_on a rs p None q s refl (ap (λ (x : Progress). x.given) t.2) (ap (λ (x : Progress). x.pending) t.2)
cored_on a rs p lits ids (Some r) q s t = subst (Stands a (rs ++ r ∷ [])) (sym t.4) (reported_on a rs p r t.0 Unsatisfiable t.1 t.2 s t.3 t.6)

stays_on : (a : Interaction) (rs : List Report) (p : Progress) (r : Option Report) (q : Progress) → Stands a rs p → Stays p r q → Stands a (with_report rs r) q
stays_on a rs p r q s t = subst (Stands a (with_report rs r)) (sym t.1) (subst (λ o. Stands a (with_report rs o) p) (sym t.0) s)

-- what was told of the last query
last_heard : (qs : List Asked) (q : Asked) (lits : List ℕ) → hear_last (qs ++ q ∷ []) lits ≡ qs ++ hear q lits ∷ []
last_heard [] q lits = refl
last_heard (x ∷ []) q lits = refl
last_heard (x ∷ y ∷ qs) q lits = ap (λ (l : List Asked). x ∷ l) (last_heard (y ∷ qs) q lits)

heard_stands : (a : Interaction) (rs : List Report) (p : Progress) (assumed : List ℕ) (status : Status) (told : List ℕ) (times : Times) (lits : List ℕ) → Stands a rs p →
    p.pending ≡ answered assumed status told times →
    Stands (record a { queries = hear_last a.queries lits }) rs (record p { pending = answered assumed status (told ++ lits) (once_more times) })
heard_stands a rs p assumed status told times lits s e =
    let q : Asked = query p.given assumed status told times in
    let before : a.queries ≡ s.reported ++ q ∷ [] = s.queries ∙ ap (λ (o : Pending). s.reported ++ listed (unreported_in p.given o)) e in
    record {
      reported = s.reported;
      queries = ap (λ (qs : List Asked). hear_last qs lits) before ∙ last_heard s.reported q lits;
      shown = s.shown;
      given = s.given;
      unanswered = s.unanswered ∙ ap unanswered_in e;
    }

heard_on : (a : Interaction) (rs : List Report) (p : Progress) (status : Status) (lits : List ℕ) (r : Option Report) (q : Progress) → Stands a rs p → Hears status lits p r q →
    Stands (record a { queries = hear_last a.queries lits }) (with_report rs r) q
heard_on a rs p status lits r q s t =
    subst (Stands (record a { queries = hear_last a.queries lits }) (with_report rs r)) (sym t.5)
    (subst (λ o. Stands (record a { queries = hear_last a.queries lits }) (with_report rs o) (record p { pending = answered t.0 status (t.1 ++ lits) (once_more t.2) })) (sym t.4)
    (heard_stands a rs p t.0 status t.1 t.2 lits s t.3))

-- further cores follow
announced_on : (a : Interaction) (rs : List Report) (p : Progress) (n : ℕ) (r : Option Report) (q : Progress) → Stands a rs p → Announces n p r q → Stands a (with_report rs r) q
announced_on a rs p n r q s t = kept_on a rs p r q s t.4 (ap (λ (x : Progress). x.given) t.5) (ap (λ (x : Progress). x.pending) t.5)

-- a line leads on
pub stands_on : (a : Interaction) (rs : List Report) (p : Progress) (kind : LineKind) (c : Content) (r : Option Report) (q : Progress) → Stands a rs p → Takes kind c p r q →
    Stands (interact a kind c.lits) (with_report rs r) q
stands_on a rs p Clause c r q s t = given_on a (with_report rs r) c.lits p q (stands_closed a rs p r s t.0) t.1 t.4
stands_on a rs p Query c r q s t = asked_on a (with_report rs r) c.lits p q (stands_closed a rs p r s t.0) t.1
stands_on a rs p Lemma c r q s t = kept_on a rs p r q s t.0 t.1 t.2
stands_on a rs p Deletion c r q s t = kept_on a rs p r q s t.0 t.1 t.4
stands_on a rs p Weakening c r q s t = stays_on a rs p r q s t
stands_on a rs p (Answer status) c r q s t = answered_on a rs p status r q s t
stands_on a rs p Model c r q s t = modelled_on a rs p c.lits r q s t
stands_on a rs p Core c r q s t = cored_on a rs p c.lits c.ids r q s t
stands_on a rs p Trail c r q s t = stays_on a rs p r q s t
stands_on a rs p (Several count) c r q s t = announced_on a rs p count r q s t
stands_on a rs p Values c r q s t = heard_on a rs p Satisfiable c.lits r q s t
stands_on a rs p Failed c r q s t = heard_on a rs p Unsatisfiable c.lits r q s t

-- all have reports but the pending one
pub shows_but : {a : Interaction} {rs : List Report} {p : Progress} → Stands a rs p → ShowsBut a rs
shows_but {p} s = record { reported = s.reported; unreported = unreported_in p.given p.pending; queries = s.queries; shown = s.shown }

-- where the last one is over, all have theirs
pub all_reported : (a : Interaction) (rs : List Report) (p : Progress) → Stands a rs (ended p) → (a.unanswered ≡ None) × AllShown a.queries rs
all_reported a rs p s = (s.unanswered, subst (λ qs. AllShown qs rs) (sym (s.queries ∙ append-nil s.reported)) s.shown)

-- so it is where it has no answer
pub all_but_one : (a : Interaction) (rs : List Report) (p : Progress) → Stands a rs p → IsUnanswered p.pending →
    ((assumed : List ℕ) × (a.unanswered ≡ Some assumed)) × AllShown a.queries rs
all_but_one a rs p s u = (
  (u.0, s.unanswered ∙ ap unanswered_in u.1),
  subst (λ qs. AllShown qs rs) (sym (s.queries ∙ ap (λ (o : Pending). s.reported ++ listed (unreported_in p.given o)) u.1 ∙ append-nil s.reported)) s.shown,
)

-- ---- the lines of a session

report_behind : (xs ys : List Report) (r : Option Report) → with_report (xs ++ ys) r ≡ xs ++ with_report ys r
report_behind xs ys None = refl
report_behind xs ys (Some r) = append_assoc xs ys (r ∷ [])

report_first : (r : Option Report) → with_report [] r ≡ said r ++ []
report_first None = refl
report_first (Some r) = refl

-- one more line
pub plays_more : (p : Progress) (ls : List Line) (rs : List Report) (q : Progress) (l : Line) (r : Option Report) (after : Progress) → Plays p ls rs q → Takes l.kind l.content q r after →
    Plays p (ls ++ l ∷ []) (with_report rs r) after
unfolding Plays
plays_more p [] rs q l r after h t = (r, after, [], subst (λ x. Takes l.kind l.content x r after) h.1 t, ap (λ (x : List Report). with_report x r) h.0 ∙ report_first r, (refl, refl))
plays_more p (m ∷ ls) rs q l r after h t =
    (h.0, h.1, with_report h.2 r, h.3, ap (λ (x : List Report). with_report x r) h.4 ∙ report_behind (said h.0) h.2 r, plays_more h.1 ls h.2 q l r after h.5 t)
