-- What words say as a line of LRAT, and as a line of hints.
--     SaysAlike r s      the line of LRAT is the line of hints, or neither is one
--     says_alike      so it is for all words
use Rattle.std.proofs.Common.{◌≡◌, ℕ, ◌^◌, Bool, true, false, cond, List, [], ◌∷◌, Option, Some, None, Result, Ok, Err, refl, sym, ap, ◌∙◌, inl, inr}
use Rattle.std.specs.Prelude.{◌==◌, nat_lt, map, codes}
use Rattle.std.specs.Str.{bytes_eq}
use Rattle.std.proofs.lemmas.Bool.{cases_Bool, eqb-false, eqb-true, ne_eqb}
use Rattle.sat_rules.specs.HintLines.{HintLine, deletes_clauses}
use Rattle.sat_formula.specs.Bytes.{letter_c, minus_sign}
use Rattle.sat_formula.specs.Lines.{value_of}
use Rattle.lrat_rules.specs.Lines.{Line, adds, deletes}
use Rattle.lrat_text.specs.Grammar as lrat
use Rattle.lrat_text.specs.Grammar.{after_id, alone, clause_at, deletion_at, first_said, hint_of, says}
use Rattle.lrat_text.specs.Items.{Found, Words, ◌>>=◌, hint_said, id_said, item_then, items_at, lit_said}
use Rattle.lrat_text.specs.Numbers.{judged, number_of, signed}
use Rattle.lrat_text.specs.declared.fault.LineKind.{LineKind}
use Rattle.lrat_text.specs.declared.fault.LineKind.TheVariants.{Malformed}
use Rattle.lrat_text.specs.declared.line.Hint.{Hint}
use Rattle.lrat_text.specs.declared.line.Hint.TheVariants.{Against, Along}
use Rattle.hint_checker.specs.Given.{ids_along}
use Rattle.hint_rules.specs.Text as text
use Rattle.hint_rules.specs.Text.{Clause, ClauseWord, Said, addition, clause_to_zero, clause_word, deletion, ends_here, id_or_end, ids_to_end, in_front, is_comment, line_after, lit_in_front, number_of_word, on_clause, on_number, on_word, said, said_by_words, signed_word, small}

-- ---- words

-- a word as an id: the 0 that ends a list, another number, or none
abbrev IsId : Result (Option ℕ) LineKind → Option ℕ → Type 0
IsId (Ok None) o = o ≡ Some 0
IsId (Ok (Some v)) o = (o ≡ Some v) × ((v == 0) ≡ false)
IsId (Err kind) o = o ≡ None

-- a word as a hint; one against is no id
abbrev IsHint : Result (Option Hint) LineKind → Option ℕ → Type 0
IsHint (Ok None) o = o ≡ Some 0
IsHint (Ok (Some (Along v))) o = (o ≡ Some v) × ((v == 0) ≡ false)
IsHint _ o = o ≡ None

-- a line's first word
abbrev IsNumber : Result ℕ LineKind → Option ℕ → Type 0
IsNumber (Ok v) o = o ≡ Some v
IsNumber (Err kind) o = o ≡ None

-- a sign is no digit
no_value : (b : ℕ) (bs : List ℕ) → (b == minus_sign) ≡ true → value_of (b ∷ bs) ≡ None
no_value b bs e = rw (eqb-true b 45 e) refl

plain : (o : Option ℕ) → IsId (id_said (judged false o)) (small o) × IsHint (hint_said (judged false o)) (small o) × IsNumber (first_said (judged false o)) (small o)
plain None = (refl, refl, refl)
plain (Some v) = elim (cases_Bool (nat_lt v (2 ^ 64))) [
  | inl e ↦ rw e (elim (cases_Bool (v == 0)) [
    | inl z ↦ let zero = ap (λ (n : ℕ). Some n) (eqb-true v 0 z) in rw z (zero, zero, refl)
    | inr z ↦ rw z ((refl, z), (refl, z), refl)
  ])
  | inr e ↦ rw e (refl, refl, refl)
]

negative : (o : Option ℕ) → IsId (id_said (judged true o)) None × IsHint (hint_said (judged true o)) None × IsNumber (first_said (judged true o)) None
negative None = (refl, refl, refl)
negative (Some v) = elim (cases_Bool (nat_lt v (2 ^ 64))) [
  | inl e ↦ rw e (elim (cases_Bool (v == 0)) [ inl z ↦ rw z (refl, refl, refl) | inr z ↦ rw z (rw z (refl, refl, refl)) ])
  | inr e ↦ rw e (refl, refl, refl)
]

word_alike : (w : List ℕ) → IsId (id_said (number_of w)) (number_of_word w) × IsHint (hint_said (number_of w)) (number_of_word w) × IsNumber (first_said (number_of w)) (number_of_word w)
word_alike [] = (refl, refl, refl)
word_alike (b ∷ bs) = elim (cases_Bool (b == minus_sign)) [
  | inl e ↦ rw (e, no_value b bs e) (negative (value_of bs))
  | inr e ↦ rw e (plain (value_of (b ∷ bs)))
]

-- a word in a clause
abbrev as_word : Result (Option ℕ) LineKind → ClauseWord
as_word (Ok None) = text.End
as_word (Ok (Some l)) = text.Literal l
as_word (Err kind) = text.Bad

lit_signed : (negative : Bool) (o : Option ℕ) → as_word (lit_said (judged negative o)) ≡ signed_word negative (small o)
lit_signed negative None = refl
lit_signed negative (Some v) = elim (cases_Bool (nat_lt v (2 ^ 64))) [
  | inl e ↦ rw e (fits negative)
  | inr e ↦ rw e refl
]
  where
    fits : (sign : Bool) → as_word (lit_said (signed sign (Some v))) ≡ signed_word sign (Some v)
    fits true = elim (cases_Bool (v == 0)) [ inl e ↦ rw e refl | inr e ↦ rw e (rw e (elim (cases_Bool (nat_lt (2 ^ 28) v)) [ inl l ↦ rw l refl | inr l ↦ rw l refl ])) ]
    fits false = elim (cases_Bool (v == 0)) [ inl e ↦ rw e refl | inr e ↦ rw e (elim (cases_Bool (nat_lt (2 ^ 28) v)) [ inl l ↦ rw l refl | inr l ↦ rw l refl ]) ]

lit_word : (w : List ℕ) → as_word (lit_said (number_of w)) ≡ clause_word w
lit_word [] = refl
lit_word (b ∷ bs) = elim (cases_Bool (b == minus_sign)) [
  | inl e ↦ rw e (lit_signed true (value_of bs))
  | inr e ↦ rw e (lit_signed false (value_of (b ∷ bs)))
]

-- ---- lists

-- what is read, where no word follows it
abbrev alone_with : {A : Type 0} → A → Words → Option A
alone_with x [] = Some x
alone_with x (w ∷ ws) = None

abbrev ids_end : Found (List ℕ) → Option (List ℕ)
ids_end (Ok p) = alone_with p.0 p.1
ids_end (Err kind) = None

abbrev along_if : Option (List Hint) → Option (List ℕ)
along_if None = None
along_if (Some hs) = ids_along (map hint_of hs)

abbrev hints_end : Found (List Hint) → Option (List ℕ)
hints_end (Ok p) = along_if (alone_with p.0 p.1)
hints_end (Err kind) = None

abbrev lits_end : Found (List ℕ) → Clause
lits_end (Ok p) = Some p
lits_end (Err kind) = None

none_left : (ws : Words) → alone_with [] ws ≡ ends_here ws
none_left [] = refl
none_left (w ∷ ws) = refl

ids_words : (short : LineKind) (ws : Words) → ids_end (items_at id_said short ws) ≡ ids_to_end ws
ids_words short [] = refl
ids_words short (w ∷ ws) = step (id_said (number_of w)) (number_of_word w) (word_alike w).0 (items_at id_said short ws) (ids_to_end ws) (ids_words short ws)
  where
    front : (v : ℕ) (later : Found (List ℕ)) → ids_end (later >>= λ l. Ok (v ∷ l.0, l.1)) ≡ in_front v (ids_end later)
    front v (Ok (xs, [])) = refl
    front v _ = refl

    step : (r : Result (Option ℕ) LineKind) (o : Option ℕ) → IsId r o → (later : Found (List ℕ)) (rest : Option (List ℕ)) → ids_end later ≡ rest → ids_end
        (item_then r ws later) ≡ id_or_end o ws rest
    step (Ok None) o e later rest f = rw e (none_left ws)
    step (Ok (Some v)) o e later rest f = rw (e.0, e.1) (front v later ∙ ap (in_front v) f)
    step (Err kind) o e later rest f = rw e refl

hints_words : (short : LineKind) (ws : Words) → hints_end (items_at hint_said short ws) ≡ ids_to_end ws
hints_words short [] = refl
hints_words short (w ∷ ws) = step (hint_said (number_of w)) (number_of_word w) (word_alike w).1 (items_at hint_said short ws) (ids_to_end ws) (hints_words short ws)
  where
    front : (v : ℕ) (later : Found (List Hint)) → hints_end (later >>= λ l. Ok (Along v ∷ l.0, l.1)) ≡ in_front v (hints_end later)
    front v (Ok (hs, [])) = refl
    front v _ = refl

    none : (v : ℕ) (later : Found (List Hint)) → hints_end (later >>= λ l. Ok (Against v ∷ l.0, l.1)) ≡ None
    none v (Ok (hs, [])) = refl
    none v _ = refl

    ended : (later : Words) → along_if (alone_with [] later) ≡ ends_here later
    ended [] = refl
    ended (x ∷ later) = refl

    step : (r : Result (Option Hint) LineKind) (o : Option ℕ) → IsHint r o → (later : Found (List Hint)) (rest : Option (List ℕ)) → hints_end later ≡ rest → hints_end
        (item_then r ws later) ≡ id_or_end o ws rest
    step (Ok None) o e later rest f = rw e (ended ws)
    step (Ok (Some (Along v))) o e later rest f = rw (e.0, e.1) (front v later ∙ ap (in_front v) f)
    step (Ok (Some (Against v))) o e later rest f = rw e (none v later)
    step (Err kind) o e later rest f = rw e refl

lits_words : (short : LineKind) (ws : Words) → lits_end (items_at lit_said short ws) ≡ clause_to_zero ws
lits_words short [] = refl
lits_words short (w ∷ ws) = step (lit_said (number_of w)) (clause_word w) (lit_word w) (items_at lit_said short ws) (clause_to_zero ws) (lits_words short ws)
  where
    front : (l : ℕ) (later : Found (List ℕ)) → lits_end (later >>= λ r. Ok (l ∷ r.0, r.1)) ≡ lit_in_front l (lits_end later)
    front l (Ok p) = refl
    front l (Err kind) = refl

    step : (r : Result (Option ℕ) LineKind) (x : ClauseWord) → as_word r ≡ x → (later : Found (List ℕ)) (rest : Clause) → lits_end later ≡ rest →
        lits_end (item_then r ws later) ≡ on_word x ws rest
    step (Ok None) x e later rest f = rw (← e) refl
    step (Ok (Some l)) x e later rest f = rw (← e) (front l later ∙ ap (lit_in_front l) f)
    step (Err kind) x e later rest f = rw (← e) refl

-- ---- lines

abbrev LineAlike : Result Line LineKind → Option HintLine → Type 0
LineAlike (Ok (adds id c hs)) o = o ≡ addition id c (ids_along hs)
LineAlike (Ok (deletes ids)) o = (number : ℕ) × (o ≡ Some (deletes_clauses number ids))
LineAlike (Err kind) o = o ≡ None

deletion_alike : (short : LineKind) (n : ℕ) (ws : Words) → LineAlike (deletion_at short ws) (deletion n (ids_to_end ws))
deletion_alike short n ws = go (items_at id_said short ws) (ids_to_end ws) (ids_words short ws)
  where
    go : (r : Found (List ℕ)) (o : Option (List ℕ)) → ids_end r ≡ o → LineAlike (r >>= λ ids. alone (deletes ids.0) ids.1) (deletion n o)
    go (Ok (ids, [])) o e = (n, ap (deletion n) (sym e))
    go _ o e = ap (deletion n) (sym e)

clause_alike : (short : LineKind) (id : ℕ) (ws : Words) → LineAlike (clause_at short id ws) (on_clause id (clause_to_zero ws))
clause_alike short id ws = go (items_at lit_said short ws) (clause_to_zero ws) (lits_words short ws)
  where
    hinted : (c : List ℕ) (r : Found (List Hint)) (o : Option (List ℕ)) → hints_end r ≡ o →
        LineAlike (r >>= λ hints. alone (adds id c (map hint_of hints.0)) hints.1) (addition id c o)
    hinted c (Ok (hs, [])) o e = ap (addition id c) (sym e)
    hinted c _ o e = ap (addition id c) (sym e)

    go : (r : Found (List ℕ)) (o : Clause) → lits_end r ≡ o →
        LineAlike (r >>= λ lits. items_at hint_said short lits.1 >>= λ hints. alone (adds id lits.0 (map hint_of hints.0)) hints.1) (on_clause id o)
    go (Ok p) o e = rw (← e) (hinted p.0 (items_at hint_said short p.1) (ids_to_end p.1) (hints_words short p.1))
    go (Err kind) o e = ap (on_clause id) (sym e)

after_alike : (short : LineKind) (n : ℕ) (ws : Words) → LineAlike (after_id short n ws) (line_after n ws)
after_alike short n [] = refl
after_alike short n (w ∷ ws) = by_test (bytes_eq w (codes "d")) (n == 0)
  where
    by_test : (d zero : Bool) → LineAlike (cond d (deletion_at short ws) (cond zero (Err Malformed) (clause_at short n (w ∷ ws))))
        (cond d (deletion n (ids_to_end ws)) (cond zero None (on_clause n (clause_to_zero (w ∷ ws)))))
    by_test true zero = deletion_alike short n ws
    by_test false true = refl
    by_test false false = clause_alike short n (w ∷ ws)

abbrev pub SaysAlike : Result (Option Line) LineKind → Said → Type 0
SaysAlike (Ok None) s = s ≡ text.Nothing
SaysAlike (Ok (Some (adds id c hs))) s = s ≡ said (addition id c (ids_along hs))
SaysAlike (Ok (Some (deletes ids))) s = (number : ℕ) × (s ≡ text.Line (deletes_clauses number ids))
SaysAlike (Err kind) s = s ≡ text.Malformed

said_alike : (r : Result Line LineKind) (o : Option HintLine) → LineAlike r o → SaysAlike (r >>= λ line. Ok (Some line)) (said o)
said_alike (Ok (deletes ids)) o e = (e.0, ap said e.1)
said_alike _ o e = ap said e

same_comment : (w : List ℕ) → lrat.is_comment w ≡ is_comment w
same_comment [] = refl
same_comment (b ∷ bs) = elim (cases_Bool (b == letter_c)) [
  | inl e ↦ rw (eqb-true b 99 e) refl
  | inr e ↦ rw (e, ne_eqb 99 b (λ q. eqb-false b 99 e (sym q))) refl
]

pub says_alike : (short : LineKind) (ws : Words) → SaysAlike (says short ws) (said_by_words ws)
says_alike short [] = refl
says_alike short (w ∷ ws) = by_comment (lrat.is_comment w) (is_comment w) (same_comment w) _ _ (by_number (first_said (number_of w)) (number_of_word w) (word_alike w).2)
  where
    by_comment : (a b : Bool) → a ≡ b → (r : Result (Option Line) LineKind) (s : Said) → SaysAlike r s → SaysAlike (cond a (Ok None) r) (cond b text.Nothing s)
    by_comment true b e r s alike = rw (← e) refl
    by_comment false b e r s alike = rw (← e) alike

    by_number : (r : Result ℕ LineKind) (o : Option ℕ) → IsNumber r o → SaysAlike (r >>= λ id. after_id short id ws >>= λ line. Ok (Some line)) (said (on_number o ws))
    by_number (Ok n) o e = rw e (said_alike (after_id short n ws) (line_after n ws) (after_alike short n ws))
    by_number (Err kind) o e = rw e refl
