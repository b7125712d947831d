-- What letters and numbers say in a line.
--     header format, needs_header format b      the header of a text;  a text that begins with this byte needs it
--     due_after format b      what comes after the letter of a line
--     number_said due negative v, group_said due v      what a number says: one more of a list, its end, that of the line, or a fault
use Rattle.std.specs.Prelude.{ℕ, Bool, true, false, List, [], ◌∷◌, codes, Option, Some, None, Result, Ok, Err, ◌==◌, if◌then◌else◌}
use Rattle.session_text.specs.declared.fault.TextKind.{TextKind}
use Rattle.session_text.specs.declared.fault.TextKind.TheVariants.{Malformed}
use Rattle.session_text.specs.declared.format.Format.{Format}
use Rattle.session_text.specs.declared.format.Format.TheVariants.{Icnf, Lidrup}
use Rattle.session_text.specs.declared.said.Said.{Said}
use Rattle.session_text.specs.declared.said.Said.TheVariants.{Last, Next, Turns, Wrong}
use Rattle.session_text.specs.declared.line.Item.TheVariants as items
use Rattle.session_text.specs.declared.line.LineKind.{LineKind}
use Rattle.session_text.specs.declared.line.LineKind.TheVariants.{Clause, Core, Deletion, Failed, Lemma, Model, Query, Several, Trail, Values, Weakening}
use Rattle.session_text.specs.declared.spot.Due.{Due}
use Rattle.session_text.specs.declared.spot.Due.TheVariants as dues
use Rattle.session_text.specs.Content.{has_hints}
use Rattle.session_text.specs.Numbers.{code_said, id_said, lit_said}

-- the header
abbrev pub header : Format → List ℕ
header Icnf = codes "p icnf"
header Lidrup = codes "p lidrup"

-- a text that begins with this byte needs a header
abbrev pub needs_header : Format → ℕ → Bool
needs_header Icnf b = true
needs_header Lidrup b = b == 112

-- the letters with which lines begin
abbrev pub letters : Format → List ℕ
letters Icnf = codes "iqvmfu"
letters Lidrup = codes "ildwrqmuUe"

-- what is due after each of them
abbrev pub dues_of : Format → List Due
dues_of Icnf =
    dues.Lit Clause ∷ dues.Lit Query ∷ dues.Lit Values ∷ dues.Lit Values ∷ dues.Lit Failed
    ∷ dues.Lit Failed ∷ []
dues_of Lidrup =
    dues.Id Clause ∷ dues.Id Lemma ∷ dues.Hint Deletion ∷ dues.Hint Weakening ∷ dues.Hint Weakening
    ∷ dues.Lit Query ∷ dues.Lit Model ∷ dues.Lit Core ∷ dues.Count ∷ dues.Lit Trail ∷ []

-- the due that has the place of this letter
abbrev pub due_at : ℕ → List ℕ → List Due → Option Due
due_at b (x ∷ xs) (due ∷ more) = if b == x then Some due else due_at b xs more
due_at b [] more = None
due_at b (x ∷ xs) [] = None

-- what is due after the letter of a line
abbrev pub due_after : Format → ℕ → Option Due
due_after format b = due_at b (letters format) (dues_of format)

-- ---- numbers

-- among the literals of a line
abbrev pub lits_said : LineKind → Result (Option ℕ) TextKind → Said
lits_said kind (Ok (Some lit)) = Next (items.Lit lit) (dues.Lit kind)
lits_said kind (Ok None) = if has_hints kind then Turns (dues.Hint kind) else Last kind
lits_said kind (Err wrong) = Wrong wrong

-- among its ids
abbrev pub ids_said : LineKind → Result (Option ℕ) TextKind → Said
ids_said kind (Ok (Some i)) = Next (items.Hint i) (dues.Hint kind)
ids_said kind (Ok None) = Last kind
ids_said kind (Err wrong) = Wrong wrong

-- as the id of its clause
abbrev pub id_read : LineKind → Result (Option ℕ) TextKind → Said
id_read kind (Ok (Some i)) = Next (items.Id i) (dues.Lit kind)
id_read kind (Ok None) = Wrong Malformed
id_read kind (Err wrong) = Wrong wrong

-- as how many cores follow
abbrev pub count_read : Result (Option ℕ) TextKind → Said
count_read (Ok (Some n)) = Last (Several n)
count_read (Ok None) = Wrong Malformed
count_read (Err wrong) = Wrong wrong

-- a number of this value, after a `-` or not
abbrev pub number_said : Due → Bool → ℕ → Said
number_said (dues.Lit kind) negative v = lits_said kind (lit_said negative v)
number_said (dues.Hint kind) negative v = ids_said kind (id_said negative v)
number_said (dues.Id kind) negative v = id_read kind (id_said negative v)
number_said dues.Count negative v = count_read (id_said negative v)

-- a number of this value, in binary
abbrev pub group_said : Due → ℕ → Said
group_said (dues.Lit kind) v = lits_said kind (code_said v)
group_said (dues.Hint kind) v = ids_said kind (id_said false v)
group_said (dues.Id kind) v = id_read kind (id_said false v)
group_said dues.Count v = count_read (id_said false v)
