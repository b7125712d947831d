-- What stands in a line.
--     Content      an id, literals as codes, and hints or other ids
--     content_of lists      that which was read
--     with_item c item      with one number more
--     with_lits c lits      with other literals
use Rattle.std.specs.Prelude.{ℕ, Bool, true, false, List, [], ◌∷◌, ◌++◌}
use Rattle.session_text.specs.declared.line.Item.{Item}
use Rattle.session_text.specs.declared.line.Item.TheVariants as items
use Rattle.session_text.specs.declared.line.LineKind.{LineKind}
use Rattle.session_text.specs.declared.line.LineKind.TheVariants.{Answer, Clause, Core, Deletion, Failed, Lemma, Model, Query, Several, Trail, Values, Weakening}
use Rattle.session_text.specs.declared.line.Lists.{Lists}

-- an id, or 0 where the line has none; literals as codes; hints, or the ids of a deletion or a weakening
pub record Content : Type 0 where
  pub id : ℕ
  pub lits : List ℕ
  pub ids : List ℕ

-- what was read
abbrev pub content_of : Lists → Content
content_of c = record { id = c.id; lits = c.lits.items; ids = c.ids.items }

-- nothing
abbrev pub no_content : Content
no_content = record { id = 0; lits = []; ids = [] }

-- one number more
abbrev pub with_item : Content → Item → Content
with_item c (items.Id i) = record c { id = i }
with_item c (items.Lit l) = record c { lits = c.lits ++ l ∷ [] }
with_item c (items.Hint i) = record c { ids = c.ids ++ i ∷ [] }

-- other literals
abbrev pub with_lits : Content → List ℕ → Content
with_lits c lits = record c { lits = lits }

-- hints follow the literals
abbrev pub has_hints : LineKind → Bool
has_hints Clause = false
has_hints Lemma = true
has_hints Deletion = false
has_hints Weakening = false
has_hints Query = false
has_hints (Answer status) = false
has_hints Model = false
has_hints Core = true
has_hints Trail = false
has_hints (Several count) = false
has_hints Values = false
has_hints Failed = false
