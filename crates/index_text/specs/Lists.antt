-- Lists of relations: what fields of a package say.
--     groups_of text      of each group one relation is to hold: Depends
--     conflicts_of text      none of these: Conflicts
--     provides_of text      features: Provides
use Rattle.std.specs.Prelude.{ℕ, Bool, true, false, not, ◌&&◌, List, [], ◌∷◌, Option, Some, None, is_some, Result, Ok, Err, ◌==◌, if◌then◌else◌}
use Rattle.std.specs.List.{list_all, slice_split}
use Rattle.index_text.specs.declared.fault.IndexKind.{IndexKind}
use Rattle.index_text.specs.declared.fault.IndexKind.TheVariants.{BadFeature}
use Rattle.index_text.specs.declared.relation.Sign.{Sign}
use Rattle.index_text.specs.declared.relation.Sign.TheVariants.{Earlier, AtMost, Exactly, AtLeast, Later}
use Rattle.index_text.specs.Relations.{BoundSaid, RelationSaid, ◌>>=◌, relation_of}

-- what the parts say, up to the first fault
abbrev pub each : {A : Type 0} → (List ℕ → Result A IndexKind) → List (List ℕ) → Result (List A) IndexKind
each said [] = Ok []
each said (part ∷ parts) = said part >>= λ x. each said parts >>= λ xs. Ok (x ∷ xs)

-- what is between these bytes
abbrev pub parts_of : ℕ → List ℕ → List (List ℕ)
parts_of separator text = slice_split (λ b. b == separator) text

-- relations with this byte between two
abbrev pub relations_in : ℕ → List ℕ → Result (List RelationSaid) IndexKind
relations_in separator text = each relation_of (parts_of separator text)

-- groups with `,` between two, each of relations with `|` between two
abbrev pub groups_of : List ℕ → Result (List (List RelationSaid)) IndexKind
groups_of text = each (relations_in 124) (parts_of 44 text)

-- relations with `,` between two
abbrev pub conflicts_of : List ℕ → Result (List RelationSaid) IndexKind
conflicts_of text = relations_in 44 text

-- it is `=`
abbrev pub is_exactly : Sign → Bool
is_exactly Earlier = false
is_exactly AtMost = false
is_exactly Exactly = true
is_exactly AtLeast = false
is_exactly Later = false

-- the bound is an `=` and a version, or there is none
abbrev pub is_exact : Option BoundSaid → Bool
is_exact None = true
is_exact (Some b) = is_exactly b.sign

-- the relation can be provided
abbrev pub is_feature : RelationSaid → Bool
is_feature r = not (is_some r.qualifier) && is_exact r.bound

-- features with `,` between two
abbrev pub provides_of : List ℕ → Result (List RelationSaid) IndexKind
provides_of text = relations_in 44 text >>= λ rs. if list_all is_feature rs then Ok rs else Err BadFeature
