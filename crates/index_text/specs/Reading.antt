-- What calls that read an index answer.
--     relation_seen, relations_seen, groups_seen      what was read, with bytes in place of references to them
--     Says seen said r, ReadsAs seen said r      the answer r, seen so, is what the text says;  or memory ran out
use Rattle.std.specs.Prelude.{◌≡◌, List, map, Result, Ok, Err, Vec}
use Rattle.std.specs.Option.{option_map}
use Rattle.std.specs.Global.{Global}
use Rattle.sat_formula.specs.declared.stop.Stop.{Stop}
use Rattle.sat_formula.specs.declared.stop.Stop.TheVariants as stops
use Rattle.index_text.specs.declared.fault.IndexKind.{IndexKind}
use Rattle.index_text.specs.declared.relation.Bound.{Bound}
use Rattle.index_text.specs.declared.relation.Relation.{Relation}
use Rattle.index_text.specs.Relations.{BoundSaid, RelationSaid}

-- a bound
abbrev pub bound_seen : Bound → BoundSaid
bound_seen b = record { sign = b.sign; version = b.version.now }

-- a relation
abbrev pub relation_seen : Relation → RelationSaid
relation_seen r = record { name = r.name.now; qualifier = option_map (λ q. q.now) r.qualifier; bound = option_map bound_seen r.bound }

-- relations
abbrev pub relations_seen : List Relation → List RelationSaid
relations_seen rs = map relation_seen rs

-- groups of relations
abbrev pub groups_seen : List (Vec Relation Global) → List (List RelationSaid)
groups_seen gs = map (λ g. relations_seen g.items) gs

-- the text says what was answered, seen so
abbrev pub Says : {X A : Type 0} → (X → A) → Result A IndexKind → Result X IndexKind → Type 0
Says seen said (Ok x) = said ≡ Ok (seen x)
Says seen said (Err kind) = said ≡ Err kind

-- the text says what was answered, seen so, unless memory ran out
abbrev pub ReadsAs : {X A : Type 0} → (X → A) → Result A IndexKind → Result X (Stop IndexKind) → Type 0
ReadsAs seen said (Ok x) = said ≡ Ok (seen x)
ReadsAs seen said (Err stops.End) = ⊥
ReadsAs seen said (Err stops.Read) = ⊥
ReadsAs seen said (Err (stops.Wrong kind)) = said ≡ Err kind
ReadsAs seen said (Err stops.OutOfMemory) = Unit {0}
