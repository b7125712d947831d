-- Lists of parts, one after the other.
use Rattle.std.proofs.Common.{◌≡◌, ℕ, Bool, true, false, List, [], ◌∷◌, ◌++◌, Option, Some, None, Result, Ok, Err, Bor, Vec, MatchOption, refl, ap, append_assoc, sym, ◌∙◌}
use Rattle.std.specs.Prelude.{◌==◌, if◌then◌else◌}
use Rattle.std.specs.List.{list_all, onto_first}
use Rattle.index_text.specs.declared.class.Class.TheVariants.{Not}
use Rattle.index_text.specs.declared.fault.IndexKind.{IndexKind}
use Rattle.index_text.specs.Classes.{behind, is_of, leading}
use Rattle.index_text.specs.Lists.{each, is_feature, parts_of, provides_of, relations_in}
use Rattle.std.specs.Global.{Global}
use Rattle.std.proofs.lemmas.List.{map-append}
use Rattle.std.proofs.lemmas.List.Folds.{list_all-map}
use Rattle.sat_formula.specs.declared.stop.Stop.{Stop}
use Rattle.sat_formula.specs.declared.stop.Stop.TheVariants as stops
use Rattle.index_text.specs.declared.fault.IndexKind.TheVariants.{BadFeature}
use Rattle.index_text.specs.declared.relation.Relation.{Relation}
use Rattle.index_text.specs.Reading.{ReadsAs, groups_seen, relation_seen, relations_seen}
use Rattle.index_text.specs.Relations.{RelationSaid, ◌>>=◌}

-- what was read before, and what is still read
abbrev pub with_front : {A : Type 0} → List A → Result (List A) IndexKind → Result (List A) IndexKind
with_front front read = read >>= λ xs. Ok (front ++ xs)

-- the parts after the first, by what follows it
abbrev pub parts_behind : ℕ → List ℕ → List (List ℕ)
parts_behind separator [] = []
parts_behind separator (b ∷ bs) = parts_of separator bs

part_more : (separator b : ℕ) (bs : List ℕ) (same : Bool) → (b == separator) ≡ same →
    parts_of separator bs ≡ leading (is_of (Not separator)) bs ∷ parts_behind separator (behind (is_of (Not separator)) bs) →
    parts_of separator (b ∷ bs) ≡ leading (is_of (Not separator)) (b ∷ bs) ∷ parts_behind separator (behind (is_of (Not separator)) (b ∷ bs))
part_more separator b bs true e rest = rw e refl
part_more separator b bs false e rest = rw e (ap (onto_first b) rest)

-- the first part, and the others
pub parts_split : (separator : ℕ) (text : List ℕ) → parts_of separator text ≡ leading (is_of (Not separator)) text ∷ parts_behind separator (behind (is_of (Not separator)) text)
parts_split separator [] = refl
parts_split separator (b ∷ bs) = part_more separator b bs (b == separator) refl (parts_split separator bs)

-- the first part, and the others, if a separator ends it
pub part_found : (separator : ℕ) (text part behind_part : List ℕ) (r : Option (Bor (List ℕ))) → part ≡ leading (is_of (Not separator)) text →
    behind_part ≡ behind (is_of (Not separator)) text → MatchOption r (behind_part ≡ []) (λ rest. (b : ℕ) × (behind_part ≡ b ∷ rest.now)) →
    MatchOption r (parts_of separator text ≡ part ∷ []) (λ rest. parts_of separator text ≡ part ∷ parts_of separator rest.now)
part_found separator text part behind_part None front back h =
    parts_split separator text ∙ ap (λ (bs : List ℕ). leading (is_of (Not separator)) text ∷ parts_behind separator bs) (sym back ∙ h)
    ∙ ap (λ (bs : List ℕ). bs ∷ []) (sym front)
part_found separator text part behind_part (Some rest) front back h =
    parts_split separator text ∙ ap (λ (bs : List ℕ). leading (is_of (Not separator)) text ∷ parts_behind separator bs) (sym back ∙ h.1)
    ∙ ap (λ (bs : List ℕ). bs ∷ parts_of separator rest.now) (sym front)

-- there is a first part
pub some_part : (separator : ℕ) (text part : List ℕ) (r : Option (Bor (List ℕ))) →
    MatchOption r (parts_of separator text ≡ part ∷ []) (λ rest. parts_of separator text ≡ part ∷ parts_of separator rest.now) →
    (later : List (List ℕ)) × (parts_of separator text ≡ part ∷ later)
some_part separator text part None h = ([], h)
some_part separator text part (Some rest) h = (parts_of separator rest.now, h)

-- ---- what parts say; `all` is what was read with one part more

front_more : {A : Type 0} (front : List A) (x : A) (later : Result (List A) IndexKind) →
    with_front front (later >>= λ xs. Ok (x ∷ xs)) ≡ with_front (front ++ x ∷ []) later
front_more front x (Ok xs) = ap (λ l. Ok l) (sym (append_assoc front (x ∷ []) xs))
front_more front x (Err kind) = refl

pub each_on : {A : Type 0} (said : List ℕ → Result A IndexKind) (parts : List (List ℕ)) (first : List ℕ) (later : List (List ℕ)) (x : A) (front all : List A) →
    parts ≡ first ∷ later → said first ≡ Ok x → all ≡ front ++ x ∷ [] → with_front front (each said parts) ≡ with_front all (each said later)
each_on said parts first later x front all e ok more = rw (e, ok, more) (front_more front x (each said later))

pub each_last : {A : Type 0} (said : List ℕ → Result A IndexKind) (parts : List (List ℕ)) (first : List ℕ) (x : A) (front all : List A) →
    parts ≡ first ∷ [] → said first ≡ Ok x → all ≡ front ++ x ∷ [] → with_front front (each said parts) ≡ Ok all
each_last said parts first x front all e ok more = rw (e, ok, more) refl

pub each_fails : {A : Type 0} (said : List ℕ → Result A IndexKind) (parts : List (List ℕ)) (first : List ℕ) (later : List (List ℕ)) (kind : IndexKind) (front : List A) →
    parts ≡ first ∷ later → said first ≡ Err kind → with_front front (each said parts) ≡ Err kind
each_fails said parts first later kind front e fault = rw (e, fault) refl

-- a fault of a part is one of the whole
pub fails_as : {X Y A B : Type 0} (seen : X → A) (seen_whole : Y → B) (said : Result A IndexKind) (whole : Result B IndexKind) (stop : Stop IndexKind) →
    ((kind : IndexKind) → said ≡ Err kind → whole ≡ Err kind) → ReadsAs seen said (Err stop) → ReadsAs seen_whole whole (Err stop)
fails_as seen seen_whole said whole stops.End f h = h
fails_as seen seen_whole said whole stops.Read f h = h
fails_as seen seen_whole said whole (stops.Wrong kind) f h = f kind h
fails_as seen seen_whole said whole stops.OutOfMemory f h = tt

-- ---- what is seen of lists

pub relations-more : (old new : List Relation) (x : Relation) → new ≡ old ++ x ∷ [] → relations_seen new ≡ relations_seen old ++ relation_seen x ∷ []
relations-more old new x e = ap relations_seen e ∙ map-append relation_seen old (x ∷ [])

pub groups-more : (old new : List (Vec Relation Global)) (x : Vec Relation Global) → new ≡ old ++ x ∷ [] → groups_seen new ≡ groups_seen old ++ relations_seen x.items ∷ []
groups-more old new x e = ap groups_seen e ∙ map-append (λ (g : Vec Relation Global). relations_seen g.items) old (x ∷ [])

-- ---- features

pub provides_judged : (text : List ℕ) (rs : List Relation) (fine : Bool) → relations_in 44 text ≡ Ok (relations_seen rs) →
    list_all (λ r. is_feature (relation_seen r)) rs ≡ fine → provides_of text ≡ (if fine then Ok (relations_seen rs) else Err BadFeature)
provides_judged text rs fine e t =
    ap (λ (r : Result (List RelationSaid) IndexKind). r >>= λ xs. if list_all is_feature xs then Ok xs else Err BadFeature) e
    ∙ ap (λ (b : Bool). if b then Ok (relations_seen rs) else Err BadFeature) (list_all-map is_feature relation_seen rs ∙ t)
