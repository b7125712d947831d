-- Worked texts: versions, relations, and stanzas.
use Rattle.std.specs.Prelude.{◌≡◌, true, false, [], ◌∷◌, codes, Some, None, Ok, Err}
use Rattle.index_text.specs.declared.fault.IndexKind.TheVariants.{Malformed, EmptyRelation, BadName, BadQualifier, BadSign, ObsoleteSign, BadVersion, Alternatives, BadFeature, Restriction, NoField, Unfinished}
use Rattle.index_text.specs.declared.relation.Sign.TheVariants.{Earlier, Exactly, AtLeast}
use Rattle.index_text.specs.Lists.{conflicts_of, groups_of, provides_of}
use Rattle.index_text.specs.Relations.{relation_of}
use Rattle.index_text.specs.Stanzas.{Faulty, Stanzas, stanzas_of}
use Rattle.index_text.specs.Versions.{is_version}

-- one fact a row; `dpkg --validate-version` says the same
pub record VersionRows : Type 0 where
  pub whole : is_version (codes "1:2.30-1") ≡ true
  pub tilde : is_version (codes "2.0~rc1") ≡ true
  pub two_hyphens : is_version (codes "0-1-2") ≡ true
  pub second_colon : is_version (codes "1:1:2") ≡ true
  pub no_digit : is_version (codes "a1") ≡ false
  pub no_revision : is_version (codes "1.0-") ≡ false
  pub empty_epoch : is_version (codes ":1") ≡ false
  pub epoch_alone : is_version (codes "1:") ≡ false
  pub no_epoch : is_version (codes "1.0:1") ≡ false
  pub other_byte : is_version (codes "1_2") ≡ false
  pub empty : is_version [] ≡ false

-- one fact a row
pub record RelationRows : Type 0 where
  pub name : relation_of (codes " g++ ") ≡ Ok (record { name = codes "g++"; qualifier = None; bound = None })
  pub whole : relation_of (codes "python3:any (>= 3.11.2-1~)") ≡ Ok (record {
    name = codes "python3";
    qualifier = Some (codes "any");
    bound = Some (record { sign = AtLeast; version = codes "3.11.2-1~" });
  })
  pub no_spaces : relation_of (codes "ab(<<1)") ≡ Ok (record { name = codes "ab"; qualifier = None; bound = Some (record { sign = Earlier; version = codes "1" }) })
  pub empty : relation_of (codes " ") ≡ Err EmptyRelation
  pub short_name : relation_of (codes "a") ≡ Err BadName
  pub upper_case : relation_of (codes "Ab") ≡ Err BadName
  pub no_qualifier : relation_of (codes "ab: any") ≡ Err BadQualifier
  pub obsolete : relation_of (codes "ab (> 1)") ≡ Err ObsoleteSign
  pub no_sign : relation_of (codes "ab (1)") ≡ Err BadSign
  pub no_version : relation_of (codes "ab (>= a)") ≡ Err BadVersion
  pub not_closed : relation_of (codes "ab (>= 1") ≡ Err Malformed
  pub architectures : relation_of (codes "ab [amd64]") ≡ Err Restriction
  pub profile : relation_of (codes "ab (>= 1) <!nocheck>") ≡ Err Restriction
  pub two : relation_of (codes "ab cd") ≡ Err Malformed
  pub groups : groups_of (codes "ab | cd, ef") ≡ Ok ((record { name = codes "ab"; qualifier = None; bound = None } ∷ record { name = codes "cd"; qualifier = None; bound = None } ∷ []) ∷ (record { name = codes "ef"; qualifier = None; bound = None } ∷ []) ∷ [])
  pub comma_last : groups_of (codes "ab,") ≡ Err EmptyRelation
  pub first_fault : groups_of (codes "ab |, A") ≡ Err EmptyRelation
  pub no_group : groups_of [] ≡ Err EmptyRelation
  pub alternatives : conflicts_of (codes "ab | cd") ≡ Err Alternatives
  pub provided : provides_of (codes "ab (= 1), cd") ≡ Ok (record { name = codes "ab"; qualifier = None; bound = Some (record { sign = Exactly; version = codes "1" }) } ∷ record { name = codes "cd"; qualifier = None; bound = None } ∷ [])
  pub qualified_feature : provides_of (codes "ab:any") ≡ Err BadFeature
  pub bounded_feature : provides_of (codes "ab, cd (>= 1)") ≡ Err BadFeature

-- one fact a row; lines count from 1
pub record StanzaRows : Type 0 where
  pub empty : stanzas_of [] ≡ Stanzas []
  pub empty_lines : stanzas_of (codes "\n\n") ≡ Stanzas []
  pub two : stanzas_of (codes "\nA: b\nC:  d\n e\n\tf\n\n\nG:\n") ≡ Stanzas ((record { line = 2; name = codes "A"; value = codes "b" } ∷ record { line = 3; name = codes "C"; value = codes "d\n e\n\tf" } ∷ [])
      ∷ (record { line = 8; name = codes "G"; value = [] } ∷ []) ∷ [])
  pub no_colon : stanzas_of (codes "A: b\n c\nd\n") ≡ Faulty 3 NoField
  pub no_name : stanzas_of (codes ": b\n") ≡ Faulty 1 NoField
  pub comment : stanzas_of (codes "#A: b\n") ≡ Faulty 1 NoField
  pub space_before_colon : stanzas_of (codes "A : b\n") ≡ Faulty 1 NoField
  pub goes_on_from_nothing : stanzas_of (codes "A: b\n\n c\n") ≡ Faulty 2 NoField
  pub unfinished : stanzas_of (codes "A: b\nC: d") ≡ Faulty 2 Unfinished
