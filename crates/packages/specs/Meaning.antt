-- Packages as the definitions have them.
--     package_of p      the package that was read
--     group_of g, need_of d      a group of needs;  a need
use Rattle.std.specs.Prelude.{List, map}
use Rattle.std.specs.Option.{option_map}
use Rattle.package_rules.specs.Packages as rules
use Rattle.packages.specs.declared.package.Bound.{Bound}
use Rattle.packages.specs.declared.package.Feature.{Feature}
use Rattle.packages.specs.declared.package.Group.{Group}
use Rattle.packages.specs.declared.package.Need.{Need}
use Rattle.packages.specs.declared.package.Package.{Package}
use Rattle.packages.specs.declared.package.Relation.{Relation}
use Rattle.packages.specs.declared.package.Relation.TheVariants.{Less, LessOrEqual, Equal, GreaterOrEqual, Greater}

-- a relation
abbrev pub relation_of : Relation → rules.Relation
relation_of Less = rules.less
relation_of LessOrEqual = rules.less_or_equal
relation_of Equal = rules.equal
relation_of GreaterOrEqual = rules.greater_or_equal
relation_of Greater = rules.greater

-- which versions will do
abbrev pub bound_of : Bound → rules.Bound
bound_of b = record { relation = relation_of b.relation; version = b.version.items }

-- a need
abbrev pub need_of : Need → rules.Need
need_of d = record { name = d.name.items; bound = option_map bound_of d.bound; any = d.any }

-- a group of needs
abbrev pub group_of : Group → List rules.Need
group_of g = map need_of g.needs.items

-- what a package provides
abbrev pub feature_of : Feature → rules.Feature
feature_of f = record { name = f.name.items; version = option_map (λ v. v.items) f.version }

-- a package
abbrev pub package_of : Package → rules.Package
package_of p = record {
  name = p.name.items;
  version = p.version.items;
  depends = map group_of p.depends.items;
  conflicts = map need_of p.conflicts.items;
  provides = map feature_of p.provides.items;
  allows_any = p.allows_any;
}
