-- What the parts of a converter represent.
--     entry_of derived c, holding_of x      a clause that is held;  all of them
--     HasWritten start now steps w      the writer wrote these steps, after what the output held at the start
--     HasBegun start now steps      a beginning of their bytes was written
--     HasConverted width start now c x      the converter has converted so far
--     Reaches width start now r x      as far as the rules say
--     StopsIn start now c r      a line was not written whole
use Rattle.std.specs.Prelude.{◌≡◌, ◌⊎◌, ℕ, Bool, List, Option, Result, Ok, nat_eq}
use Rattle.std.specs.HashSet.{contains}
use Rattle.std.specs.Io.KnownBytes.{Appends}
use Rattle.std.specs.Option.{option_map}
use Rattle.checker_rules.specs.Step.{Step}
use Rattle.clause_store.specs.StateOf.{applied_of}
use Rattle.clause_table.specs.Named.{clause_of}
use Rattle.proof_bytes.specs.declared.format.Format.TheVariants as formats
use Rattle.proof_bytes.specs.ProofWriter.{format_in}
use Rattle.proof_bytes.specs.Texts.{AreSteps}
use Rattle.proof_bytes.specs.Version2.{text_2, written_after}
use Rattle.whole_writes.specs.Beginnings.{AppendsBeginning}
use Rattle.lrat_to_proof.specs.declared.converter.Converter.{Converter}
use Rattle.lrat_to_proof.specs.declared.fault.LineCause.{LineCause}
use Rattle.lrat_to_proof.specs.declared.holding.Holding as parts
use Rattle.lrat_to_proof.specs.declared.steps.StepWriter.{StepWriter}
use Rattle.lrat_to_proof.specs.Converting.{Converted, no_name}
use Rattle.lrat_to_proof.specs.Holding.{Entry, Holding}

-- a clause that is held, and whether a line added it
abbrev pub entry_of : Bool → List ℕ → Entry
entry_of derived c = record { derived = derived; lits = c }

-- whether a line added the clause of an id, where it is there
abbrev pub is_derived : parts.Holding → ℕ → Bool
is_derived x i = contains nat_eq x.derived i

-- the literals that are units
abbrev pub units_of : parts.Holding → ℕ → Bool
units_of x m = contains nat_eq x.units m

-- all clauses that are held
abbrev pub holding_of : parts.Holding → Holding
holding_of x = record {
  entries = λ i. option_map (entry_of (is_derived x i)) (clause_of x.clauses i);
  units = units_of x;
  refuted = x.refuted;
}

-- the writer wrote the bytes of these steps, and nothing else; each of them can be read again
pub record HasWritten (start now : Option (List ℕ)) (steps : List Step) (w : StepWriter) : Type 0 where
  pub bytes : Appends start now (text_2 steps)
  pub format : format_in w.writer ≡ written_after steps
  pub fits : AreSteps (formats.Bytes 64) steps

-- the output holds a beginning of the bytes of these steps, after what it held at the start
abbrev pub HasBegun : Option (List ℕ) → Option (List ℕ) → List Step → Type 0
HasBegun start now steps = AppendsBeginning start now (text_2 steps)

-- the converter has converted so far, with hashes of this width
pub record HasConverted (width : ℕ) (start now : Option (List ℕ)) (c : Converted)
    (x : Converter) : Type 0 where
  pub written : HasWritten start now c.steps x.steps
  pub held : holding_of x.held ≡ c.held
  pub bits : x.hasher.hash_bits ≡ width
  pub names : applied_of x.hasher ≡ no_name

-- the converter has converted as the rules say, and they reject nothing
pub record Reaches (width : ℕ) (start now : Option (List ℕ)) (r : Result Converted LineCause)
    (x : Converter) : Type 0 where
  pub after : Converted
  pub ran : r ≡ Ok after
  pub stands : HasConverted width start now after x

-- a line was given up: a beginning was written of the steps before it, or where the rules do not reject it, of these and its own
pub record StopsIn (start now : Option (List ℕ)) (c : Converted) (r : Result Converted LineCause) :
    Type 0 where
  pub upto : Converted
  pub is : (upto ≡ c) ⊎ (r ≡ Ok upto)
  pub begun : HasBegun start now upto.steps
