-- What a converter has converted, a step more.
--     hash-is      the hash of its hasher is that of the rules
--     converted_add, cause_add      a line that adds a clause
--     converted_delete      a clause that is removed
--     stopped_before, stopped_add, stopped_all      a line that was given up
use Rattle.std.proofs.Common.{◌≡◌, ℕ, false, List, [], ◌++◌, inl, inr, Option, Result, Ok, Err, refl, sym, ap, ◌∙◌, subst, cond}
use Rattle.std.specs.Prelude.{is_some}
use Rattle.checker_rules.specs.State.{clause_hash}
use Rattle.clause_store.specs.StateOf.{applied_of, hash_of}
use Rattle.clause_store.specs.declared.hash.ClauseHasher.{ClauseHasher}
use Rattle.lrat_rules.specs.Lines.{Hint}
use Rattle.lrat_to_proof.specs.Converting.{Converted, add_line, added, delete_all, delete_one, deletion, derivation, gather, no_name}
use Rattle.lrat_to_proof.specs.Faults.{IsCause}
use Rattle.lrat_to_proof.specs.Holding.{Holding, drop_entry, from_line, hold}
use Rattle.lrat_to_proof.specs.Standing.{HasBegun, HasConverted, HasWritten, Reaches, StopsIn, holding_of}
use Rattle.lrat_to_proof.specs.declared.converter.Converter.{Converter}
use Rattle.lrat_to_proof.specs.declared.fault.LineCause.{LineCause}
use Rattle.lrat_to_proof.specs.declared.fault.LineCause.TheVariants.{IdTaken}
use Rattle.lrat_to_proof.specs.declared.fault.Stop.{Stop}
use Rattle.lrat_to_proof.specs.declared.fault.Stop.TheVariants.{GivenUp, Refused}
use Rattle.lrat_to_proof.proofs.BegunLemmas.{begun_whole}

module _ (width : ℕ) (start old : Option (List ℕ)) (c : Converted) (x : Converter) (h : HasConverted width start old c x) where
  -- the hash of its hasher is that of the rules
  pub hash-is : hash_of x.hasher ≡ clause_hash no_name width
  hash-is = ap (λ names. clause_hash names x.hasher.hash_bits) h.names ∙ ap (λ bits. clause_hash no_name bits) h.bits

  -- what is gathered over the parts is what the rules gather
  gathered : (hints : List Hint) → gather (hash_of x.hasher) (holding_of x.held) [] hints ≡ gather (clause_hash no_name width) c.held [] hints
  gathered hints = ap (λ hash. gather hash (holding_of x.held) [] hints) hash-is ∙ ap (λ held. gather (clause_hash no_name width) held [] hints) h.held

  module _ (i : ℕ) (lits : List ℕ) (hints : List Hint) where
    module _ (free : is_some ((holding_of x.held).entries i) ≡ false) where
      on_free : add_line width c i lits hints ≡ added c i (from_line lits) (gather (clause_hash no_name width) c.held [] hints)
      on_free = ap (λ b. cond b (Err IdTaken) (added c i (from_line lits) (gather (clause_hash no_name width) c.held [] hints))) (ap (λ (held : Holding). is_some (held.entries i)) (sym h.held) ∙ free)

      -- hints that are rejected
      pub cause_of_hints : (stop : Stop) → IsCause stop (gather (hash_of x.hasher) (holding_of x.held) [] hints) → IsCause stop (add_line width c i lits hints)
      cause_of_hints (Refused cause) e = on_free ∙ ap (added c i (from_line lits)) (sym (gathered hints) ∙ e)
      cause_of_hints (GivenUp why) e = tt

      -- a clause that is added
      pub converted_add : (new : Option (List ℕ)) (y : Converter) (hashes : List ℕ) → gather (hash_of x.hasher) (holding_of x.held) [] hints ≡ Ok hashes →
          HasWritten start new (c.steps ++ derivation (from_line lits).lits hashes) y.steps → holding_of y.held ≡ hold i (from_line lits) (holding_of x.held) → y.hasher ≡ x.hasher →
          Reaches width start new (add_line width c i lits hints) y
      converted_add new y hashes e written held hasher = record {
        after = record { steps = c.steps ++ derivation (from_line lits).lits hashes; held = hold i (from_line lits) c.held };
        ran = on_free ∙ ap (added c i (from_line lits)) (sym (gathered hints) ∙ e);
        stands = record {
          written = written;
          held = held ∙ ap (hold i (from_line lits)) h.held;
          bits = ap (λ (z : ClauseHasher). z.hash_bits) hasher ∙ h.bits;
          names = subst (λ (z : ClauseHasher). applied_of z ≡ no_name) (sym hasher) h.names;
        };
      }

      -- a clause of which not all was done, once its hints were gathered
      pub stopped_add : (new : Option (List ℕ)) (hashes : List ℕ) → gather (hash_of x.hasher) (holding_of x.held) [] hints ≡ Ok hashes →
          HasBegun start new (c.steps ++ derivation (from_line lits).lits hashes) → StopsIn start new c (add_line width c i lits hints)
      stopped_add new hashes e begun = record {
        upto = record { steps = c.steps ++ derivation (from_line lits).lits hashes; held = hold i (from_line lits) c.held };
        is = inr (on_free ∙ ap (added c i (from_line lits)) (sym (gathered hints) ∙ e));
        begun = begun;
      }

  -- a line of which nothing was written
  pub stopped_before : (r : Result Converted LineCause) → StopsIn start old c r
  stopped_before r = record { upto = c; is = inl refl; begun = begun_whole start old c.steps h.written.bytes }

  -- clauses of which not all are gone
  pub stopped_all : (ids : List ℕ) (new : Option (List ℕ)) → HasBegun start new (delete_all c ids).steps → StopsIn start new c (Ok (delete_all c ids))
  stopped_all ids new begun = record { upto = delete_all c ids; is = inr refl; begun = begun }

  -- a clause that is removed
  pub converted_delete : (i : ℕ) (new : Option (List ℕ)) (y : Converter) → HasWritten start new (c.steps ++ deletion ((holding_of x.held).entries i)) y.steps →
      holding_of y.held ≡ drop_entry i (holding_of x.held) → y.hasher ≡ x.hasher → HasConverted width start new (delete_one c i) y
  converted_delete i new y written held hasher = record {
    written = subst (λ (k : Holding). HasWritten start new (c.steps ++ deletion (k.entries i)) y.steps) h.held written;
    held = held ∙ ap (drop_entry i) h.held;
    bits = ap (λ (z : ClauseHasher). z.hash_bits) hasher ∙ h.bits;
    names = subst (λ (z : ClauseHasher). applied_of z ≡ no_name) (sym hasher) h.names;
  }
