-- What the number that was read does in a line.
use Rattle.std.proofs.Common.{◌≡◌, ℕ, ◌^◌, List, [], ◌∷◌, Result, Ok, Err, refl, sym}
use Rattle.sat_formula.specs.Readings.{Known, Fails, by_byte, by_end}
use Rattle.sat_formula.specs.declared.source.Source.{Source}
use Rattle.sat_formula.specs.Outcome.{next_line}
use Rattle.sat_formula.proofs.Readings.{ends_by, leads_by}
use Rattle.drat_text.specs.declared.fault.DratKind.{DratKind}
use Rattle.sat_formula.specs.declared.stop.Stop.{Stop}
use Rattle.sat_formula.specs.declared.stop.Stop.TheVariants as stops
use Rattle.drat_text.specs.Codes.{Code, code_at}
use Rattle.drat_text.specs.Reading.{FailsCode, TakesCode, cut_off, too_long}
use Rattle.drat_text.proofs.CodeLemmas.{partial_says}
use Rattle.lrat_text.specs.Texts.{Faulty, Outcome}
use Rattle.lrat_binary.specs.declared.ids.Ids.{Ids}
use Rattle.lrat_binary.specs.Kinds.{line_kind}
use Rattle.lrat_binary.specs.Lines.{outcome_at}
use Rattle.lrat_binary.specs.Places.{InNumber, Slot, Within, code_does}
use Rattle.lrat_binary.specs.Reading.{ReadsCode, goes_on}

module _ (ids : Ids) (before : ℕ) (slot : Slot) where
  abbrev says : Code → List ℕ → Outcome
  says code more = goes_on ids before (code_does ids slot code) more

  abbrev pub does : Code × List ℕ → Outcome
  does c = says c.0 c.1

  groups_read : (v w : ℕ) (bytes : List ℕ) → outcome_at ids before (InNumber slot v w) bytes ≡ does (code_at (2 ^ 56) v w bytes)
  unfolding outcome_at
  groups_read v w bytes = partial_says (2 ^ 56) says (λ v w b bs. refl) v w bytes

  -- a number is begun by its first byte
  pub begun_read : (bytes : List ℕ) → outcome_at ids before (Within slot) bytes ≡ does (code_at (2 ^ 56) 0 1 bytes)
  unfolding outcome_at
  begun_read [] = groups_read 0 1 []
  begun_read (b ∷ bs) = groups_read 0 1 (b ∷ bs)

  fails_read : {a b : Known} {kind : DratKind} → FailsCode (2 ^ 56) a b kind → Fails a b (outcome_at ids before (Within slot)) ([], Faulty (next_line before) (line_kind kind))
  unfolding outcome_at
  fails_read (too_long p) = by_byte (leads_by does begun_read p (λ m. refl))
  fails_read (cut_off v w p) = by_end (ends_by does begun_read p)

  -- a number does what its value does
  pub code_read : {R : Type 0} (a b : Known) (source : Source R) (n : Result ℕ (Stop DratKind)) → TakesCode (2 ^ 56) a b source n →
      ReadsCode ids before slot a b (outcome_at ids before (Within slot)) source n
  code_read a b source (Ok n) p = leads_by does begun_read p (λ m. refl)
  code_read a b source (Err stops.Read) p =
      (record { place = InNumber slot p.0.value p.0.weight; leads = leads_by does begun_read p.0.leads (λ m. sym (groups_read p.0.value p.0.weight m)) }, p.1)
  code_read a b source (Err (stops.Wrong kind)) p = fails_read p
  code_read a b source (Err stops.OutOfMemory) p = tt
  code_read a b source (Err stop) p = absurd p
