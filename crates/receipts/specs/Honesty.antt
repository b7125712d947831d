-- What receipts say of the texts whose digests they name.
--     IsSatisfied text      some assignment satisfies the clauses of the text
--     IsHonest text_of receipt      what the receipt says is so, where `text_of` gives the text of each digest
--     StandsFor text_of text      it is the text of its own digest
--     subject_of receipt      the digest of the formula of which the receipt speaks
use Rattle.std.specs.Prelude.{◌≡◌, ℕ, Bool, true, List}
use Rattle.sha2.specs.Sha256.{sha256}
use Rattle.sat_rules.specs.Clauses.{all_true}
use Rattle.sat_formula.specs.Lines.{outcome_of}
use Rattle.sat_formula.specs.Outcome.{Ended}
use Rattle.sat_formula.specs.Refuted.{IsRefuted}
use Rattle.verdicts.specs.Texts.{CarriesText}
use Rattle.receipts.specs.declared.receipt.Receipt.{Receipt}
use Rattle.receipts.specs.declared.receipt.Receipt.TheVariants.{Refuted, Carries, Satisfied}

-- the text has no fault, and some assignment makes all its clauses true
abbrev pub IsSatisfied : List ℕ → Type 0
IsSatisfied text = (clauses : List (List ℕ)) × (outcome_of text ≡ (clauses, Ended))
    × ((a : ℕ → Bool) × (all_true a clauses ≡ true))

-- a digest says nothing of a text by itself: `text_of` says which text was meant by each
abbrev pub IsHonest : (List ℕ → List ℕ) → Receipt → Type 0
IsHonest text_of (Refuted digest) = IsRefuted (text_of digest)
IsHonest text_of (Carries digest next) = CarriesText (text_of digest) (text_of next)
IsHonest text_of (Satisfied digest) = IsSatisfied (text_of digest)

-- whoever made a receipt with this text's digest meant this text
abbrev pub StandsFor : (List ℕ → List ℕ) → List ℕ → Type 0
StandsFor text_of text = text_of (sha256 text) ≡ text

-- the first digest
abbrev pub subject_of : Receipt → List ℕ
subject_of (Refuted digest) = digest
subject_of (Carries digest next) = digest
subject_of (Satisfied digest) = digest
