-- Entries, by the places of the LFs that end them.
use Rattle.std.proofs.Common.{◌≡◌, ℕ, zero, suc, ◌+◌, ◌<◌, ◌≤◌, Bool, true, false, List, [], ◌∷◌, length, get_or, take, drop, Option, Some, None, Bor, MatchOption, refl, sym, ◌∙◌, ap, subst, arith}
use Rattle.std.specs.List.{onto_first}
use Rattle.index_text.specs.Entries.{ends_entry, entries_of}

-- the first n bytes are the first entry
pub record IsEntry (text : List ℕ) (n : ℕ) : Type 0 where
  pub within : n ≤ length text
  pub inside : (k : ℕ) → k < n → ends_entry (get_or text k 0) (drop (k + 1) text) ≡ false
  pub ends : n < length text → ends_entry (get_or text n 0) (drop (n + 1) text) ≡ true

at_rest : (t : Bool) (b : ℕ) (text : List ℕ) (k : ℕ) → ends_entry (get_or (b ∷ text) (suc k) 0) (drop (suc k + 1) (b ∷ text)) ≡ t → ends_entry (get_or text k 0) (drop (k + 1) text) ≡ t
at_rest t b text k h =
    let e : suc k + 1 ≡ suc (k + 1) = omega arith in
    subst (λ (n : ℕ). ends_entry (get_or text k 0) (drop n (b ∷ text)) ≡ t) e h

entry_rest : (b : ℕ) (text : List ℕ) (n : ℕ) → IsEntry (b ∷ text) (suc n) → IsEntry text n
entry_rest b text n p = record {
  within = omega (arith, p.within);
  inside = λ k lt. at_rest false b text k (p.inside (suc k) (omega (arith, lt)));
  ends = λ lt. at_rest true b text n (p.ends (omega (arith, lt)));
}

-- the entries after the LF of the first
abbrev pub entries_after : List ℕ → List (List ℕ)
entries_after [] = []
entries_after (b ∷ bs) = entries_of bs

pub entries-split : (text : List ℕ) (n : ℕ) → IsEntry text n → entries_of text ≡ take n text ∷ entries_after (drop n text)
entries-split [] zero p = refl
entries-split [] (suc n) p = absurd (omega (arith, p.within))
entries-split (b ∷ text) zero p = rw (p.ends (omega arith)) refl
entries-split (b ∷ text) (suc n) p = rw (p.inside 0 (omega arith)) (ap (onto_first b) (entries-split text n (entry_rest b text n p)))

-- the first entry, and the others, if an LF ends it
pub entry_found : (text entry behind : List ℕ) (n : ℕ) (r : Option (Bor (List ℕ))) → IsEntry text n → entry ≡ take n text → behind ≡ drop n text →
    MatchOption r (behind ≡ []) (λ rest. (b : ℕ) × (behind ≡ b ∷ rest.now)) →
    MatchOption r (entries_of text ≡ entry ∷ []) (λ rest. entries_of text ≡ entry ∷ entries_of rest.now)
entry_found text entry behind n None p front back h =
    entries-split text n p ∙ ap (λ (bs : List ℕ). take n text ∷ entries_after bs) (sym back ∙ h) ∙ ap (λ (e : List ℕ). e ∷ []) (sym front)
entry_found text entry behind n (Some rest) p front back h =
    entries-split text n p ∙ ap (λ (bs : List ℕ). take n text ∷ entries_after bs) (sym back ∙ h.1) ∙ ap (λ (e : List ℕ). e ∷ entries_of rest.now) (sym front)
