-- Readings, one after the other.
use Rattle.std.proofs.Common.{◌≡◌, ℕ, Bool, true, false, List, [], ◌∷◌, ◌++◌, Some, None, refl, sym, ap, ◌∙◌, append_assoc, append-nil}
use Rattle.std.specs.Prelude.{IfSome}
use Rattle.std.specs.Io.KnownBytes.{Consumes, Keeps, IsAtEnd}
use Rattle.std.proofs.KnownBytes.{Consumes-trans, Consumes-nil, Consumes-kept}
use Rattle.sat_formula.specs.Readings.{Known, Leads, EndsAll, Continues, Fails, by_byte, by_end}

module _ {O : Type 0} where
  -- nothing is taken
  pub leads_nil : (a : Known) (f : List ℕ → O) → Leads a a f f
  leads_nil a f = record { taken = []; consumed = Consumes-nil a; same = λ m. refl }

  pub leads_on : {a b c : Known} {f g h : List ℕ → O} → Leads a b f g → Leads b c g h → Leads a c f h
  leads_on {a} {b} {c} {f} p q = record {
    taken = p.taken ++ q.taken;
    consumed = Consumes-trans a b c p.taken q.taken p.consumed q.consumed;
    same = λ m. ap f (append_assoc p.taken q.taken m) ∙ p.same (q.taken ++ m) ∙ q.same m;
  }

  pub leads_as : {a b : Known} {f g h : List ℕ → O} → Leads a b f g → ((m : List ℕ) → g m ≡ h m) → Leads a b f h
  leads_as p e = record { taken = p.taken; consumed = p.consumed; same = λ m. p.same m ∙ e m }

  -- one byte more
  pub byte_on : {a b c : Known} {f g h : List ℕ → O} (x : ℕ) → Leads a b f g → Consumes b c (x ∷ []) → ((m : List ℕ) → g (x ∷ m) ≡ h m) → Leads a c f h
  byte_on x p taken e = leads_on p (record { taken = x ∷ []; consumed = taken; same = e })

  pub kept_on : {a b c : Known} {f g : List ℕ → O} → Leads a b f g → Keeps b c → Leads a c f g
  kept_on {a} {b} {c} p k = record { taken = p.taken; consumed = Consumes-kept a b c p.taken p.consumed k; same = p.same }

  pub ends_on : {a b c : Known} {f g : List ℕ → O} {o : O} → Leads a b f g → EndsAll b c g o → EndsAll a c f o
  ends_on {a} {b} {c} p q = record {
    taken = p.taken ++ q.taken;
    consumed = Consumes-trans a b c p.taken q.taken p.consumed q.consumed;
    at_end = q.at_end;
    same = p.same q.taken ∙ q.same;
  }

  pub ends_as : {a b : Known} {f : List ℕ → O} {o u : O} → EndsAll a b f o → o ≡ u → EndsAll a b f u
  ends_as p e = record { taken = p.taken; consumed = p.consumed; at_end = p.at_end; same = p.same ∙ e }

  -- nothing comes any more
  pub end_here : {a b c : Known} {f g : List ℕ → O} → Leads a b f g → Keeps b c → IsAtEnd c → EndsAll a c f (g [])
  end_here {a} {b} {c} {f} p k e = record {
    taken = p.taken;
    consumed = Consumes-kept a b c p.taken p.consumed k;
    at_end = e;
    same = ap f (sym (append-nil p.taken)) ∙ p.same [];
  }

  pub fails_on : {a b c : Known} {f g : List ℕ → O} {o : O} → Leads a b f g → Fails b c g o → Fails a c f o
  fails_on p (by_byte q) = by_byte (leads_on p q)
  fails_on p (by_end q) = by_end (ends_on p q)

  pub continues_as : (a b : Known) (over : Bool) (f : List ℕ → O) {g h : List ℕ → O} → Continues a b over f g → ((m : List ℕ) → g m ≡ h m) → Continues a b over f h
  continues_as a b false f p e = leads_as p e
  continues_as a b true f p e = ends_as p (e [])

  pub continues_on : {a b : Known} (c : Known) (over : Bool) {f g : List ℕ → O} (h : List ℕ → O) → Leads a b f g → Continues b c over g h → Continues a c over f h
  continues_on c false h p q = leads_on p q
  continues_on c true h p q = ends_on p q

  -- ---- where the bytes are known

  -- what f gives of them, whatever comes next
  pub leads_all : (a c : Known) {f : List ℕ → O} (o : O) → Leads a c f (λ m. o) → IfSome a (λ bytes. f bytes ≡ o)
  leads_all None c o p = tt
  leads_all (Some t) None o p = absurd p.consumed
  leads_all (Some t) (Some z) {f} o p = ap f p.consumed ∙ p.same z

  pub ends_all : (a c : Known) {f : List ℕ → O} (o : O) → EndsAll a c f o → IfSome a (λ bytes. f bytes ≡ o)
  ends_all None c o p = tt
  ends_all (Some t) None o p = absurd p.consumed
  ends_all (Some t) (Some z) {f} o p = ap f (p.consumed ∙ ap (λ (m : List ℕ). p.taken ++ m) p.at_end ∙ append-nil p.taken) ∙ p.same

  -- what f gives of all is what g gives of the rest
  pub said_on : (a b : Known) {f g : List ℕ → O} (o : O) → Leads a b f g → IfSome b (λ bytes. g bytes ≡ o) → IfSome a (λ bytes. f bytes ≡ o)
  said_on None b o p h = tt
  said_on (Some t) None o p h = absurd p.consumed
  said_on (Some t) (Some z) {f} o p h = ap f p.consumed ∙ p.same z ∙ h

-- ---- a reading within another one

module _ {O P : Type 0} {a b : Known} (does : O → P) where
  pub leads_under : {f g : List ℕ → O} → Leads a b f g → Leads a b (λ m. does (f m)) (λ m. does (g m))
  leads_under p = record { taken = p.taken; consumed = p.consumed; same = λ m. ap does (p.same m) }

  pub ends_under : {f : List ℕ → O} {o : O} → EndsAll a b f o → EndsAll a b (λ m. does (f m)) (does o)
  ends_under p = record { taken = p.taken; consumed = p.consumed; at_end = p.at_end; same = ap does p.same }

  -- of which another one is made
  pub leads_by : {f g : List ℕ → O} {h k : List ℕ → P} → ((m : List ℕ) → h m ≡ does (f m)) → Leads a b f g → ((m : List ℕ) → does (g m) ≡ k m) → Leads a b h k
  leads_by e p q = record { taken = p.taken; consumed = p.consumed; same = λ m. e (p.taken ++ m) ∙ ap does (p.same m) ∙ q m }

  pub ends_by : {f : List ℕ → O} {h : List ℕ → P} {o : O} → ((m : List ℕ) → h m ≡ does (f m)) → EndsAll a b f o → EndsAll a b h (does o)
  ends_by e p = record { taken = p.taken; consumed = p.consumed; at_end = p.at_end; same = e p.taken ∙ ap does p.same }

pub continues_under : {O P : Type 0} (a b : Known) (over : Bool) (does : O → P) (f g : List ℕ → O) → Continues a b over f g → Continues a b over (λ m. does (f m)) (λ m. does (g m))
continues_under a b false does f g p = leads_under does p
continues_under a b true does f g p = ends_under does p
