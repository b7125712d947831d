-- Lists that grow at their end.
use Rattle.std.proofs.Common.{◌≡◌, ℕ, List, [], ◌++◌, sym, ap, ◌∙◌, append_assoc, append-nil}
use Rattle.written_numbers.specs.Growing.{Grows}

pub grows_nil : (a : List ℕ) → Grows a a
grows_nil a = record { more = []; whole = sym (append-nil a) }

pub grows_more : {a b : List ℕ} (c more : List ℕ) → c ≡ b ++ more → Grows a b → Grows a c
grows_more {a} {b} c more e p = record { more = p.more ++ more; whole = e ∙ ap (λ (l : List ℕ). l ++ more) p.whole ∙ append_assoc a p.more more }

pub grows_on : {a b c : List ℕ} → Grows a b → Grows b c → Grows a c
grows_on {a} {b} {c} p q = grows_more c q.more q.whole p
