use Rattle.std.proofs.Common.{◌≡◌, ℕ, arith, drop, length, length-drop, subst}
use Rattle.drat_text.specs.Taking.{Peeks, unread_bytes}
use Rattle.drat_text.proofs.bytes.Bytes.peek.Goals as goal

pub returns-clause-peek : goal.returns-clause-peek
returns-clause-peek g c =
    let s = c.args.self.now in
    let last : length (drop s.taken s.front.items) ≡ c.args.place =
    omega (arith, length-drop s.taken s.front.items, c.len.ensures, s.front.ok.0, c.requires, c.if-place-len.false) in
    subst (λ (place : ℕ). Peeks (unread_bytes g.R.Read.remaining s) (unread_bytes g.R.Read.remaining c.pull.new.self) place c.pull.new.self.source c.pull.result)
    last c.pull.ensures.peek
