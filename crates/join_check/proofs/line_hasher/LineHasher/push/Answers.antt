use Rattle.std.proofs.Common.{refl}
use Rattle.join_check.proofs.Hashing.{taken_whole, takes_behind}
use Rattle.join_check.proofs.line_hasher.LineHasher.push.Goals as goal

pub returns-then-len-ge-CHUNK : goal.returns-then-len-ge-CHUNK
returns-then-len-ge-CHUNK c = λ text taken.
    let pushed = takes_behind c.args.self.now _ _ refl c.in_ok-push_addition.ensures text taken in
    taken_whole c.hash_lines.new.self _ (c.hash_lines.ensures.hashed _ pushed) c.hash_lines.ensures.lines
