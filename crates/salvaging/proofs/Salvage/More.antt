-- A larger allowance never alters a result already given.
-- Assumes nothing.
use Rattle.std.specs.Prelude.{◌≡◌, List, ℕ, ◌≤◌}
use Rattle.std.proofs.Common.{arith}
use Rattle.outcome.specs.Say.{Say, done}
use Rattle.outcome.specs.Say.Refusals.{never}
use Rattle.salvaging.specs.Salvage.{ResultOf, Room, Salvages, wrong_incoming, wrong-outgoing, wrong-passes, none_found, handed_out}
use Rattle.salvaging.proofs.Salvage.One.{SameOutcome, salvages_one}

result_more : {r : List ℕ} {a b k : ℕ} {s : List ℕ} → a ≤ b → ResultOf r a k s → ResultOf r b k s
result_more h p = record { one = p.one; within = omega (arith, p.within); found = p.found; first = p.first }

-- whatever the buffers held: what is said, with the number of passes and the count, the Sector and the list
pub more_is_the_same : {r : List ℕ} {a b : ℕ} {old changed old' changed' : List ℕ} {x y : Say} {s t l m v : List ℕ} → a ≤ b → b ≤ 32
    → Room old' changed' → Salvages r a old changed x s l → x ≡ done v → Salvages r b old' changed' y t m → SameOutcome y x t s m l
more_is_the_same h k o (wrong_incoming n) e q = never e
more_is_the_same h k o (wrong-outgoing f n) e q = never e
more_is_the_same h k o (wrong-passes f p n) e q = never e
more_is_the_same h k o (none_found f p i n) e q = never e
more_is_the_same {r} {a} {b} {old' = old'} {changed' = changed'} h k o (handed_out f p i g) e q =
    salvages_one r b old' changed' q (handed_out f o (record { low = omega (arith, i.low); high = k }) (result_more h g))
