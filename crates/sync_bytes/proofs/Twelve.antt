-- The twelve bytes from a place on, compared with those of Sync.
-- Assumes nothing.
use mathlib.Core.Path.{◌≡◌, sym, ap, ◌∙◌}
use mathlib.Core.Bool.{Bool, true}
use mathlib.Core.List.{List}
use Prim.Native.Nat.{ℕ, ◌+◌, ◌-◌}
use native.Mathlib.Omega.{arith}
use lib.ListN.{take, drop}
use Rattle.lists.proofs.Same.Equal.{same_is}
use Rattle.sector.specs.Layout.{sync}
use Rattle.pair_exchange.specs.Exchange.{exchanged}
use Rattle.sync_bytes.specs.SyncAt.{sync_at}

module _ (frames : List ℕ) (p : ℕ) where
  abbrev lent : List ℕ
  lent = take (p + 12 - p) (drop p frames)

  pub compared : (r : Bool) (right : List ℕ) → right ≡ exchanged sync → (r ≡ true → lent ≡ right) × (lent ≡ right → r ≡ true) → r ≡ sync_at frames p
  unfolding sync_at
  compared r right e (there, back) =
      let twelve : p + 12 - p ≡ 12 = omega arith in
      let is : lent ≡ take 12 (drop p frames) = ap (λ (m : ℕ). take m (drop p frames)) twelve in
      same_is (take 12 (drop p frames)) (exchanged sync) r (λ t. sym is ∙ there t ∙ e) (λ d. back (is ∙ d ∙ sym e))
