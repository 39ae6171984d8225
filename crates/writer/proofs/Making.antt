-- What is made of what can be written is the Sector that is asked for.
-- Assumes nothing.
use mathlib.Core.Path.{◌≡◌, sym, ap, ◌∙◌, subst}
use mathlib.Core.List.{List}
use Prim.Native.Nat.{ℕ, ◌≤◌}
use lib.ListN.{length}
use Rattle.address.specs.declared.HeaderTime.{HeaderTime}
use Rattle.sector.specs.Layout.{user_length}
use Rattle.sector_fields.specs.Protect.{Protects}
use Rattle.writer.specs.Inner.Make.{Askable, Makes}
use Rattle.writer.specs.Inner.Laid.{laid}
use Rattle.writer.proofs.Laying.{room, length-laid, asked_plain}
use Rattle.writer.proofs.Protects.{asked_mode01}

module _ (mode : ℕ) (time : HeaderTime) (user s : List ℕ) (g : Askable mode time user) where
  pub has_room : length user ≤ 2336
  has_room = room mode time user g.mode_written g.fits g.range

  pub makes_plain : (mode ≡ 1 → ⊥) → s ≡ laid mode time user → Makes mode time user s
  makes_plain n e =
      subst (λ (x : List ℕ). Makes mode time user x) (sym e)
      (record {
        long = length-laid mode time user g.mode_written g.fits g.range;
        asked = asked_plain mode time user g.mode_written g.fits g.range n;
      })

  pub makes_mode01 : (l : List ℕ) → mode ≡ 1 → l ≡ laid mode time user → Protects l s → Makes mode time user s
  makes_mode01 l e f p =
      subst (λ (m : ℕ). Makes m time user s) (sym e)
      (record {
        long = p.long;
        asked = asked_mode01 time user (g.fits ∙ ap user_length e) g.range s
            (subst (λ (x : List ℕ). Protects x s) (f ∙ ap (λ (m : ℕ). laid m time user) e) p);
      })
