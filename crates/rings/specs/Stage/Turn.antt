-- What a swap over the rests of the places and of the store does to the stage that stands in front there.
-- Assumes nothing.
use Rattle.std.specs.Prelude.{◌≡◌, List, ◌++◌, ℕ, ◌≤◌, length, take, drop}
use Rattle.std.proofs.Common.{sym, ap, ap₂, ◌∙◌, append_assoc, arith, take_at, drop_at}
use Rattle.lines.specs.Delay.{total}
use Rattle.rings.specs.Swap.{rings_out, rings_next}
use Rattle.rings.specs.Swap.Lines.{rings_out_lem, rings_next_lem, length_rings_next}
use Rattle.rings.specs.Swap.Parts.{out_front, next-front}
use Rattle.rings.specs.Stage.{Stands, Turned}

module _ {ds places store before ps behind done s rest : List ℕ} {first from : ℕ} (w w' store' : List ℕ)
    (here : Stands ds places store first from before ps behind done s rest)
    (rows : length ds ≤ length w) (out : w' ≡ rings_out ds (drop first places) (drop from store) w)
    (next : store' ≡ take from store ++ rings_next ds (drop first places) (drop from store) w) where
  places_here : drop first places ≡ ps ++ behind
  places_here = ap (drop first) here.places_are ∙ drop_at before (ps ++ behind) first here.at_place

  store_here : drop from store ≡ s ++ rest
  store_here = ap (drop from) here.store_is ∙ drop_at done (s ++ rest) from here.at_byte

  room : total ds ≤ length s
  room = omega (arith, here.held)

  -- the stage took its step
  pub turned : Turned ds ps s w w' (rings_next ds ps s w)
  turned =
      record {
        legal = here.legal;
        held = here.held;
        left = length_rings_next ds ps s w room ∙ here.held;
        out =
            out
            ∙ ap₂ (λ (p l : List ℕ). rings_out ds p l w) places_here store_here
            ∙ out_front ds ps behind s rest w here.legal room
            ∙ sym (rings_out_lem ds ps s w here.legal room);
        next = sym (rings_next_lem ds ps s w here.legal room rows);
      }

  -- its part is written anew, and nothing else
  pub turned-store : store' ≡ (done ++ rings_next ds ps s w) ++ rest
  turned-store =
      next
      ∙ ap₂ ◌++◌ (ap (take from) here.store_is ∙ take_at done (s ++ rest) from here.at_byte)
      (ap₂ (λ (p l : List ℕ). rings_next ds p l w) places_here store_here ∙ next-front ds ps behind s rest w here.legal room)
      ∙ sym (append_assoc done (rings_next ds ps s w) rest)
