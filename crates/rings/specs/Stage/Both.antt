-- A stage and that of its marks, one behind the other in the store and at the same places: one stage of both.
-- Assumes nothing.
use Rattle.std.specs.Prelude.{◌≡◌, ℕ, ◌+◌, ◌≤◌, length, take, drop}
use Rattle.std.proofs.Math.Path.{refl, ap, subst}
use Rattle.std.proofs.Common.{◌∙◌, arith, length-append, length-drop, take-append-drop, length-take-le}
use mathlib.Core.List.{List, ◌++◌, append_assoc}
use Rattle.lines.specs.Delay.{total}
use Rattle.rings.specs.Swap.{rings_out, rings_next, half_next, both_out, both_next}
use Rattle.rings.specs.Stage.{Stands, Turned}
use Rattle.rings.specs.Stage.Turn.{turned, turned-store}
use Rattle.rings.specs.Stage.Beside.{beside}

module _ {ds places store before ps behind done s : List ℕ} {first from : ℕ} (t rest w : List ℕ) (marks : ℕ)
    (here : Stands ds places store first from before ps behind done s (t ++ rest)) (marks-held : length t ≡ total ds)
    (rows : length w ≡ length ds + length ds) (next-byte : from + total ds ≡ marks) where
  abbrev v : List ℕ
  v = take (length ds) w

  abbrev m : List ℕ
  m = drop (length ds) w

  abbrev half_store : List ℕ
  half_store = half_next ds (drop first places) store from w

  abbrev r : List ℕ
  r = rings_next ds ps s v

  v_long : length v ≡ length ds
  v_long = length-take-le (length ds) w (omega arith)

  first-turned : Turned ds ps s v (rings_out ds (drop first places) (drop from store) v) r
  first-turned = turned v (rings_out ds (drop first places) (drop from store) v) (take from store ++ rings_next ds (drop first places) (drop from store) v) here (omega (arith, v_long)) refl refl

  half_is : half_store ≡ (done ++ r) ++ (t ++ rest)
  unfolding half_next
  half_is = turned-store v (rings_out ds (drop first places) (drop from store) v) (take from store ++ rings_next ds (drop first places) (drop from store) v) here (omega (arith, v_long)) refl refl

  there : Stands ds places half_store first marks before ps behind (done ++ r) t rest
  there =
      record {
        places_are = here.places_are;
        store_is = half_is;
        at_place = here.at_place;
        at_byte = omega (arith, length-append done r, here.at_byte, first-turned.left, next-byte);
        legal = here.legal;
        held = marks-held;
      }

  m_long : length ds ≤ length m
  m_long = omega (arith, length-drop (length ds) w)

  second_out : List ℕ
  second_out = rings_out ds (drop first places) (drop marks half_store) m

  second-next : List ℕ
  second-next = take marks half_store ++ rings_next ds (drop first places) (drop marks half_store) m

  second-turned : Turned ds ps t m second_out (rings_next ds ps t m)
  unfolding second_out
  second-turned = turned m (rings_out ds (drop first places) (drop marks half_store) m) (take marks half_store ++ rings_next ds (drop first places) (drop marks half_store) m) there m_long refl refl

  pub both-turned : Turned (ds ++ ds) (ps ++ ps) (s ++ t) w (both_out ds (drop first places) store from marks w) (rings_next ds ps s (take (length ds) w) ++ rings_next ds ps t (drop (length ds) w))
  unfolding both_out second_out
  both-turned =
      subst (λ (x : List ℕ). Turned (ds ++ ds) (ps ++ ps) (s ++ t) x (both_out ds (drop first places) store from marks w) (r ++ rings_next ds ps t m))
      (take-append-drop (length ds) w)
      (beside first-turned v_long second-turned)

  -- both parts are written anew, and nothing else
  pub both-store : both_next ds (drop first places) store from marks w ≡ (done ++ (rings_next ds ps s (take (length ds) w) ++ rings_next ds ps t (drop (length ds) w))) ++ rest
  unfolding both_next second-next
  both-store =
      turned-store m (rings_out ds (drop first places) (drop marks half_store) m) (take marks half_store ++ rings_next ds (drop first places) (drop marks half_store) m) there m_long refl refl
      ∙ ap (λ (l : List ℕ). l ++ rest) (append_assoc done r (rings_next ds ps t m))
