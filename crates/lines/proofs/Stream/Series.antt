-- Stages in a row: the waits of a row add up, and where they add up to one number in each row, whole words come out so many steps later.
-- Assumes nothing.
use Rattle.std.specs.Prelude.{◌≡◌, List, ℕ, ◌+◌, ◌≤◌, ◌<◌, length, get_or, replicate}
use Rattle.std.proofs.Common.{sym, ap, ◌∙◌, arith, ext_get_or}
use Rattle.std.proofs.lemmas.List.{length-replicate, get_or-replicate}
use Rattle.lines.specs.Stream.{back, out_at}
use Rattle.lines.specs.Stream.Late.{back-same, back-back, back-map, back_all}
use Rattle.lines.proofs.Stream.Rows.{row-waits, length_out}

-- a row of three streams, each the one before it some steps later
pub three : (x y z : ℕ → ℕ) (d e c n : ℕ) → ((m : ℕ) → y m ≡ back 0 x d m) → ((m : ℕ) → z m ≡ back 0 y e m) → back 0 z c n ≡ back 0 x (d + e + c) n
three x y z d e c n hy hz =
    back-same 0 z (back 0 x (d + e)) c n (λ m. hz m ∙ back-same 0 y (back 0 x d) e m hy ∙ back-back 0 x d e m)
    ∙ back-back 0 x (d + e) c n

-- a row of a stream of words that comes late
pub late-row : (k c r n : ℕ) (w : ℕ → List ℕ) → r < k → get_or (back (replicate k 0) w c n) r 0 ≡ back 0 (λ m. get_or (w m) r 0) c n
late-row k c r n w h =
    back-map (λ (t : List ℕ). get_or t r 0) (replicate k 0) w c n
    ∙ ap (λ (z : ℕ). back z (λ m. get_or (w m) r 0) c n) (get_or-replicate k r 0 0 h)

-- a word of k rows each of which is a row of w, c steps later, is that word
pub gather : (u : List ℕ) (w : ℕ → List ℕ) (k c n : ℕ) → length u ≡ k → ((m : ℕ) → length (w m) ≡ k)
    → ((r : ℕ) → r < k → get_or u r 0 ≡ back 0 (λ m. get_or (w m) r 0) c n) → u ≡ back (replicate k 0) w c n
gather u w k c n hu hw row = ext_get_or 0 u (back (replicate k 0) w c n) (hu ∙ sym late) (λ r l. row r (omega arith) ∙ sym (late-row k c r n w (omega arith)))
  where
    late : length (back (replicate k 0) w c n) ≡ k
    late = back_all (λ l. length l ≡ k) (replicate k 0) w c n (length-replicate k 0) hw

-- two stages whose waits add up to c in every row of the words
pub series : (ds es : List ℕ) (w : ℕ → List ℕ) (k c n : ℕ) → length ds ≤ k → length es ≤ k → ((m : ℕ) → length (w m) ≡ k)
    → ((r : ℕ) → r < k → get_or ds r 0 + get_or es r 0 ≡ c) → out_at es (out_at ds w) n ≡ back (replicate k 0) w c n
series ds es w k c n hd he hk sum =
    gather (out_at es (out_at ds w) n) w k c n (length_out es (out_at ds w) n ∙ length_out ds w n ∙ hk n) hk
    (λ r h.
    row-waits es (out_at ds w) r n (λ m. omega (arith, hk m, length_out ds w m))
    ∙ back-same 0 (λ m. get_or (out_at ds w m) r 0) (back 0 (λ m. get_or (w m) r 0) (get_or ds r 0)) (get_or es r 0) n
    (λ m. row-waits ds w r m (λ j. omega (arith, hk j)))
    ∙ back-back 0 (λ m. get_or (w m) r 0) (get_or ds r 0) (get_or es r 0) n
    ∙ ap (λ (d : ℕ). back 0 (λ m. get_or (w m) r 0) d n) (sum r h))
