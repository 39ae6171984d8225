-- What a stage gives over time: row r of step n is row r of the word so many steps before as the row waits, and 0 before the start.
-- Assumes nothing.
use Rattle.std.specs.Prelude.{◌≡◌, refl, length, drop, get_or, replicate}
use Rattle.std.proofs.Math.Path.{sym, ap}
use Rattle.std.proofs.Common.{◌∙◌, not-suc-le-zero, le_of_suc-le-suc, arith, take_at, drop_at}
use mathlib.Core.List.{List, [], ◌∷◌, ◌++◌}
use Prim.Native.Nat.{ℕ, zero, suc, ◌≤◌, ◌<◌}
use Rattle.std.proofs.lemmas.List.{length-replicate, replicate-append-replicate}
use Rattle.outcome.specs.Bytes.{Bytes}
use Rattle.lines.specs.Delay.{line_out, line_next, rows_out, rows_next, total}
use Rattle.lines.proofs.Delay.Lengths.{length-next, length-rows, length-rows-next}
use Rattle.lines.specs.Stream.{back, state_at, out_at}
use Rattle.lines.specs.Stream.Late.{back-same, back_all}

-- ---- one line

unfoldable line_at : ℕ → (ℕ → ℕ) → ℕ → List ℕ
line_at d x zero = replicate d 0
line_at d x (suc n) = line_next (line_at d x n) (x n)

-- the last d values before step n and the one of step n, the oldest first
window : (ℕ → ℕ) → ℕ → ℕ → List ℕ
window x zero n = x n ∷ []
window x (suc d) n = back 0 x (suc d) n ∷ window x d n

longer : (x : ℕ → ℕ) (d n : ℕ) → window x d n ++ (x (suc n) ∷ []) ≡ window x (suc d) (suc n)
unfolding window back
longer x zero n = refl
longer x (suc d) n = ap (λ (t : List ℕ). back 0 x (suc d) n ∷ t) (longer x d n)

on : (x : ℕ → ℕ) (d n : ℕ) → drop 1 (window x d n) ++ (x (suc n) ∷ []) ≡ window x d (suc n)
unfolding window back
on x zero n = refl
on x (suc d) n = longer x d n

fresh : (x : ℕ → ℕ) (d : ℕ) → replicate d 0 ++ (x 0 ∷ []) ≡ window x d 0
unfolding window back
fresh x zero = refl
fresh x (suc d) = ap (λ (t : List ℕ). 0 ∷ t) (fresh x d)

holds : (x : ℕ → ℕ) (d n : ℕ) → line_at d x n ++ (x n ∷ []) ≡ window x d n
unfolding line_at line_next
holds x d zero = fresh x d
holds x d (suc n) = ap (λ (t : List ℕ). drop 1 t ++ (x (suc n) ∷ [])) (holds x d n) ∙ on x d n

first : (x : ℕ → ℕ) (d n : ℕ) → get_or (window x d n) 0 0 ≡ back 0 x d n
unfolding window back
first x zero n = refl
first x (suc d) n = refl

line_law : (x : ℕ → ℕ) (d n : ℕ) → line_out (line_at d x n) (x n) ≡ back 0 x d n
unfolding line_out
line_law x d n = ap (λ (t : List ℕ). get_or t 0 0) (holds x d n) ∙ first x d n

line-length : (x : ℕ → ℕ) (d n : ℕ) → length (line_at d x n) ≡ d
unfolding line_at
line-length x d zero = length-replicate d 0
line-length x d (suc n) = length-next (line_at d x n) (x n) ∙ line-length x d n

-- ---- a stage: the first row's line and the stage of the others

abbrev hd : (ℕ → List ℕ) → ℕ → ℕ
hd w m = get_or (w m) 0 0

abbrev tl : (ℕ → List ℕ) → ℕ → List ℕ
tl w m = drop 1 (w m)

cons : (l : List ℕ) → 0 < length l → l ≡ get_or l 0 0 ∷ drop 1 l
cons [] h = absurd (not-suc-le-zero h)
cons (x ∷ l) h = refl

rows_next' : (d : ℕ) (ds a b : List ℕ) (x : ℕ) (v : List ℕ) → length a ≡ d → rows_next (d ∷ ds) (a ++ b) (x ∷ v) ≡ line_next a x ++ rows_next ds b v
unfolding rows_next
rows_next' d ds a b x v e = rw (take_at a b d e, drop_at a b d e)

rows_out' : (d : ℕ) (ds a b : List ℕ) (x : ℕ) (v : List ℕ) → length a ≡ d → rows_out (d ∷ ds) (a ++ b) (x ∷ v) ≡ line_out a x ∷ rows_out ds b v
unfolding rows_out
rows_out' d ds a b x v e = rw (take_at a b d e, drop_at a b d e)

module _ (d : ℕ) (ds : List ℕ) (w : ℕ → List ℕ) (wide : (m : ℕ) → suc (length ds) ≤ length (w m)) where
  some : (m : ℕ) → 0 < length (w m)
  some m = omega (arith, wide m)

  split : (n : ℕ) → state_at (d ∷ ds) w n ≡ line_at d (hd w) n ++ state_at ds (tl w) n
  unfolding state_at line_at total
  split zero = sym (replicate-append-replicate d (total ds) 0)
  split (suc n) =
      ap (λ (t : List ℕ). rows_next (d ∷ ds) t (w n)) (split n)
      ∙ ap (rows_next (d ∷ ds) (line_at d (hd w) n ++ state_at ds (tl w) n)) (cons (w n) (some n))
      ∙ rows_next' d ds (line_at d (hd w) n) (state_at ds (tl w) n) (hd w n) (tl w n) (line-length (hd w) d n)

  rows : (n : ℕ) → out_at (d ∷ ds) w n ≡ back 0 (hd w) d n ∷ out_at ds (tl w) n
  unfolding out_at
  rows n =
      ap (λ (t : List ℕ). rows_out (d ∷ ds) t (w n)) (split n)
      ∙ ap (rows_out (d ∷ ds) (line_at d (hd w) n ++ state_at ds (tl w) n)) (cons (w n) (some n))
      ∙ rows_out' d ds (line_at d (hd w) n) (state_at ds (tl w) n) (hd w n) (tl w n) (line-length (hd w) d n)
      ∙ ap (λ (t : ℕ). t ∷ rows_out ds (state_at ds (tl w) n) (tl w n)) (line_law (hd w) d n)

get_d_tail : (l : List ℕ) (r : ℕ) → get_or (drop 1 l) r 0 ≡ get_or l (suc r) 0
get_d_tail [] r = refl
get_d_tail (x ∷ l) r = refl

tail_wide : (n : ℕ) (l : List ℕ) → suc n ≤ length l → n ≤ length (drop 1 l)
tail_wide n [] h = absurd (not-suc-le-zero h)
tail_wide n (x ∷ l) h = le_of_suc-le-suc h

-- row r of what comes out is row r of the words, so many steps later as the row waits
pub row-waits : (ds : List ℕ) (w : ℕ → List ℕ) (r n : ℕ) → ((m : ℕ) → length ds ≤ length (w m))
    → get_or (out_at ds w n) r 0 ≡ back 0 (λ m. get_or (w m) r 0) (get_or ds r 0) n
unfolding out_at rows_out back
row-waits [] w r n h = refl
row-waits (d ∷ ds) w zero n h = ap (λ (t : List ℕ). get_or t 0 0) (rows d ds w h n)
row-waits (d ∷ ds) w (suc r) n h =
    ap (λ (t : List ℕ). get_or t (suc r) 0) (rows d ds w h n)
    ∙ row-waits ds (tl w) r n (λ m. tail_wide (length ds) (w m) (h m))
    ∙ back-same 0 (λ m. get_or (tl w m) r 0) (λ m. get_or (w m) (suc r) 0) (get_or ds r 0) n (λ m. get_d_tail (w m) r)

-- what comes out is as long as what goes in
pub length_out : (ds : List ℕ) (w : ℕ → List ℕ) (n : ℕ) → length (out_at ds w n) ≡ length (w n)
unfolding out_at
length_out ds w n = length-rows ds (state_at ds w n) (w n)

-- the store is as long as the waits together
pub length_state : (ds : List ℕ) (w : ℕ → List ℕ) (n : ℕ) → length (state_at ds w n) ≡ total ds
unfolding state_at
length_state ds w zero = length-replicate (total ds) 0
length_state ds w (suc n) = length-rows-next ds (state_at ds w n) (w n) (omega (arith, length_state ds w n)) ∙ length_state ds w n

-- bytes give bytes
pub bytes_out_lem : (ds : List ℕ) (w : ℕ → List ℕ) (n : ℕ) → ((m : ℕ) → length ds ≤ length (w m)) → ((m : ℕ) → Bytes (w m)) → Bytes (out_at ds w n)
bytes_out_lem ds w n h b r =
    rw (row-waits ds w r n h) (back_all (λ (x : ℕ). x < 256) 0 (λ m. get_or (w m) r 0) (get_or ds r 0) n (omega arith) (λ m. b m r))

state_same : (ds : List ℕ) (v w : ℕ → List ℕ) (n : ℕ) → ((m : ℕ) → v m ≡ w m) → state_at ds v n ≡ state_at ds w n
unfolding state_at
state_same ds v w zero h = refl
state_same ds v w (suc n) h = ap (λ (t : List ℕ). rows_next ds t (v n)) (state_same ds v w n h) ∙ ap (rows_next ds (state_at ds w n)) (h n)

-- equal streams go alike through a stage
pub out_same : (ds : List ℕ) (v w : ℕ → List ℕ) (n : ℕ) → ((m : ℕ) → v m ≡ w m) → out_at ds v n ≡ out_at ds w n
unfolding out_at
out_same ds v w n h = ap (λ (t : List ℕ). rows_out ds t (v n)) (state_same ds v w n h) ∙ ap (rows_out ds (state_at ds w n)) (h n)
