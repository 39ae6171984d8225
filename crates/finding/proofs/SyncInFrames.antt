-- Sync as it stands in F1-frames: a place begins a pair, so that the twelve bytes there are those of Sync with each pair exchanged.
-- Assumes nothing.
use mathlib.Core.Path.{◌≡◌, sym, ap, subst, ◌∙◌}
use mathlib.Core.Logic.{◌⊎◌, inl, inr}
use mathlib.Core.List.{List}
use Prim.Native.Nat.{ℕ, ◌+◌, ◌*◌, ◌/◌, ◌%◌, ◌≤◌, ◌<◌}
use native.Mathlib.Omega.{arith}
use lib.ListN.{length, take, drop}
use Rattle.outcome.specs.First.Found.{lt-or-le}
use Rattle.lists.specs.Same.{same}
use Rattle.lists.proofs.Same.Equal.{same_equal, equal_same, same_is}
use Rattle.sector.specs.Layout.{sync}
use Rattle.pair_exchange.specs.Exchange.{exchanged}
use Rattle.pair_exchange.specs.Exchange.Pairs.{exchanged-twice, exchanged-part}
use Rattle.f1_frames.specs.Frames.Placed.{of_exchanged}
use Rattle.sync_bytes.specs.SyncAt.{sync_at}
use Rattle.sync_bytes.specs.SyncAt.TooFew.{too_few}
use Rattle.alignment.specs.Found.{bytes_in, place, sync_stands, n_of, frame_of}
use Rattle.alignment.specs.Found.First.{past_end, n_there}

pub in_order : (frames : List ℕ) → length frames % 24 ≡ 0 → bytes_in frames ≡ exchanged frames
unfolding bytes_in
in_order frames h = of_exchanged (length frames / 24) frames (omega arith)

-- pairs from a place on, in order and as they stand
pub part_in_order : (frames : List ℕ) (f n j : ℕ) → length frames % 24 ≡ 0 → place f n + 2 * j ≤ length frames
    → take (2 * j) (drop (place f n) (bytes_in frames)) ≡ exchanged (take (2 * j) (drop (place f n) frames))
part_in_order frames f n j h l =
    let even : place f n ≡ 2 * (12 * f + 2 * n) = omega arith in
    ap (λ (w : List ℕ). take (2 * j) (drop (place f n) w)) (in_order frames h)
    ∙ ap (λ (a : ℕ). take (2 * j) (drop a (exchanged frames))) even
    ∙ exchanged-part (12 * f + 2 * n) j frames (omega arith)
    ∙ ap (λ (a : ℕ). exchanged (take (2 * j) (drop a frames))) (sym even)

-- so Sync stands in order where it stands exchanged
pub stands : (frames : List ℕ) (f n : ℕ) → length frames % 24 ≡ 0 → sync_at frames (place f n) ≡ sync_stands frames f n
unfolding sync_at sync_stands
stands frames f n h = by (lt-or-le (length frames) (place f n + 12))
  where
    in_frames : List ℕ
    in_frames = take 12 (drop (place f n) frames)

    by : (length frames < place f n + 12) ⊎ (place f n + 12 ≤ length frames) → sync_at frames (place f n) ≡ sync_stands frames f n
    by (inl short) = too_few frames (place f n) short ∙ sym (past_end frames f n short)
    by (inr l) =
        let there : take 12 (drop (place f n) (bytes_in frames)) ≡ exchanged in_frames = part_in_order frames f n 6 h l in
        same_is (take 12 (drop (place f n) (bytes_in frames))) sync (same in_frames (exchanged sync))
        (λ t. there ∙ ap exchanged (same_equal in_frames (exchanged sync) t) ∙ exchanged-twice sync)
        (λ d. equal_same in_frames (exchanged sync) (sym (exchanged-twice in_frames) ∙ ap exchanged (sym there ∙ d)))

-- in the frame that is found there is an n
pub n_found : (frames : List ℕ) (f n : ℕ) → f ≡ frame_of frames → f < length frames / 24 → n ≡ n_of frames f → n < 6
n_found frames f n e l m =
    let there : frame_of frames < length frames / 24 = omega arith in
    let small : n_of frames (frame_of frames) < 6 = n_there frames there in
    let here : n_of frames f < 6 = subst (λ (g : ℕ). n_of frames g < 6) (sym e) small in
    omega arith
