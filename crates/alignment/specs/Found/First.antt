-- The place that is found is the first, by frame and then n.
-- Assumes nothing.
use Rattle.std.specs.Prelude.{◌≡◌, true, false, ◌⊎◌, List, ℕ, ◌+◌, ◌*◌, ◌/◌, ◌%◌, ◌≤◌, ◌<◌, length, take, drop}
use Rattle.std.proofs.Common.{subst, inl, inr, arith, ltb-true, lt-ltb}
use Rattle.std.proofs.Math.Dec.{ltb}
use Rattle.std.proofs.Math.ListN.{length-take, length-drop}
use Rattle.outcome.specs.First.{First}
use Rattle.outcome.specs.First.Found.{lt-or-le, first_below_lem}
use Rattle.outcome.specs.Table.Entries.{length-tabulated}
use Rattle.lists.proofs.Same.Equal.{unlike_lengths}
use Rattle.sector.specs.Layout.{sync}
use Rattle.f1_frames.specs.Frames.{byte_in, bytes_of}
use Rattle.alignment.specs.Found.{bytes_in, place, sync_stands, n_of, frame_of}

-- frame f and n come before frame g and m: by frame and then n
abbrev pub Before : ℕ → ℕ → ℕ → ℕ → Type 0
Before f n g m = (f < g) ⊎ ((f ≡ g) × (n < m))

pub length_bytes : (frames : List ℕ) → length (bytes_in frames) ≡ 24 * (length frames / 24)
unfolding bytes_in bytes_of
length_bytes frames = length-tabulated (byte_in frames) 0 (24 * (length frames / 24))

module _ (frames : List ℕ) where
  first_n : (f : ℕ) → First (λ n. sync_stands frames f n ≡ true) 6 (n_of frames f)
  unfolding n_of
  first_n f = first_below_lem (sync_stands frames f) 6

  first_frame : First (λ f. ltb (n_of frames f) 6 ≡ true) (length frames / 24) (frame_of frames)
  unfolding frame_of
  first_frame = first_below_lem (λ f. ltb (n_of frames f) 6) (length frames / 24)

  pub has_n : (f n : ℕ) → n < 6 → sync_stands frames f n ≡ true → n_of frames f < 6
  has_n f n l s = by (lt-or-le (n_of frames f) 6)
    where
      by : (n_of frames f < 6) ⊎ (6 ≤ n_of frames f) → n_of frames f < 6
      by (inl b) = b
      by (inr b) = absurd ((first_n f).before n (omega arith) s)

  -- where a frame is found, the Sync bytes stand at the place
  pub n_there : frame_of frames < length frames / 24 → n_of frames (frame_of frames) < 6
  n_there h = ltb-true (n_of frames (frame_of frames)) 6 (first_frame.holds h)

  pub sync-there : frame_of frames < length frames / 24 → sync_stands frames (frame_of frames) (n_of frames (frame_of frames)) ≡ true
  sync-there h = (first_n (frame_of frames)).holds (n_there h)

  -- and at none that comes before it
  pub none-earlier : (f n : ℕ) → n < 6 → Before f n (frame_of frames) (n_of frames (frame_of frames)) → sync_stands frames f n ≡ true → ⊥
  none-earlier f n l (inl b) s = first_frame.before f b (lt-ltb (n_of frames f) 6 (has_n f n l s))
  none-earlier f n l (inr e) s =
      (first_n (frame_of frames)).before n e.1 (subst (λ (g : ℕ). sync_stands frames g n ≡ true) e.0 s)

  -- so they stand at no multiple of 4 before it, since every multiple of 4 is a place
  pub none_before : (q : ℕ) → 4 * q < place (frame_of frames) (n_of frames (frame_of frames)) → sync_stands frames (q / 6) (q % 6) ≡ true → ⊥
  none_before q h s = by (lt-or-le (q / 6) (frame_of frames))
    where
      six : n_of frames (frame_of frames) ≤ 6
      six = (first_n (frame_of frames)).within

      by : (q / 6 < frame_of frames) ⊎ (frame_of frames ≤ q / 6) → ⊥
      by (inl b) = none-earlier (q / 6) (q % 6) (omega arith) (inl b) s
      by (inr b) =
          let here : q / 6 ≡ frame_of frames = omega (arith, six) in
          none-earlier (q / 6) (q % 6) (omega arith) (inr (here, omega arith)) s

  -- where none is found, they stand nowhere in the frames
  pub nowhere : length frames / 24 ≤ frame_of frames → (f n : ℕ) → f < length frames / 24 → n < 6 → sync_stands frames f n ≡ true → ⊥
  nowhere h f n b l s = first_frame.before f (omega arith) (lt-ltb (n_of frames f) 6 (has_n f n l s))

  -- Sync that reaches past the last byte isn't there
  pub past_end : (f n : ℕ) → length frames < place f n + 12 → sync_stands frames f n ≡ false
  unfolding sync_stands
  past_end f n h =
      unlike_lengths (take 12 (drop (place f n) (bytes_in frames))) sync
      (λ e. omega (arith, length-take 12 (drop (place f n) (bytes_in frames)), length-drop (place f n) (bytes_in frames), length_bytes frames))
