-- Nothing offends behind the first bit of the Sync Header that follows the last frame.
-- Assumes nothing.
use Rattle.std.specs.Prelude.{◌≡◌, Bool, ◌&&◌, ◌||◌, List, [], ◌∷◌, ◌++◌, ◌⊎◌, ℕ, ◌+◌, ◌-◌, ◌%◌, ◌/◌, ◌<◌, ◌≤◌, drop}
use Rattle.std.proofs.Math.Path.{ap}
use Rattle.std.proofs.Common.{◌∙◌, inl, inr, arith}
use Rattle.std.proofs.Math.Bool.{false, cond, not}
use borrow.Author.Tests.{lt-leb, ne_eqb}
use Rattle.std.proofs.Math.Dec.{eqb, leb}
use Rattle.std.proofs.Math.ListN.{length, replicate, length-drop, length-append}
use Rattle.std.proofs.lemmas.List.{drop-append-le}
use Rattle.std.proofs.Math.Seq.{drop-append-add}
use Rattle.outcome.specs.First.Found.{lt-or-le}
use Rattle.outcome.specs.Table.Entries.{of_true}
use Rattle.merging.specs.Rule.{sync_header_bits, starts}
use Rattle.merging.specs.Rule.Headers.{starts_short}
use Rattle.fields.specs.Fields.{field_at}
use Rattle.stream_rules.specs.Offences.{back, run_offends, header_offends, right_word, word_place, word_offends}
use Rattle.stream_rules.specs.Offences.Runs.{near, close, far, wrong, clear}
use Rattle.stream_rules.specs.Offences.RunRule.{or_left, or_right, or-none, and-none-right, close_short, far_short, clear_header, clear_at}

module _ (bs : List ℕ) where
  -- in the Sync Header itself no run is wrong
  within : (q : ℕ) → length bs ≤ q → wrong (drop q (bs ++ sync_header_bits)) ≡ false
  within q h =
      let e : q ≡ length bs + (q - length bs) = omega arith in
      ap (λ (k : ℕ). wrong (drop k (bs ++ sync_header_bits))) e ∙ ap wrong (drop-append-add bs sync_header_bits (q - length bs))
      ∙ clear_at sync_header_bits (of_true (clear sync_header_bits) clear_header) (q - length bs)

  near-behind : (q : ℕ) → length bs ≤ q → near (drop q (bs ++ sync_header_bits)) ≡ false
  unfolding wrong
  near-behind q h = or_left (near (drop q (bs ++ sync_header_bits))) (close (drop q (bs ++ sync_header_bits)) || far (drop q (bs ++ sync_header_bits))) (within q h)

  close-behind : (q : ℕ) → length bs < q + 2 → close (drop q (bs ++ sync_header_bits)) ≡ false
  unfolding wrong
  close-behind q h = go (lt-or-le q (length bs))
    where
      go : (q < length bs) ⊎ (length bs ≤ q) → close (drop q (bs ++ sync_header_bits)) ≡ false
      go (inl l) = ap close (drop-append-le q bs sync_header_bits (omega arith)) ∙ close_short (drop q bs) (omega (arith, length-drop q bs))
      go (inr l) =
          or_left (close (drop q (bs ++ sync_header_bits))) (far (drop q (bs ++ sync_header_bits)))
          (or_right (near (drop q (bs ++ sync_header_bits))) (close (drop q (bs ++ sync_header_bits)) || far (drop q (bs ++ sync_header_bits))) (within q l))

  far-behind : (q : ℕ) → length bs < q + 11 → far (drop q (bs ++ sync_header_bits)) ≡ false
  unfolding wrong
  far-behind q h = go (lt-or-le q (length bs))
    where
      go : (q < length bs) ⊎ (length bs ≤ q) → far (drop q (bs ++ sync_header_bits)) ≡ false
      go (inl l) = ap far (drop-append-le q bs sync_header_bits (omega arith)) ∙ far_short (drop q bs) (omega (arith, length-drop q bs))
      go (inr l) =
          or_right (close (drop q (bs ++ sync_header_bits))) (far (drop q (bs ++ sync_header_bits)))
          (or_right (near (drop q (bs ++ sync_header_bits))) (close (drop q (bs ++ sync_header_bits)) || far (drop q (bs ++ sync_header_bits))) (within q l))

  -- no run offends
  pub run-behind : (p : ℕ) → length bs < p → run_offends (bs ++ sync_header_bits) p ≡ false
  unfolding run_offends
  run-behind p h =
      or-none (back 1 (1 ∷ 1 ∷ []) (bs ++ sync_header_bits) p) (back 2 (1 ∷ 0 ∷ 1 ∷ []) (bs ++ sync_header_bits) p || back 11 (1 ∷ replicate 11 0) (bs ++ sync_header_bits) p)
      (and-none-right (leb 1 p) (near (drop (p - 1) (bs ++ sync_header_bits))) (near-behind (p - 1) (omega arith)))
      (or-none (back 2 (1 ∷ 0 ∷ 1 ∷ []) (bs ++ sync_header_bits) p) (back 11 (1 ∷ replicate 11 0) (bs ++ sync_header_bits) p)
      (and-none-right (leb 2 p) (close (drop (p - 2) (bs ++ sync_header_bits))) (close-behind (p - 2) (omega arith)))
      (and-none-right (leb 11 p) (far (drop (p - 11) (bs ++ sync_header_bits))) (far-behind (p - 11) (omega arith))))

  module _ (frames : length bs % 588 ≡ 0) (p : ℕ) (h : length bs < p) (l : p < length (bs ++ sync_header_bits)) where
    room : p < length bs + 24
    room = omega (arith, length-append bs sync_header_bits)

    -- no Sync Header does
    pub header_behind : header_offends (bs ++ sync_header_bits) p ≡ false
    unfolding header_offends
    header_behind =
        let n : eqb (p % 588) 0 ≡ false = ne_eqb (p % 588) 0 (λ e. omega (arith, room)) in
        ap (λ (t : Bool). cond t (not (starts sync_header_bits (drop p (bs ++ sync_header_bits)))) (starts sync_header_bits (drop p (bs ++ sync_header_bits)))) n
        ∙ starts_short (drop p (bs ++ sync_header_bits)) (omega (arith, length-drop p (bs ++ sync_header_bits), length-append bs sync_header_bits))

    -- and no word
    pub word_behind : word_offends (bs ++ sync_header_bits) p ≡ false
    unfolding word_offends word_place
    word_behind =
        let e : leb 27 (p % 588) ≡ false = lt-leb 27 (p % 588) (omega (arith, room)) in
        ap (λ (t : Bool). (t && eqb ((p % 588 - 27) % 17) 0) && not (right_word (p / 588 % 98) ((p % 588 - 27) / 17) (field_at (bs ++ sync_header_bits) p 14))) e
