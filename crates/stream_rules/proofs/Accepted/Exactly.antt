-- Accepted is exactly what keeps what document 02 says.
-- Assumes nothing.
use Rattle.std.specs.Prelude.{◌≡◌, Bool, cond, ◌&&◌, List, [], ◌++◌, ℕ, ◌+◌, ◌-◌, ◌*◌, ◌/◌, ◌%◌, ◌≤◌, ◌<◌, eqb, leb, length, drop}
use Rattle.std.proofs.Math.Path.{refl, ap}
use Rattle.std.proofs.Common.{sym, ◌∙◌, length-append}
use Rattle.std.proofs.Math.Bool.{true, false, not}
use native.Mathlib.Omega.{arith}
use borrow.Author.Tests.{leb-true, eqb-true, not-false, le-leb}
use Rattle.outcome.specs.Say.{done}
use Rattle.outcome.specs.Say.Refusals.{never}
use Rattle.outcome.specs.Table.Entries.{and_left, and_right, of_true, true_of}
use Rattle.bits.specs.Bits.{unpack}
use Rattle.bits.proofs.Bits.Packed.{length-unpack}
use Rattle.bits.specs.Binary.{Binary}
use Rattle.merging.specs.Rule.{sync_header_bits, starts}
use Rattle.fields.specs.Fields.{field_at}
use Rattle.channel_frame.specs.ChannelFrame.{word_read}
use Rattle.stream_rules.specs.Offences.{header_offends, right_word, word_place, word_offends}
use Rattle.stream_rules.specs.Offences.RunRule.{runs_if_clean, clean_if_runs}
use Rattle.bits.specs.Binary.Parts.{binary_unpack}
use Rattle.stream_rules.specs.Judging.{right_length, judging}
use Rattle.stream_rules.specs.Judging.First.{NoOffence, wrong-length, done_clean, clean_done}
use Rattle.stream_rules.specs.Accepted.{Kept, Accepted}

head_right : (t s : Bool) → cond t (not s) s ≡ false → s ≡ t
head_right true s e = not-false s e
head_right false s e = e

right_head : (t s : Bool) → s ≡ t → cond t (not s) s ≡ false
right_head true s e = rw e
right_head false s e = e

and-true : (a b : Bool) → (a && b) ≡ true → (a ≡ true) × (b ≡ true)
and-true a b e = (true_of a (and_left a b (of_true (a && b) e)), true_of b (and_right a b (of_true (a && b) e)))

module _ (B : List ℕ) where
  -- a word begins at bit 588 * f + 27 + 17 * i
  word_there : (f i : ℕ) → i < 33 → word_offends B (588 * f + 27 + 17 * i) ≡ not (right_word (f % 98) i (word_read B f i))
  unfolding word_offends word_place
  word_there f i hi =
      let p = 588 * f + 27 + 17 * i in
      let d : p / 588 ≡ f = omega arith in
      let m : p % 588 ≡ 27 + 17 * i = omega arith in
      let u : (27 + 17 * i - 27) % 17 ≡ 0 = omega arith in
      let v : (27 + 17 * i - 27) / 17 ≡ i = omega arith in
      rw (d, m, u, v, le-leb 27 (27 + 17 * i) (omega arith))

  -- and nowhere else
  place_is : (p : ℕ) → word_place p ≡ true → ((p % 588 - 27) / 17 < 33) × (588 * (p / 588) + 27 + 17 * ((p % 588 - 27) / 17) ≡ p)
  unfolding word_place
  place_is p e =
      let b = and-true (leb 27 (p % 588)) (eqb ((p % 588 - 27) % 17) 0) e in
      let l : 27 ≤ p % 588 = leb-true 27 (p % 588) b.0 in
      let z : (p % 588 - 27) % 17 ≡ 0 = eqb-true ((p % 588 - 27) % 17) 0 b.1 in
      (omega arith, omega arith)

  -- where the words of n frames are right none offends
  pub word_clean : (n p : ℕ) → p < 588 * n + 24 → ((f i : ℕ) → f < n → i < 33 → right_word (f % 98) i (word_read B f i) ≡ true) → word_offends B p ≡ false
  unfolding word_offends
  word_clean n p h w = go (word_place p) refl
    where
      go : (t : Bool) → word_place p ≡ t → (t && not (right_word (p / 588 % 98) ((p % 588 - 27) / 17) (field_at B p 14))) ≡ false
      go false e = refl
      go true e =
          let q = place_is p e in
          ap not (ap (λ (k : ℕ). right_word (p / 588 % 98) ((p % 588 - 27) / 17) (field_at B k 14)) (sym q.1) ∙ w (p / 588) ((p % 588 - 27) / 17) (omega (arith, q.1)) q.0)

module _ (bs : List ℕ) (n : ℕ) (b : Binary bs) (long : length bs ≡ 57624 * n) where
  all : length (bs ++ sync_header_bits) ≡ 57624 * n + 24
  all = omega (arith, length-append bs sync_header_bits)

  kept_clean : Kept (bs ++ sync_header_bits) n → (p : ℕ) → p < length (bs ++ sync_header_bits) → NoOffence (bs ++ sync_header_bits) p
  unfolding header_offends
  kept_clean k p h =
      record {
        run = clean_if_runs bs b k.runs_are p;
        head = right_head (eqb (p % 588) 0) (starts sync_header_bits (drop p (bs ++ sync_header_bits))) (k.headers_are p h);
        word = word_clean (bs ++ sync_header_bits) (98 * n) p (omega (arith, all)) k.words_are;
      }

  clean_kept : ((p : ℕ) → p < length (bs ++ sync_header_bits) → NoOffence (bs ++ sync_header_bits) p) → Kept (bs ++ sync_header_bits) n
  unfolding header_offends
  clean_kept c =
      record {
        runs_are = runs_if_clean bs b (λ p h. (c p (omega (arith, all))).run);
        headers_are = λ p h. head_right (eqb (p % 588) 0) (starts sync_header_bits (drop p (bs ++ sync_header_bits))) (c p h).head;
        words_are = λ f i hf hi.
            not-false (right_word (f % 98) i (word_read (bs ++ sync_header_bits) f i)) (sym (word_there (bs ++ sync_header_bits) f i hi) ∙ (c (588 * f + 27 + 17 * i) (omega (arith, all))).word);
      }

-- the bits of whole Sections
pub whole : (channel : List ℕ) → right_length (length channel) ≡ true → length (unpack channel) ≡ 57624 * (length channel / 7203)
unfolding right_length
whole channel right =
    let a = and-true (eqb (length channel % 7203) 0) (leb 1 (length channel / 7203) && leb (length channel / 7203) 9) right in
    omega (arith, length-unpack channel, eqb-true (length channel % 7203) 0 a.0)

-- THE ACCEPTED are exactly those
pub accepts_exactly : (channel : List ℕ) → (Accepted channel → judging channel ≡ done []) × (judging channel ≡ done [] → Accepted channel)
accepts_exactly channel = (accepted_done, λ e. go (right_length (length channel)) refl e)
  where
    accepted_done : Accepted channel → judging channel ≡ done []
    accepted_done a =
        clean_done channel a.length_is
        (kept_clean (unpack channel) (length channel / 7203) (binary_unpack channel) (whole channel a.length_is) a.kept)

    go : (t : Bool) → right_length (length channel) ≡ t → judging channel ≡ done [] → Accepted channel
    go true r e =
        record {
          length_is = r;
          kept = clean_kept (unpack channel) (length channel / 7203) (binary_unpack channel) (whole channel r) (done_clean channel r e);
        }
    go false r e = never (sym (wrong-length channel r) ∙ e)
