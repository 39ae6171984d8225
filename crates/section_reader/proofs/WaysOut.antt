-- The ways out of `read_section`: each leaves what `section_read` says.
-- Assumes nothing.
use mathlib.Core.Path.{◌≡◌, sym, ◌∙◌}
use mathlib.Core.List.{List, []}
use Prim.Native.Nat.{ℕ}
use lib.ListN.{length}
use borrow.Author.Tests.{eq-eqb, ne_eqb}
use Rattle.outcome.specs.Say.{Say, done, refused, cleared, leaves}
use Rattle.outcome.specs.Say.Refusals.{cleared-wrong}
use Rattle.bits.specs.Bits.{unpack}
use Rattle.section_reader.specs.Reading.{bytes_read, marks_read}
use Rattle.section_reader.specs.ReadSay.{read_out, read_say, section_read}

module _ (channel bytes marks : List ℕ) where
  by_say : (s : Say) → read_say channel bytes marks ≡ s
      → read_out s (leaves s 3234 (bytes_read (unpack channel)) bytes) (leaves s 3234 (marks_read (unpack channel)) marks) ≡ section_read channel bytes marks
  unfolding section_read
  by_say s e = λ i. read_out (sym e i) (leaves (sym e i) 3234 (bytes_read (unpack channel)) bytes) (leaves (sym e i) 3234 (marks_read (unpack channel)) marks)

  both_are : (s : Say) (b m b' m' : List ℕ) → b ≡ b' → m ≡ m' → read_out s b m ≡ read_out s b' m'
  both_are s b m b' m' p q = λ i. read_out s (p i) (q i)

  pub wrong-channel : (length channel ≡ 7203 → ⊥) → (b m : List ℕ) → b ≡ cleared 3234 bytes → m ≡ cleared 3234 marks → read_out (refused 1 []) b m ≡ section_read channel bytes marks
  unfolding read_say
  wrong-channel n b m p q = both_are (refused 1 []) b m _ _ p q ∙ by_say (refused 1 []) (simp (ne_eqb (length channel) 7203 n))

  module _ (l : length channel ≡ 7203) where
    pub wrong_bytes : (length bytes ≡ 3234 → ⊥) → (m : List ℕ) → m ≡ cleared 3234 marks → read_out (refused 2 []) bytes m ≡ section_read channel bytes marks
    unfolding read_say
    wrong_bytes n m q =
        both_are (refused 2 []) bytes m _ _ (sym (cleared-wrong 3234 bytes n)) q
        ∙ by_say (refused 2 []) (simp (eq-eqb (length channel) 7203 l, ne_eqb (length bytes) 3234 n))

    module _ (k : length bytes ≡ 3234) where
      pub wrong_marks : (length marks ≡ 3234 → ⊥) → (b : List ℕ) → b ≡ cleared 3234 bytes → read_out (refused 2 []) b marks ≡ section_read channel bytes marks
      unfolding read_say
      wrong_marks n b p =
          both_are (refused 2 []) b marks _ _ p (sym (cleared-wrong 3234 marks n))
          ∙ by_say (refused 2 []) (simp (eq-eqb (length channel) 7203 l, eq-eqb (length bytes) 3234 k, ne_eqb (length marks) 3234 n))

      module _ (h : length marks ≡ 3234) where
        pub all_read : (b m : List ℕ) → b ≡ bytes_read (unpack channel) → m ≡ marks_read (unpack channel) → read_out (done []) b m ≡ section_read channel bytes marks
        unfolding read_say
        all_read b m p q =
            both_are (done []) b m _ _ p q
            ∙ by_say (done []) (simp (eq-eqb (length channel) 7203 l, eq-eqb (length bytes) 3234 k, eq-eqb (length marks) 3234 h))
