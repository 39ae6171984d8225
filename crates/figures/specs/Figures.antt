-- Document 01, "Figures to meet": one table of what the definitions give and what the document says, and one law that all are met.
-- Assumes nothing.
use Rattle.std.specs.Prelude.{◌≡◌, refl, Bool, true, false, not, cond, ◌&&◌, List, [], ◌∷◌, ◌++◌, map, ℕ, ℤ, pos, negsuc, set, replicate, take}
use Rattle.std.proofs.Math.Path.{fun_ext}
use Rattle.std.proofs.Math.IntN.{sub_ℕ}
use Rattle.outcome.specs.Table.{all_below}
use Rattle.field.specs.Field.{times_alpha, power, mul_bits, mul}
use Rattle.codeword.specs.Code.{sum}
use Rattle.rspc.specs.Words.{place, p_number, q_number, p_word}
use Rattle.sequence.specs.Sequence.{sequence, bit, register, next}
use Rattle.circ.specs.Rows.{row_delay, before_c2, between, after_c1}
use Rattle.circ_streams.specs.Streams.{f2_at}
use Rattle.circ_streams.specs.Streams.Fresh.{zero_frames}
use Rattle.bits.specs.Bits.{bits_of}
use Rattle.words.specs.Words.{words, word_of, sync0, sync1}
use Rattle.merging.specs.Automaton.{step, steps, live, shown}
use Rattle.merging.specs.Chosen.{SoFar, after, with_header, m100, m010, m001, m000}
use Rattle.merging.specs.Rule.{sync_header_bits, headers, allowed}
use Rattle.section_state.specs.Tallies.{beginning}
use Rattle.section_writer.specs.State.{fresh}

-- a figure: what the definitions give, and what document 01 says
pub record Figure : Type 1 where
  pub Of : Type 0
  pub given : Of
  pub said : Of

abbrev pub figure : {A : Type 0} → A → A → Figure
figure {A} given said = record { Of = A; given = given; said = said }

-- a Sector of zeros with a change by (01) in byte 100
abbrev changed : List ℕ
changed = set (replicate 2352 0) 100 1

-- whether these Merging bits may stand between a Sync Header and SYNC 1
abbrev after_header : List ℕ → Bool
after_header m = allowed sync_header_bits (bits_of 14 sync1) m

-- whether the word of this byte, wherever it can stand, allows the one before a Sync Header and not the other; s is all that the bits before can show
abbrev only_before : ℕ → List ℕ → List ℕ → ℕ → Bool
only_before b one other s =
    cond (live (steps s (bits_of 14 (word_of b))))
    (allowed (shown s ++ bits_of 14 (word_of b)) sync_header_bits one && not (allowed (shown s ++ bits_of 14 (word_of b)) sync_header_bits other)) true

-- the start of a disc, and what then stands there: the first Sync Header; 000 and SYNC 0 behind it
abbrev start : SoFar
start =
    let begun = beginning fresh.dsv fresh.level in record { bits = []; level = begun.level; plus = begun.plus; minus = begun.minus }

abbrev after_sync0 : SoFar
after_sync0 = after (with_header start) (m000 ++ bits_of 14 sync0)

-- the DSV: bits at level +1 less bits at level -1
abbrev dsv : SoFar → ℤ
dsv w = sub_ℕ w.plus w.minus

unfoldable pub figures : List Figure
figures =
    -- α^8, α^25, α^255
    figure (power 8 ∷ power 25 ∷ power 255 ∷ []) (0x1D ∷ 0x03 ∷ 0x01 ∷ [])
    -- byte 100 is the LSB of word 44, which is row 1 of P codeword 1
    ∷ figure (place 0 44 ∷ p_number 1 1 ∷ []) (100 ∷ 44 ∷ [])
    -- a change by (01) there gives the sums (01) and (8F)
    ∷ figure (sum 0 (p_word changed 1) ∷ sum 1 (p_word changed 1) ∷ []) (0x01 ∷ 0x8F ∷ [])
    -- Q d = 22, m = 40 is word 470
    ∷ figure (q_number 22 40) 470
    -- the scrambling sequence starts so
    ∷ figure (take 8 sequence) (0x01 ∷ 0x80 ∷ 0x00 ∷ 0x60 ∷ 0x00 ∷ 0x28 ∷ 0x00 ∷ 0x1E ∷ [])
    -- zero frames into a fresh CIRC writer give, at every step, 24 zeros and eight (FF)
    ∷ figure {A = ℕ → List ℕ} (λ n. f2_at (λ m. replicate 24 0) n) (λ n. replicate 12 0 ++ (replicate 4 0xFF ++ (replicate 12 0 ++ replicate 4 0xFF)))
    -- rows 0, 11, 12, 27, 28, 31 of CIRC delay 3, 46, 49, 108, 1, 0
    ∷ figure (map (λ r. row_delay r) (0 ∷ 11 ∷ 12 ∷ 27 ∷ 28 ∷ 31 ∷ [])) (3 ∷ 46 ∷ 49 ∷ 108 ∷ 1 ∷ 0 ∷ [])
    -- (59) is 10000000000100
    ∷ figure (bits_of 14 (word_of 0x59)) (1 ∷ 0 ∷ 0 ∷ 0 ∷ 0 ∷ 0 ∷ 0 ∷ 0 ∷ 0 ∷ 0 ∷ 0 ∷ 1 ∷ 0 ∷ 0 ∷ [])
    -- after a header SYNC 1 allows, of 100, 010, 001, 000, only 010 and 001
    ∷ figure (map (λ m. after_header m) (m100 ∷ m010 ∷ m001 ∷ m000 ∷ [])) (false ∷ true ∷ true ∷ false ∷ [])
    -- the word of (11) before a header allows only 100, that of (80) only 000
    ∷ figure (all_below (only_before 0x11 m100 m000) 22 ∷ all_below (only_before 0x80 m000 m100) 22 ∷ []) (true ∷ true ∷ [])
    -- the DSV after the first header is 2, and after 000 and SYNC 0 it is -3
    ∷ figure (dsv (with_header start) ∷ dsv after_sync0 ∷ []) (pos 2 ∷ negsuc 2 ∷ [])
    ∷ []

-- each figure of a table is given as it is said
abbrev pub AllMet : List Figure → Type 0
AllMet [] = Unit {0}
AllMet (f ∷ fs) = (f.given ≡ f.said) × AllMet fs

-- all are computed, but for the zero frames: their parity is known by a law
pub figures_met : AllMet figures
unfolding figures power times_alpha mul mul_bits sum p_word sequence bit register next before_c2 between after_c1 words step allowed headers with_header
figures_met = (refl, (refl, (refl, (refl, (refl, (fun_ext zero_frames, (refl, (refl, (refl, (refl, (refl, tt)))))))))))
