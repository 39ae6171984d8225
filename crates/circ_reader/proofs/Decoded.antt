-- What was decoded is the reader's step, where all lengths and all places are right.
-- Assumes nothing.
use Prim.Native.Nat.{ℕ}
use mathlib.Core.Path.{◌≡◌, ap, ap₂, ◌∙◌}
use mathlib.Core.Bool.{true}
use mathlib.Core.List.{List, ◌++◌}
use native.Mathlib.Omega.{arith}
use lib.ListN.{length, length-append}
use Rattle.rings.specs.Rings.{waits, below, onward, unrolled_all}
use Rattle.circ.specs.Rows.{collected, doubt}
use Rattle.circ.specs.Marked.{marked_next, marked_rows}
use Rattle.circ.specs.Rings.{reader_waits, marked_waits, shared}
use Rattle.circ_decoding.specs.Decoding.{Decodes}
use Rattle.circ_decoding.specs.Decoding.Lines.{decoded_lines, decoded-rows}
use Rattle.circ_reader.specs.Inner.Reading.{ReaderGone}

module _ (ps s frame marks f2 lost rows store' : List ℕ) (legal : below (waits reader_waits) ps ≡ true) (h : length frame ≡ 32) (k : length marks ≡ 32)
    (same-frame : f2 ≡ frame) (same-marks : lost ≡ marks) (told : Decodes ps s (f2 ++ lost) store' rows) where
  x : List ℕ
  x = f2 ++ lost

  whole : x ≡ frame ++ marks
  unfolding x
  whole = ap₂ ◌++◌ same-frame same-marks

  fits : length x ≡ 64
  fits = ap length whole ∙ omega (arith, length-append frame marks)

  line : List ℕ
  line = unrolled_all marked_waits (shared ps) s

  rows_are : rows ≡ marked_rows line (frame ++ marks)
  unfolding x line
  rows_are = told.rows_are ∙ decoded-rows ps s told.many told.long legal (f2 ++ lost) fits ∙ ap (marked_rows (unrolled_all marked_waits (shared ps) s)) whole

  pub gone : (ps' out : List ℕ) (mark : ℕ) → ps' ≡ onward (waits reader_waits) ps → mark ≡ doubt rows → out ≡ collected rows
      → ReaderGone ps s (frame ++ marks) ps' store' mark out
  unfolding x line
  gone ps' out mark moved said given =
      record {
        places_are = moved;
        line_is =
            ap₂ (λ (p t : List ℕ). unrolled_all marked_waits (shared p) t) moved told.store_is
            ∙ decoded_lines ps s told.many told.long legal (f2 ++ lost) fits
            ∙ ap (marked_next (unrolled_all marked_waits (shared ps) s)) whole;
        mark_is = said ∙ ap doubt rows_are;
        out_is = given ∙ ap collected rows_are;
      }
