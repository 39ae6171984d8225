-- Replaying the edges of whole Sections gives these Sections: of any Sections that are accepted (document 02, §12), so of what our Section writer makes.
-- Assumes nothing.
use Rattle.std.specs.Prelude.{◌≡◌, Bool, true, false, not, ℕ, zero, suc, ◌+◌, ◌*◌, ◌%◌, ◌<◌, ◌≤◌, get_or}
use Rattle.std.proofs.Common.{sym, ◌∙◌, subst}
use Rattle.std.proofs.Math.Path.{ap, ap₂}
use mathlib.Core.List.{List, [], ◌∷◌, ◌++◌}
use native.Mathlib.Omega.{arith}
use borrow.Author.Tests.{eq-eqb, le-leb, lt-ltb, le-ltb}
use Rattle.std.proofs.Math.ListN.{length}
use Rattle.outcome.specs.Bytes.{Bytes}
use Rattle.outcome.specs.First.Found.{found_first}
use Rattle.outcome.specs.Say.{Say, done, outcome, answered}
use Rattle.bits.specs.Bits.{unpack}
use Rattle.merging.specs.Rule.{sync_header_bits}
use Rattle.captures.specs.Counts.{counts_of, Counts, edges, runs_of, bits_in, legal}
use Rattle.captures.specs.Counts.Bytes.{counts_bytes}
use Rattle.captures.proofs.Counts.Round.{distances-edges}
use Rattle.captures.specs.Kept.{restored, capture_of, filled}
use Rattle.captures.proofs.Kept.Back.{length_capture}
use Rattle.replaying.specs.Replay.{channel, channel_of, first_header, frames_from, bytes_for, first_illegal, frames_of, header_say, runs_say, replay_say, replaying_at, replaying}
use Rattle.replaying.specs.Replay.Sizes.{Legal}
use Rattle.section_writer.specs.declared.SectionWriter.{SectionWriter}
use Rattle.sections.specs.Stream.{Part, stream_of}
use Rattle.stream_rules.specs.Accepted.{Kept}
use Rattle.stream_passes.specs.Written.{stream-kept}
use Rattle.section_edges.specs.Edges.{gaps_of, Ticks}
use Rattle.section_edges.specs.Edges.Bits.{legal_counts}
use Rattle.section_edges.proofs.Edges.Frames.{all_turned, header_first, bits_in_all, frames_in_all, frames_are}

-- ---- a capture of edges at some distances, from any first count on

runs-back : (c : ℕ) (ds : List ℕ) → c < 65536 → Counts ds → runs_of (counts_of (capture_of (c ∷ ds))) ≡ ds
unfolding capture_of restored runs_of
runs-back c ds h s = ap runs_of (counts_bytes (c ∷ edges c ds)) ∙ distances-edges c ds h s

bits_back : (c : ℕ) (ds : List ℕ) → c < 65536 → Counts ds → channel_of (counts_of (capture_of (c ∷ ds))) ≡ channel ds
unfolding capture_of restored runs_of channel_of
bits_back c ds h s = ap channel_of (counts_bytes (c ∷ edges c ds)) ∙ ap channel (distances-edges c ds h s)

legal-at : (ds : List ℕ) (i : ℕ) → Legal ds → i < length ds → legal (get_or ds i 0) ≡ true
legal-at [] i l h = absurd (omega arith)
legal-at (d ∷ ds) zero l h = simp (le-leb 3 (bits_in d) l.0, le-leb (bits_in d) 11 l.1)
legal-at (d ∷ ds) (suc i) l h = legal-at ds i l.2 (omega arith)

never : {b : Bool} → b ≡ true → not b ≡ true → ⊥
never p q = let e : false ≡ true = sym (ap not p) ∙ q in let z : ◌≡◌ {A = ℕ} 0 1 = cc in omega arith

none_illegal : (ds : List ℕ) → Legal ds → first_illegal ds ≡ length ds
unfolding first_illegal
none_illegal ds l =
    sym (found_first (λ i. not (legal (get_or ds i 0))) (length ds) (length ds)
    (record { within = omega arith; before = λ i h e. never (legal-at ds i l h) e; holds = λ h. absurd (omega arith) }))

module _ (sections ds old : List ℕ) (c n : ℕ) (bytes : Bytes sections) (long : length sections ≡ 7203 * n) (some : 1 ≤ n)
    (kept : Kept (unpack sections ++ sync_header_bits) n) (t : Ticks ds (gaps_of (unpack sections))) (h : c < 65536) (few : length ds < 32768) (right : length old ≡ 65536) where
  legal-ds : Legal ds
  legal-ds = (all_turned sections ds n bytes long some kept t).legal

  capture : List ℕ
  capture = capture_of (c ∷ ds)

  runs_are : runs_of (counts_of capture) ≡ ds
  unfolding capture
  runs_are = runs-back c ds h (legal_counts ds legal-ds)

  bits_are : channel_of (counts_of capture) ≡ channel ds
  unfolding capture
  bits_are = bits_back c ds h (legal_counts ds legal-ds)

  capture_long : length capture ≡ 2 * (length ds + 1)
  unfolding capture
  capture_long = omega (arith, length_capture (c ∷ ds))

  -- nothing is refused
  says : replay_say capture (first_header (channel_of (counts_of capture))) old ≡ done (7203 * n ∷ 98 * n ∷ [])
  unfolding replay_say
  says =
      let e : length capture % 2 ≡ 0 = omega (arith, capture_long) in
      let k : length capture ≤ 65536 = omega (arith, capture_long) in
      let l : length ds ≤ first_illegal ds = omega (arith, none_illegal ds legal-ds) in
      let p : first_header (channel ds) < length (channel ds)
      = omega (arith, header_first sections ds n bytes long some kept t, bits_in_all sections ds n bytes long some kept t) in
      let right-lengths : replay_say capture (first_header (channel_of (counts_of capture))) old
      ≡ runs_say (runs_of (counts_of capture)) (first_illegal (runs_of (counts_of capture)))
      (header_say (channel_of (counts_of capture)) (first_header (channel_of (counts_of capture))))
      = simp (eq-eqb (length capture % 2) 0 e, le-leb (length capture) 65536 k, eq-eqb (length old) 65536 right) in
      let first : replay_say capture (first_header (channel_of (counts_of capture))) old ≡ runs_say ds (first_illegal ds) (header_say (channel ds) (first_header (channel ds)))
      = right-lengths ∙ ap₂ (λ (rs bs : List ℕ). runs_say rs (first_illegal rs) (header_say bs (first_header bs))) runs_are bits_are in
      let second : runs_say ds (first_illegal ds) (header_say (channel ds) (first_header (channel ds))) ≡ header_say (channel ds) (first_header (channel ds))
      = simp (le-ltb (first_illegal ds) (length ds) l) in
      let third : header_say (channel ds) (first_header (channel ds))
      ≡ done (bytes_for (frames_from (channel ds) (first_header (channel ds))) ∷ frames_from (channel ds) (first_header (channel ds)) ∷ [])
      = simp (lt-ltb (first_header (channel ds)) (length (channel ds)) p) in
      let size : bytes_for (98 * n) ≡ 7203 * n = omega arith in
      first ∙ second ∙ third ∙ ap (λ (m : ℕ). done (bytes_for m ∷ m ∷ [])) (frames_in_all sections ds n bytes long some kept t)
      ∙ ap (λ (m : ℕ). done (m ∷ 98 * n ∷ [])) size

  -- WHOLE SECTIONS that are accepted, turned into edges, come back
  pub sections_replayed : replaying (capture_of (c ∷ ds)) old ≡ outcome (done (7203 * n ∷ 98 * n ∷ [])) (filled 65536 sections)
  unfolding replaying replaying_at capture
  sections_replayed =
      ap (λ (s : Say). answered s 65536 (filled 65536 (frames_of (channel_of (counts_of capture)) (first_header (channel_of (counts_of capture))))) old) says
      ∙ ap (λ (l : List ℕ). outcome (done (7203 * n ∷ 98 * n ∷ [])) (filled 65536 l))
      (ap (λ (bs : List ℕ). frames_of bs (first_header bs)) bits_are ∙ frames_are sections ds n bytes long some kept t)

-- so do those of our Section writer, from any state
pub written_replayed : (s : SectionWriter) (ps : List Part) (sections ds old : List ℕ) (c : ℕ) → Bytes sections → unpack sections ≡ stream_of s ps
    → length sections ≡ 7203 * length ps → 1 ≤ length ps → Ticks ds (gaps_of (unpack sections)) → c < 65536 → length ds < 32768 → length old ≡ 65536
    → replaying (capture_of (c ∷ ds)) old ≡ outcome (done (7203 * length ps ∷ 98 * length ps ∷ [])) (filled 65536 sections)
written_replayed s ps sections ds old c bytes e long some t h few right =
    sections_replayed sections ds old c (length ps) bytes long some
    (subst (λ (l : List ℕ). Kept (l ++ sync_header_bits) (length ps)) (sym e) (stream-kept s ps)) t h few right
