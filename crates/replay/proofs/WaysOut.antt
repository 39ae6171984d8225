-- The ways out of replaying a capture from an edge on: the buffer is wiped first, and its length stays.
-- Assumes nothing.
use mathlib.Core.Path.{◌≡◌, sym, ap, ap₂, ◌∙◌}
use mathlib.Core.Bool.{true, false}
use mathlib.Core.List.{List, [], ◌∷◌, ◌++◌}
use Prim.Native.Nat.{ℕ, ◌+◌, ◌-◌, ◌*◌, ◌/◌, ◌<◌, ◌≤◌}
use native.Mathlib.Omega.{arith}
use borrow.Author.Tests.{eq-eqb, ne_eqb, lt-ltb, le-ltb}
use lib.ListN.{length, take, drop, replicate, length-drop}
use Rattle.outcome.specs.Bytes.{Bytes}
use Rattle.outcome.specs.Say.{Say, done, refused, outcome, answered, cleared}
use Rattle.outcome.specs.Say.Refusals.{cleared-right}
use Rattle.bits.specs.Bits.{pack}
use Rattle.captures.specs.Counts.{counts_of}
use Rattle.captures.specs.Kept.{right_capture, filled}
use Rattle.captures.specs.Kept.Lengths.{right_short}
use Rattle.captures.specs.Kept.Filled.{wiped_length}
use Rattle.replaying.specs.Replay.{channel, channel_of, frames_from, bytes_for, packed, first_illegal, frames_of, header_say, runs_say, replay_say, replaying_at}
use Rattle.replaying.specs.Replay.Sizes.{Legal, bits_of_runs, length-channel, bits-at_most}
use Rattle.replaying.specs.Replay.Edges.{bits_parted, legal-drop, drop-runs}
use Rattle.legal_runs.specs.EdgeBits.{runs}
use Rattle.legal_runs.specs.EdgeBits.There.{runs_long}
use Rattle.legal_runs.specs.EdgeBits.AllLegal.{none_illegal}
use Rattle.header_search.specs.HeaderEdge.{stands}
use Rattle.header_search.specs.HeaderEdge.Stands.{stands-within}
use Rattle.replay.specs.FromEdge.{header_bit, replaying_from}
use Rattle.replay.specs.FromEdge.Header.{some_bits, edge_stands, edge_empty}
use Rattle.replay.specs.Inner.Frames.{EdgeThere, FramesDue, FramesPut}
use Rattle.replay.proofs.Packing.{frames_packed}

-- ---- how far the code is

-- the buffer is wiped, and all lengths are right
pub record Right (capture old frames : List ℕ) : Type 0 where
  pub wiped : frames ≡ cleared 65536 old
  pub captured : right_capture capture ≡ true
  pub long : length frames ≡ 65536

-- all runs are legal
pub record Clear (capture old frames : List ℕ) : Type 0 where
  pub right : Right capture old frames
  pub none : length (runs capture) ≤ first_illegal (runs capture)
  pub legal : Legal (runs capture)

-- a Sync Header begins at edge k
pub record Begun (capture old frames : List ℕ) (k : ℕ) : Type 0 where
  pub clear : Clear capture old frames
  pub stands-there : stands (runs capture) k ≡ true
  pub within : k + 2 < length (runs capture)

pub is_clear : {capture old frames : List ℕ} → Right capture old frames → (i : ℕ) → i ≡ first_illegal (runs capture) → length capture / 2 ≤ i + 1
    → Clear capture old frames
is_clear {capture} r i e k =
    let l : length (runs capture) ≤ first_illegal (runs capture) = omega (arith, runs_long capture) in
    record { right = r; none = l; legal = none_illegal (runs capture) l }

pub is_begun : {capture old frames : List ℕ} → Clear capture old frames → (k : ℕ) → stands (runs capture) k ≡ true → Begun capture old frames k
is_begun {capture} c k e = record { clear = c; stands-there = e; within = stands-within (runs capture) k e }

-- ---- the ways out

module _ (capture old frames : List ℕ) (k : ℕ) (wiped : frames ≡ cleared 65536 old) where
  same : length frames ≡ length old
  same = ap length wiped ∙ wiped_length 65536 old

  -- what is said decides what is left
  left : (s : Say) → replay_say capture (header_bit capture k) old ≡ s
      → replaying_from capture k old ≡ answered s 65536 (filled 65536 (frames_of (channel_of (counts_of capture)) (header_bit capture k))) old
  unfolding replaying_at
  left s e = ap (λ (t : Say). answered t 65536 (filled 65536 (frames_of (channel_of (counts_of capture)) (header_bit capture k))) old) e

  refuses : (n : ℕ) (vs : List ℕ) → replay_say capture (header_bit capture k) old ≡ refused n vs → outcome (refused n vs) frames ≡ replaying_from capture k old
  refuses n vs e = ap (outcome (refused n vs)) wiped ∙ sym (left (refused n vs) e)

  pub on_incoming : right_capture capture ≡ false → outcome (refused 1 []) frames ≡ replaying_from capture k old
  unfolding replay_say
  on_incoming w = refuses 1 [] (simp w)

  pub on_room : right_capture capture ≡ true → (length frames ≡ 65536 → ⊥) → outcome (refused 2 []) frames ≡ replaying_from capture k old
  unfolding replay_say
  on_room r n = refuses 2 [] (simp (r, ne_eqb (length old) 65536 (λ l. n (same ∙ l))))

module _ {capture old frames : List ℕ} (r : Right capture old frames) (k : ℕ) where
  bits : List ℕ
  bits = channel_of (counts_of capture)

  old_long : length old ≡ 65536
  old_long = sym (same capture old frames k r.wiped) ∙ r.long

  -- the lengths are right: the runs decide
  runs_decide : replay_say capture (header_bit capture k) old ≡ runs_say (runs capture) (first_illegal (runs capture)) (header_say bits (header_bit capture k))
  unfolding replay_say bits
  runs_decide = simp (r.captured, eq-eqb (length old) 65536 old_long)

  pub on_illegal : (i : ℕ) → i ≡ first_illegal (runs capture) → i + 1 < length capture / 2 → outcome (refused 20 (i ∷ [])) frames ≡ replaying_from capture k old
  on_illegal i first h =
      let l : first_illegal (runs capture) < length (runs capture) = omega (arith, runs_long capture) in
      let said : runs_say (runs capture) (first_illegal (runs capture)) (header_say bits (header_bit capture k)) ≡ refused 20 (first_illegal (runs capture) ∷ [])
      = simp (lt-ltb (first_illegal (runs capture)) (length (runs capture)) l) in
      refuses capture old frames k r.wiped 20 (i ∷ []) (runs_decide ∙ said ∙ ap (λ (j : ℕ). refused 20 (j ∷ [])) (sym first))

module _ {capture old frames : List ℕ} (c : Clear capture old frames) (k : ℕ) where
  -- and then the Sync Header
  header_decides : replay_say capture (header_bit capture k) old ≡ header_say (channel_of (counts_of capture)) (header_bit capture k)
  unfolding bits
  header_decides =
      let said : runs_say (runs capture) (first_illegal (runs capture)) (header_say (channel_of (counts_of capture)) (header_bit capture k))
      ≡ header_say (channel_of (counts_of capture)) (header_bit capture k)
      = simp (le-ltb (first_illegal (runs capture)) (length (runs capture)) c.none) in
      runs_decide c.right k ∙ said

  pub on_none : stands (runs capture) k ≡ false → outcome (refused 21 []) frames ≡ replaying_from capture k old
  on_none e =
      let all = channel_of (counts_of capture) in
      let p : header_bit capture k ≡ length all = edge_empty capture c.legal k e in
      let l : length all ≤ header_bit capture k = omega arith in
      let said : header_say all (header_bit capture k) ≡ refused 21 [] = simp (le-ltb (header_bit capture k) (length all) l) in
      refuses capture old frames k c.right.wiped 21 [] (header_decides ∙ said)

module _ {capture old frames : List ℕ} {k : ℕ} (b : Begun capture old frames k) where
  all : List ℕ
  all = channel_of (counts_of capture)

  legal : Legal (runs capture)
  legal = b.clear.legal

  short : length capture ≤ 65536
  short = right_short capture b.clear.right.captured

  pub edge_there : EdgeThere capture k
  edge_there = record { short = short; legal = legal; within = omega (arith, b.within) }

  abbrev from : List ℕ
  from = channel (drop k (runs capture))

  bits_are : all ≡ channel (runs capture)
  unfolding all
  bits_are = some_bits (counts_of capture) (omega (arith, b.within))

  place : header_bit capture k ≡ bits_of_runs (take k (runs capture))
  place = edge_stands capture legal k b.stands-there

  behind : drop (header_bit capture k) all ≡ from
  behind = ap₂ (drop {A = ℕ}) place bits_are ∙ drop-runs k (runs capture) legal (omega (arith, b.within))

  few : length from ≤ 360449
  few =
      omega (
        arith,
        length-channel (drop k (runs capture)) (legal-drop k (runs capture) legal),
        bits-at_most (drop k (runs capture)) (legal-drop k (runs capture) legal),
        length-drop k (runs capture),
        runs_long capture,
        short,
      )

  inside : header_bit capture k < length all
  inside = omega (arith, place, ap length bits_are, length-channel (runs capture) legal, bits_parted k (runs capture))

  module _ (m : ℕ) (g : m ≡ length from / 588) where
    pub frames_due : FramesDue capture k (588 * m) frames
    frames_due =
        record {
          there = edge_there;
          within = omega (arith, g);
          room = omega (arith, g, few);
          zeros = b.clear.right.wiped ∙ cleared-right 65536 old (old_long b.clear.right k);
        }

    pub frames_few : m ≤ 613
    frames_few = omega (arith, g, few)

    number_is : m ≡ frames_from all (header_bit capture k)
    unfolding frames_from
    number_is = g ∙ ap (λ (l : List ℕ). length l / 588) (sym behind) ∙ ap (λ (l : ℕ). l / 588) (length-drop (header_bit capture k) all)

    pub on_done : (new : List ℕ) → Bytes new → FramesPut capture k (588 * m) new → outcome (done ((588 * m + 7) / 8 ∷ m ∷ [])) new ≡ replaying_from capture k old
    unfolding frames_of packed all
    on_done new w put =
        let said : header_say all (header_bit capture k) ≡ done (bytes_for (frames_from all (header_bit capture k)) ∷ frames_from all (header_bit capture k) ∷ [])
        = simp (lt-ltb (header_bit capture k) (length all) inside) in
        let is : new ≡ filled 65536 (pack (bytes_for m) (take (588 * m) from ++ replicate (8 * bytes_for m - 588 * m) 0))
        = frames_packed new from m w put.long (omega (arith, g)) (omega (arith, g, few)) put.is in
        let same-frames : new ≡ filled 65536 (frames_of all (header_bit capture k))
        = is ∙ ap (λ (l : List ℕ). filled 65536 (pack (bytes_for m) (take (588 * m) l ++ replicate (8 * bytes_for m - 588 * m) 0))) (sym behind)
        ∙ ap (λ (x : ℕ). filled 65536 (packed all (header_bit capture k) x)) number_is in
        ap₂ (λ (x : ℕ) (l : List ℕ). outcome (done (bytes_for x ∷ x ∷ [])) l) number_is same-frames
        ∙ sym (left capture old frames k b.clear.right.wiped (done (bytes_for (frames_from all (header_bit capture k)) ∷ frames_from all (header_bit capture k) ∷ []))
        (header_decides b.clear k ∙ said))
