-- A capture replayed into Channel Frames (document 02, §5: "find the first Sync Header, and replay it into Channel Frames: each edge is a ONE, a distance
-- of b bits puts b-1 ZEROs after it, and the frames are the whole stretches of 588 bits from that header on, packed as a Section is (a last half
-- byte is filled with zeros and counts as used), with their number").
-- Assumes nothing.
use Rattle.std.specs.Prelude.{cond, not, List, [], ◌∷◌, ◌++◌, ℕ, ◌+◌, ◌-◌, ◌*◌, ◌/◌, eqb, ltb, length, get_or, take, drop, replicate}
use Rattle.outcome.specs.First.{first_below}
use Rattle.outcome.specs.Say.{Say, done, refused, one_then_two, Outcome, answered}
use Rattle.bits.specs.Bits.{pack}
use Rattle.merging.specs.Rule.{sync_header_bits, starts}
use Rattle.captures.specs.Counts.{counts_of, runs_of, bits_in, legal}
use Rattle.captures.specs.Kept.{right_capture, filled}
pub mod Sizes
pub mod Headers
pub mod Edges

-- the Channel bits of edges at these distances: each edge is a ONE with its ZEROs after it, and nothing is known after the last
unfoldable pub channel : List ℕ → List ℕ
channel [] = 1 ∷ []
channel (d ∷ ds) = 1 ∷ (replicate (bits_in d - 1) 0 ++ channel ds)

-- the Channel bits of counts: a capture without an edge has none
unfoldable pub channel_of : List ℕ → List ℕ
channel_of [] = []
channel_of (c ∷ cs) = channel (runs_of (c ∷ cs))

-- the bit at which the first Sync Header begins, or how many bits there are
unfoldable pub first_header : List ℕ → ℕ
first_header bits = first_below (λ p. starts sync_header_bits (drop p bits)) (length bits)

-- how many whole stretches of 588 bits there are from bit p on
unfoldable pub frames_from : List ℕ → ℕ → ℕ
frames_from bits p = (length bits - p) / 588

-- the bytes that n frames of 588 bits take, a last half byte among them
abbrev pub bytes_for : ℕ → ℕ
bytes_for n = (588 * n + 7) / 8

-- n frames from bit p on, packed, a last half byte filled with zeros
unfoldable pub packed : List ℕ → ℕ → ℕ → List ℕ
packed bits p n = pack (bytes_for n) (take (588 * n) (drop p bits) ++ replicate (8 * bytes_for n - 588 * n) 0)

-- the first run that is not legal, or how many runs there are
unfoldable pub first_illegal : List ℕ → ℕ
first_illegal ds = first_below (λ i. not (legal (get_or ds i 0))) (length ds)

-- what is said of legal runs with these bits and a header at bit p: 21 where there is no such bit; else the used length, and the number of frames
abbrev pub header_say : List ℕ → ℕ → Say
header_say bits p = cond (ltb p (length bits)) (done (bytes_for (frames_from bits p) ∷ frames_from bits p ∷ [])) (refused 21 [])

-- 20 with the first run that is not legal, and then 21
abbrev pub runs_say : List ℕ → ℕ → Say → Say
runs_say ds i rest = cond (ltb i (length ds)) (refused 20 (i ∷ [])) rest

-- 1, 2, 20, 21
unfoldable pub replay_say : List ℕ → ℕ → List ℕ → Say
replay_say capture p old =
    one_then_two (right_capture capture) (eqb (length old) 65536)
    (runs_say (runs_of (counts_of capture)) (first_illegal (runs_of (counts_of capture))) (header_say (channel_of (counts_of capture)) p))

-- all whole frames from bit p on
unfoldable pub frames_of : List ℕ → ℕ → List ℕ
frames_of bits p = packed bits p (frames_from bits p)

-- a capture replayed from bit p on
unfoldable pub replaying_at : List ℕ → ℕ → List ℕ → Outcome
replaying_at capture p old = answered (replay_say capture p old) 65536 (filled 65536 (frames_of (channel_of (counts_of capture)) p)) old

-- and from its first Sync Header on
unfoldable pub replaying : List ℕ → List ℕ → Outcome
replaying capture old = replaying_at capture (first_header (channel_of (counts_of capture))) old
