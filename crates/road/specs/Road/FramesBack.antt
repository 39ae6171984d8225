-- CIRC there and back over lists of frames: what a CIRC writer made, unmarked, a CIRC reader turns back, 111 frames later, and is never in doubt.
-- Assumes nothing.
use Rattle.std.specs.Prelude.{◌≡◌, refl, List, [], ◌∷◌, map, ◌⊎◌, ℕ, zero, suc, ◌+◌, ◌-◌, ◌<◌, ◌≤◌, length, get_or, take, drop}
use Rattle.std.proofs.Math.Path.{sym}
use Rattle.std.proofs.Common.{ap, ◌∙◌, subst, inl, inr, arith, length-drop, length-take-le, get_or-take, get_or-drop, ext_get_or}
use Rattle.std.proofs.lemmas.Simd.{map-map}
use Rattle.std.proofs.Math.ListN.{replicate, length-map, get_or-map}
use Rattle.std.proofs.lemmas.List.{length-replicate, get_or-replicate}
use Rattle.outcome.specs.Bytes.{Bytes}
use Rattle.outcome.specs.First.Found.{lt-or-le}
use Rattle.outcome.specs.Say.{done}
use Rattle.calls.specs.Step.{Step, step}
use Rattle.calls.specs.Calls.Firsts.{length-firsts, begins}
use Rattle.circ.specs.Marks.{lost_by}
use Rattle.circ.specs.Rings.{fresh_reader_rings}
use Rattle.circ.proofs.Rings.Alike.{as_lines}
use Rattle.circ_streams.specs.Streams.{NoneLost, round_trip}
use Rattle.circ_streams.specs.Calls.{Call, MarkedFrame, marked, reader_in_place, writer_done, reader_done, writer_frames, reader_frames}
use Rattle.circ_streams.specs.Calls.Alike.{reader_done_alike}
use Rattle.circ_streams.specs.Calls.Streams.{reader_calls}
use Rattle.circ_streams.proofs.Calls.ThereAndBack.{frames_of, marks_of, calls_there_and_back, calls_zeros_before}
use Rattle.road.specs.Road.{OfBytes, calls_with, left, encoded, unmarked, decoding}
use Rattle.road.specs.Inner.Fits.{writer_takes, reader_takes, as_lines_lem, left_as_lines}
use Rattle.road.specs.Inner.Made.{f1_frames_lem, encoded-left, length-encoded, encoded_of}

-- none of these marks says that its byte is lost
none-marked : (ws : List (List ℕ)) (n : ℕ) → get_or (marks_of (map unmarked ws)) n (replicate 32 0) ≡ replicate 32 0
none-marked [] n = refl
none-marked (w ∷ ws) zero = refl
none-marked (w ∷ ws) (suc n) = none-marked ws n

none_lost : (n i : ℕ) → lost_by (get_or (replicate n 0) i 0) ≡ 0
unfolding lost_by
none_lost zero i = refl
none_lost (suc n) zero = refl
none_lost (suc n) (suc i) = none_lost n i

frames_unmarked : (ws : List (List ℕ)) → frames_of (map unmarked ws) ≡ ws
frames_unmarked [] = refl
frames_unmarked (w ∷ ws) = ap (λ (l : List (List ℕ)). w ∷ l) (frames_unmarked ws)

-- the reader has as many steps as frames come in
as_many : (ds : List (Call MarkedFrame)) → length (reader_done ds) ≡ length (reader_frames ds)
as_many ds =
    let g : ℕ → List ℕ = λ n. (get_or (reader_frames ds) n (marked [] [])).frame in
    let k : ℕ → List ℕ = λ n. (get_or (reader_frames ds) n (marked [] [])).marks in
    ap length (reader_calls ds g k (begins (marked [] []) (reader_frames ds))) ∙ length-firsts _ 0 (length (reader_frames ds))

module _ (f1 : List (List ℕ)) (rows : OfBytes 24 f1) where
  abbrev cs : List (Call (List ℕ))
  cs = calls_with 32 f1

  abbrev came : List MarkedFrame
  came = map unmarked (encoded f1)

  abbrev ds : List (Call MarkedFrame)
  ds = calls_with 24 came

  takes : reader_frames ds ≡ came
  takes = reader_takes (encoded f1) (encoded_of f1 rows)

  bytes : (n : ℕ) → Bytes (get_or (writer_frames cs) n (replicate 24 0))
  bytes n = subst (λ (w : List (List ℕ)). Bytes (get_or w n (replicate 24 0))) (sym (writer_takes f1 rows)) ((f1_frames_lem f1 rows).bytes n)

  fed : frames_of (reader_frames ds) ≡ left (writer_done cs)
  fed = ap frames_of takes ∙ frames_unmarked (encoded f1) ∙ encoded-left f1 rows

  none : NoneLost (λ n. get_or (marks_of (reader_frames ds)) n (replicate 32 0))
  none n i =
      ap (λ (xs : List MarkedFrame). lost_by (get_or (get_or (marks_of xs) n (replicate 32 0)) i 0)) takes
      ∙ ap (λ (w : List ℕ). lost_by (get_or w i 0)) (none-marked (encoded f1) n)
      ∙ none_lost 32 i

  long : length (reader_done ds) ≡ length f1
  long = as_many ds ∙ ap length takes ∙ length-map (encoded f1) unmarked ∙ length-encoded f1 rows

  lines : map as_lines (decoding came) ≡ reader_done ds
  unfolding decoding
  lines =
      as_lines_lem reader_in_place fresh_reader_rings ds (reader_done ds) (reader_done_alike ds)
      (long ∙ sym (length-map came (λ x. record { incoming = x; out = replicate 24 0 }) ∙ length-map (encoded f1) unmarked ∙ length-encoded f1 rows))

  -- zeros behind the steps
  abbrev z : Step (List ℕ)
  z = step (done (0 ∷ [])) [] (replicate 24 0)

  -- never in doubt
  pub never_in_doubt : map (λ t. t.say) (decoding (map unmarked (encoded f1))) ≡ replicate (length f1) (done (0 ∷ []))
  never_in_doubt =
      sym (map-map (λ (t : Step (List ℕ)). t.say) as_lines (decoding came))
      ∙ ap (map (λ (t : Step (List ℕ)). t.say)) lines
      ∙ ext_get_or (done (0 ∷ [])) (map (λ (t : Step (List ℕ)). t.say) (reader_done ds)) (replicate (length f1) (done (0 ∷ [])))
      (length-map (reader_done ds) (λ t. t.say) ∙ long ∙ sym (length-replicate (length f1) (done (0 ∷ []))))
      (λ n l.
      let m : n < length f1 = omega (arith, long, length-map (reader_done ds) (λ (t : Step (List ℕ)). t.say)) in
      get_or-map (λ (t : Step (List ℕ)). t.say) (reader_done ds) n z
      ∙ sure n (omega (arith, long)) (lt-or-le n round_trip)
      ∙ sym (get_or-replicate (length f1) n (done (0 ∷ [])) (done (0 ∷ [])) m))
    where
      sure : (n : ℕ) → n < length (reader_done ds) → (n < round_trip) ⊎ (round_trip ≤ n) → (get_or (reader_done ds) n z).say ≡ done (0 ∷ [])
      sure n l (inl h) = (calls_zeros_before cs ds bytes fed none n z h l).0
      sure n l (inr h) =
          let e : round_trip + (n - round_trip) ≡ n = omega arith in
          subst (λ (m : ℕ). (get_or (reader_done ds) m z).say ≡ done (0 ∷ [])) e (calls_there_and_back cs ds bytes fed none (n - round_trip) z (omega arith)).0

  -- from step 111 on the frames that went in
  pub frames_back : drop round_trip (left (decoding (map unmarked (encoded f1)))) ≡ take (length f1 - round_trip) f1
  frames_back =
      ap (drop round_trip) (left_as_lines (decoding came) ∙ ap left lines)
      ∙ ext_get_or (replicate 24 0) (drop round_trip (left (reader_done ds))) (take (length f1 - round_trip) f1)
      (length-drop round_trip (left (reader_done ds)) ∙ ap (λ (n : ℕ). n - round_trip) (length-map (reader_done ds) (λ t. t.out) ∙ long)
      ∙ sym (length-take-le (length f1 - round_trip) f1 (omega arith)))
      (λ n l.
      let m : n < length f1 - round_trip
      = omega (arith, long, length-drop round_trip (left (reader_done ds)), length-map (reader_done ds) (λ (t : Step (List ℕ)). t.out)) in
      get_or-drop round_trip (left (reader_done ds)) n (replicate 24 0)
      ∙ get_or-map (λ (t : Step (List ℕ)). t.out) (reader_done ds) (round_trip + n) z
      ∙ (calls_there_and_back cs ds bytes fed none n z (omega (arith, long))).1
      ∙ ap (λ (w : List (List ℕ)). get_or w n (replicate 24 0)) (writer_takes f1 rows)
      ∙ sym (get_or-take (length f1 - round_trip) f1 n (replicate 24 0) m))
