-- The calls of a run that are done leave the stream of their Sections: it keeps the run rule, and has its Sync Headers at the multiples of 588 bits.
-- Assumes nothing.
use Rattle.std.specs.Prelude.{◌≡◌, refl, Bool, true, false, cond, ◌&&◌, List, [], ◌∷◌, ◌++◌, ℕ, ◌%◌, ◌<◌, eqb, ltb, length, drop}
use Rattle.std.proofs.Common.{sym, ap, ap₂, ◌∙◌, subst}
use Rattle.std.proofs.lemmas.Bool.{false≢true}
use Rattle.outcome.specs.Say.{done, demand, leaves}
use Rattle.calls.specs.Step.{Step, step, is_done, handed_back}
use Rattle.calls.specs.Step.Kept.{refused_keeps}
use Rattle.calls.specs.Calls.{run, done_of, accepted}
use Rattle.bits.specs.Bits.{pack, unpack}
use Rattle.bits.proofs.Bits.Packed.{unpack-append}
use Rattle.words.specs.RunRule.{runs}
use Rattle.merging.specs.Rule.{sync_header_bits, starts}
use Rattle.section_state.specs.Carried.{most_sections}
use Rattle.section_writer.specs.declared.SectionWriter.{SectionWriter}
use Rattle.section_writer.specs.State.{right}
use Rattle.section_writer.specs.WriteSay.{section, after_section, write_say, written}
use Rattle.sections.specs.Stream.{Part, stream_of}
use Rattle.sections.specs.Stream.Rules.{runs_everywhere, headers-at}
use Rattle.sections.proofs.Laid.ThereAndBack.{whole}
use Rattle.sections.specs.Calls.{Call, writes, parts, section_steps, outgoing}

-- what holds of a call that is done
pub record Accepted (s : SectionWriter) (c : Call) : Type 0 where
  pub says_done : (writes s c).say ≡ done []
  pub not_full : ltb s.sections most_sections ≡ true

-- a call is done only where its demands are met
pub when_done : (s : SectionWriter) (c : Call) → is_done (writes s c).say ≡ true → Accepted s c
unfolding written write_say
when_done s c e = go (eqb (length c.part.frames) 3136 && eqb (length c.part.control) 96) (eqb (length c.out) 7203) (right s) (ltb s.sections most_sections) refl refl refl refl e
  where
    go : (p q r t : Bool) → (eqb (length c.part.frames) 3136 && eqb (length c.part.control) 96) ≡ p → eqb (length c.out) 7203 ≡ q → right s ≡ r
        → ltb s.sections most_sections ≡ t → is_done (demand p 1 (demand q 2 (demand r 9 (demand t 7 (done []))))) ≡ true → Accepted s c
    go true true true true a b k l u = record { says_done = rw (a, b, k, l); not_full = l }
    go true true true false a b k l u = absurd (false≢true u)
    go true true false t a b k l u = absurd (false≢true u)
    go true false r t a b k l u = absurd (false≢true u)
    go false q r t a b k l u = absurd (false≢true u)

-- a refused call hands back the state as it was
pub refused_stays : (s : SectionWriter) (c : Call) → is_done (writes s c).say ≡ false → (writes s c).next ≡ s
unfolding written
refused_stays s c e = refused_keeps (write_say s c.part.frames c.part.control c.out) (after_section s (section s c.part.frames c.part.control)) s e

-- a call that is done makes the writer's next Section
pub made : (s : SectionWriter) (c : Call) → (writes s c).say ≡ done []
    → writes s c ≡ step (done []) (after_section s (section s c.part.frames c.part.control)) (pack 7203 (section s c.part.frames c.part.control).bits)
unfolding written
made s c e =
    let w = section s c.part.frames c.part.control in
    λ i. step (e i) (handed_back (e i) (after_section s w) s) (leaves (e i) 7203 (pack 7203 w.bits) c.out)

-- THE CALLS THAT ARE DONE answer as the stream of their Sections says: answer, state and bytes, in order
pub done_as_stream : (cs : List Call) (s : SectionWriter) → done_of (run writes s cs) ≡ section_steps s (parts (accepted writes s cs))
unfolding run done_of accepted section_steps
done_as_stream [] s = refl
done_as_stream (c ∷ cs) s = by (is_done (writes s c).say) refl (done_as_stream cs (writes s c).next)
  where
    rest : List Call
    rest = accepted writes (writes s c).next cs

    by : (t : Bool) → is_done (writes s c).say ≡ t → done_of (run writes (writes s c).next cs) ≡ section_steps (writes s c).next (parts rest)
        → cond t (writes s c ∷ done_of (run writes (writes s c).next cs)) (done_of (run writes (writes s c).next cs)) ≡ section_steps s (parts (cond t (c ∷ rest) rest))
    by true e h =
        let m = made s c (when_done s c e).says_done in
        ap₂ ◌∷◌ m (h ∙ ap (λ (t : Step SectionWriter). section_steps t.next (parts rest)) m)
    by false e h = h ∙ ap (λ (u : SectionWriter). section_steps u (parts rest)) (refused_stays s c e)

-- the bytes of Sections are their stream
pub steps-unpack : (ps : List Part) (s : SectionWriter) → unpack (outgoing (section_steps s ps)) ≡ stream_of s ps
unfolding unpack outgoing section_steps stream_of
steps-unpack [] s = refl
steps-unpack (p ∷ ps) s =
    let w = section s p.frames p.control in
    unpack-append (pack 7203 w.bits) (outgoing (section_steps (after_section s w) ps))
    ∙ ap₂ ◌++◌ (whole p.frames p.control p.frames_bytes p.control_bytes_lem s) (steps-unpack ps (after_section s w))

module _ (s : SectionWriter) (cs : List Call) where
  -- THE BYTES THAT THE CALLS LEAVE are the stream of the accepted calls
  pub bytes_are_stream : unpack (outgoing (done_of (run writes s cs))) ≡ stream_of s (parts (accepted writes s cs))
  bytes_are_stream = ap (λ (ts : List (Step SectionWriter)). unpack (outgoing ts)) (done_as_stream cs s) ∙ steps-unpack (parts (accepted writes s cs)) s

  -- so they keep the run rule
  pub calls_keep_runs : runs (unpack (outgoing (done_of (run writes s cs)))) ≡ true
  calls_keep_runs = ap runs bytes_are_stream ∙ runs_everywhere s (parts (accepted writes s cs))

  -- and have their Sync Headers exactly at the multiples of 588 bits
  pub calls_place_headers : (i : ℕ) → i < length (unpack (outgoing (done_of (run writes s cs))))
      → starts sync_header_bits (drop i (unpack (outgoing (done_of (run writes s cs))))) ≡ eqb (i % 588) 0
  calls_place_headers i =
      subst (λ (bs : List ℕ). i < length bs → starts sync_header_bits (drop i bs) ≡ eqb (i % 588) 0) (sym bytes_are_stream)
      (headers-at s (parts (accepted writes s cs)) i)
