-- What the code says, test by test; and that this is what `Reads` allows, and all that it allows.
-- Assumes nothing.
use Rattle.std.specs.Prelude.{◌≡◌, Bool, false, ◌&&◌, ◌||◌, length, take, drop}
use Rattle.std.proofs.Math.Path.{refl, ap, ap₂}
use Rattle.std.proofs.Common.{sym, subst, ◌∙◌, eq-eqb, ne_eqb, eqb-true}
use Rattle.std.proofs.Math.Bool.{true}
use mathlib.Core.List.{List, [], ◌∷◌}
use Prim.Native.Nat.{ℕ, ◌+◌, ◌*◌, ◌/◌, ◌%◌, ◌^◌, ◌<◌}
use native.Mathlib.Omega.{arith}
use Rattle.std.proofs.lemmas.Bool.{eqb-false}
use Rattle.std.proofs.Math.Dec.{eqb}
use Rattle.std.proofs.Math.ListN.{get_or}
use Rattle.std.proofs.Math.Seq.{take_at, drop_at}
use Rattle.outcome.specs.Say.{Say, done, refused, demand}
use Rattle.bits.specs.Bits.{bits_of, number, pack}
use Rattle.bits.specs.Bits.Numbers.{number-bits}
use Rattle.bits.proofs.Bits.Packed.{pack-unpack}
use Rattle.bits.specs.Binary.{Binary}
use Rattle.lists.specs.Same.{same}
use Rattle.lists.proofs.Same.Equal.{equal_same, same_equal}
use Rattle.crc.specs.Crc.{crc}
use Rattle.control.specs.declared.QData.{QData}
use Rattle.control.specs.declared.QData.TheVariants.{UserData, LeadOut, LeadIn, CatalogNumber}
use Rattle.control.specs.declared.Control.{Control}
use Rattle.control.specs.Fields.{allowed}
use Rattle.control.specs.Channels.{control_field, q_mode, data_bits, field_bits, q_channel, p_bit, control_bytes}
use Rattle.control.specs.Channels.Framed as sizes
use Rattle.control.specs.Values.{values_of}
use Rattle.control.specs.FieldBytes.{field_bytes}
use Rattle.control.specs.FieldBytes.Bits.{length_fields, field_bits_lem}
use Rattle.control.specs.Inner.Small.{both, bytes_fields}
use Rattle.control_fields.specs.Found.{fields_in}
use Rattle.control_fields.specs.Found.Back.{fields_found}
use Rattle.control_reader.specs.Reading.{q_of, crc_holds, known_mode, Reads, wrong-length, wrong-crc, unknown_mode, not-allowed, read}
use Rattle.control_reader.specs.Inner.Bits.{q_of-framed, pack-append}

-- the only fields that some bytes can have
abbrev pub fields_read : List ℕ → Control
fields_read bytes = fields_in (eqb (get_or bytes 0 0 / 128) 1) (pack 10 (q_of bytes))

-- clause 22 allows these fields and gives them these bytes
abbrev pub is_written : Control → List ℕ → Bool
is_written f bytes = allowed f && same (control_bytes f) bytes

unfoldable pub saying : List ℕ → Say
saying bytes =
    demand (eqb (length bytes) 96) 1
    (demand (crc_holds bytes) 16
    (demand (known_mode bytes) 17
    (demand (is_written (fields_read bytes) bytes) 18
    (done (values_of (fields_read bytes))))))

-- ---- bytes of fields

module _ (f : Control) where
  q_is : q_of (control_bytes f) ≡ q_channel f
  unfolding control_bytes
  q_is = q_of-framed (p_bit f.flag) (q_channel f) (sizes.p_lt f.flag) (sizes.binary_q f)

  first_80 : take 80 (q_of (control_bytes f)) ≡ field_bits f
  unfolding q_channel
  first_80 = ap (take 80) q_is ∙ take_at (field_bits f) (crc (field_bits f)) 80 (sizes.length-bits f)

  last_16 : drop 80 (q_of (control_bytes f)) ≡ crc (field_bits f)
  unfolding q_channel
  last_16 = ap (drop 80) q_is ∙ drop_at (field_bits f) (crc (field_bits f)) 80 (sizes.length-bits f)

  pub crc_of : crc_holds (control_bytes f) ≡ true
  unfolding crc_holds
  crc_of = equal_same (drop 80 (q_of (control_bytes f))) (crc (take 80 (q_of (control_bytes f)))) (last_16 ∙ ap crc (sym first_80))

  mode_is : number 0 (take 4 (drop 4 (q_of (control_bytes f)))) ≡ q_mode f.q_data
  unfolding q_channel field_bits
  mode_is =
      let c : List ℕ = bits_of 4 (control_field f.copying) in
      let m : List ℕ = bits_of 4 (q_mode f.q_data) in
      let rest : List ℕ = data_bits f.q_data in
      let tail : List ℕ = crc (field_bits f) in
      ap (λ (t : List ℕ). number 0 (take 4 (drop 4 t))) q_is ∙ number-bits 4 (q_mode f.q_data) 0 ∙ small f.q_data
    where
      small : (d : QData) → 0 * 2 ^ 4 + q_mode d % 2 ^ 4 ≡ q_mode d
      small (UserData n i r a) = refl
      small (LeadOut r a) = refl
      small (LeadIn item r) = refl
      small (CatalogNumber n frac) = refl

  pub mode_of : known_mode (control_bytes f) ≡ true
  unfolding known_mode
  mode_of = ap (λ (n : ℕ). eqb n 1 || eqb n 2) mode_is ∙ known f.q_data
    where
      known : (d : QData) → (eqb (q_mode d) 1 || eqb (q_mode d) 2) ≡ true
      known (UserData n i r a) = refl
      known (LeadOut r a) = refl
      known (LeadIn item r) = refl
      known (CatalogNumber n frac) = refl

  ten : allowed f ≡ true → pack 10 (q_of (control_bytes f)) ≡ field_bytes f
  unfolding q_channel
  ten h =
      ap (pack 10) q_is
      ∙ pack-append 10 (field_bits f) (crc (field_bits f)) (sizes.length-bits f)
      ∙ ap₂ pack (sym (length_fields f)) (field_bits_lem f)
      ∙ pack-unpack (field_bytes f) (bytes_fields f h)

  flag_of : eqb (get_or (control_bytes f) 0 0 / 128) 1 ≡ f.flag
  unfolding control_bytes
  flag_of =
      let q : ℕ = get_or (q_channel f) 0 0 in
      let hq : q < 2 = first-lt (q_channel f) (sizes.binary_q f) in
      let e : (p_bit f.flag * 128 + q * 64) / 128 ≡ p_bit f.flag = omega arith in
      ap (λ (b : ℕ). eqb (b / 128) 1) (sizes.framed_at (p_bit f.flag) (q_channel f) 0 (omega (arith, sizes.length_q f)))
      ∙ ap (λ (n : ℕ). eqb n 1) e
      ∙ again f.flag
    where
      first-lt : (qs : List ℕ) → Binary qs → get_or qs 0 0 < 2
      first-lt [] h = omega arith
      first-lt (q ∷ qs) h = h.0

      again : (b : Bool) → eqb (p_bit b) 1 ≡ b
      again true = refl
      again false = refl

  pub fields_of_lem : allowed f ≡ true → fields_read (control_bytes f) ≡ f
  fields_of_lem h = ap₂ fields_in flag_of (ten h) ∙ fields_found f h

-- ---- all that is allowed is said, and nothing else

written-true : (f : Control) → allowed f ≡ true → is_written f (control_bytes f) ≡ true
written-true f h = simp (h, equal_same (control_bytes f) (control_bytes f) refl)

of_fields : (f : Control) → allowed f ≡ true → done (values_of f) ≡ saying (control_bytes f)
unfolding saying
of_fields f h =
    let w : is_written (fields_read (control_bytes f)) (control_bytes f) ≡ true
    = ap (λ (g : Control). is_written g (control_bytes f)) (fields_of_lem f h) ∙ written-true f h in
    ap (λ (g : Control). done (values_of g)) (sym (fields_of_lem f h))
    ∙ sym (demands (eqb (length (control_bytes f)) 96) (crc_holds (control_bytes f)) (known_mode (control_bytes f)) (is_written (fields_read (control_bytes f)) (control_bytes f))
    (values_of (fields_read (control_bytes f))) (eq-eqb (length (control_bytes f)) 96 (sizes.length_control f)) (crc_of f) (mode_of f) w)
  where
    demands : (a b c d : Bool) (vs : List ℕ) → a ≡ true → b ≡ true → c ≡ true → d ≡ true
        → demand a 1 (demand b 16 (demand c 17 (demand d 18 (done vs)))) ≡ done vs
    demands a b c d vs p q r s = rw (p, q, r, s)

pub reads_said : (bytes : List ℕ) (s : Say) → Reads bytes s → s ≡ saying bytes
unfolding saying
reads_said bytes s (wrong-length n) = simp (ne_eqb (length bytes) 96 n)
reads_said bytes s (wrong-crc l e) = simp (eq-eqb (length bytes) 96 l, e)
reads_said bytes s (unknown_mode l e m) = simp (eq-eqb (length bytes) 96 l, e, m)
reads_said bytes s (not-allowed l e m n) = none (is_written (fields_read bytes) bytes) refl
  where
    none : (t : Bool) → is_written (fields_read bytes) bytes ≡ t → refused 18 [] ≡ saying bytes
    none true w =
        let p = both (allowed (fields_read bytes)) (same (control_bytes (fields_read bytes)) bytes) w in
        absurd (n (fields_read bytes) p.0 (same_equal (control_bytes (fields_read bytes)) bytes p.1))
    none false w = simp (eq-eqb (length bytes) 96 l, e, m, w)
reads_said bytes s (read f h e) = of_fields f h ∙ ap saying e

pub said_reads : (bytes : List ℕ) → Reads bytes (saying bytes)
unfolding saying
said_reads bytes = by_length (eqb (length bytes) 96) refl
  where
    f : Control
    f = fields_read bytes

    by_fields : length bytes ≡ 96 → crc_holds bytes ≡ true → known_mode bytes ≡ true → (t : Bool) → is_written f bytes ≡ t → Reads bytes (demand t 18 (done (values_of f)))
    by_fields l c m true e =
        let p = both (allowed f) (same (control_bytes f) bytes) e in read f p.0 (same_equal (control_bytes f) bytes p.1)
    by_fields l c m false e = not-allowed l c m none
      where
        none : (g : Control) → allowed g ≡ true → control_bytes g ≡ bytes → ⊥
        none g h q =
            let w : is_written f bytes ≡ true
            = subst (λ (b : List ℕ). is_written (fields_read b) b ≡ true) q (ap (λ (k : Control). is_written k (control_bytes g)) (fields_of_lem g h) ∙ written-true g h) in
            let z : ◌≡◌ {A = ℕ} 0 1 = cc in omega arith

    by_mode_lem : length bytes ≡ 96 → crc_holds bytes ≡ true → (t : Bool) → known_mode bytes ≡ t
        → Reads bytes (demand t 17 (demand (is_written f bytes) 18 (done (values_of f))))
    by_mode_lem l c true e = by_fields l c e (is_written f bytes) refl
    by_mode_lem l c false e = unknown_mode l c e

    by_crc : length bytes ≡ 96 → (t : Bool) → crc_holds bytes ≡ t
        → Reads bytes (demand t 16 (demand (known_mode bytes) 17 (demand (is_written f bytes) 18 (done (values_of f)))))
    by_crc l true e = by_mode_lem l e (known_mode bytes) refl
    by_crc l false e = wrong-crc l e

    by_length : (t : Bool) → eqb (length bytes) 96 ≡ t
        → Reads bytes (demand t 1 (demand (crc_holds bytes) 16 (demand (known_mode bytes) 17 (demand (is_written f bytes) 18 (done (values_of f))))))
    by_length true e = by_crc (eqb-true (length bytes) 96 e) (crc_holds bytes) refl
    by_length false e = wrong-length (eqb-false (length bytes) 96 e)
