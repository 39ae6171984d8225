-- Reading accepts exactly what writing makes (document 02, §3).
-- Assumes nothing.
use Rattle.std.specs.Prelude.{◌≡◌, refl, Bool, true, false, List, [], ℕ, eqb, length}
use Rattle.std.proofs.Common.{sym, ap, subst, ◌∙◌}
use Rattle.outcome.specs.Say.{Say, done, refused, demand, Outcome, outcome, answered}
use Rattle.outcome.specs.Say.Refusals.{never}
use Rattle.control.specs.declared.Control.{Control}
use Rattle.control.specs.Fields.{allowed}
use Rattle.control.specs.Channels.{control_bytes}
use Rattle.control.specs.Values.{values_of}
use Rattle.control_writer.specs.Writing.{writing}
use Rattle.control_reader.specs.Reading.{crc_holds, Reads, wrong-length, wrong-crc, unknown_mode, not-allowed, read}
use Rattle.control_reader.specs.Inner.Saying.{reads_said}

-- some fields that clause 22 allows have these bytes and these numbers
pub record Made (bytes vs : List ℕ) : Type 0 where
  pub fields : Control
  pub may : allowed fields ≡ true
  pub have : control_bytes fields ≡ bytes
  pub are : vs ≡ values_of fields

-- what reading accepts is what writing makes of some fields
pub reads_only_what_is_allowed : (bytes vs : List ℕ) → Reads bytes (done vs) → Made bytes vs
reads_only_what_is_allowed bytes vs r = from (done vs) r refl
  where
    from : (s : Say) → Reads bytes s → s ≡ done vs → Made bytes vs
    from s (wrong-length n) e = never e
    from s (wrong-crc l c) e = never e
    from s (unknown_mode l c m) e = never e
    from s (not-allowed l c m n) e = never e
    from s (read f h b) e = record { fields = f; may = h; have = b; are = cc }

-- and all that it makes: the same fields come back
pub allowed-reads : (f : Control) (s : Say) → allowed f ≡ true → Reads (control_bytes f) s → s ≡ done (values_of f)
allowed-reads f s h r = reads_said (control_bytes f) s r ∙ sym (reads_said (control_bytes f) (done (values_of f)) (read f h refl))

-- what writing leaves where it is done reads back as the same fields
pub written-reads-back : (f : Control) (old out : List ℕ) (s : Say) → outcome (done []) out ≡ writing f old → Reads out s → s ≡ done (values_of f)
unfolding writing
written-reads-back f old out s e r = by_length (eqb (length old) 96) refl
  where
    by_fields : (t : Bool) → allowed f ≡ t → outcome (done []) out ≡ answered (demand t 18 (done [])) 96 (control_bytes f) old → s ≡ done (values_of f)
    by_fields true a w =
        let b : out ≡ control_bytes f = ap (λ (o : Outcome). o.out) w in
        allowed-reads f s a (subst (λ (l : List ℕ). Reads l s) b r)
    by_fields false a w = never (sym (ap (λ (o : Outcome). o.say) w))

    by_length : (t : Bool) → eqb (length old) 96 ≡ t → s ≡ done (values_of f)
    by_length true l = by_fields (allowed f) refl (e ∙ ap (λ (t : Bool). answered (demand t 2 (demand (allowed f) 18 (done []))) 96 (control_bytes f) old) l)
    by_length false l =
        never (sym (ap (λ (o : Outcome). o.say) (e ∙ ap (λ (t : Bool). answered (demand t 2 (demand (allowed f) 18 (done []))) 96 (control_bytes f) old) l)))

-- a Section whose CRC fails is refused with 16, whatever its fields say
pub crc-first : (bytes : List ℕ) (s : Say) → length bytes ≡ 96 → crc_holds bytes ≡ false → Reads bytes s → s ≡ refused 16 []
crc-first bytes s l e r = reads_said bytes s r ∙ sym (reads_said bytes (refused 16 []) (wrong-crc l e))
