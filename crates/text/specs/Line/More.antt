-- Writing more at the end of a line.
-- Assumes nothing.
use Rattle.std.specs.Prelude.{◌≡◌, refl, List, [], ◌∷◌, ◌++◌, ℕ, suc, ◌+◌, ◌-◌, ◌<◌, length, take, set, replicate}
use Rattle.std.proofs.Common.{sym, ap, ◌∙◌, subst, append_assoc, append-nil, arith, length-append, take_at}
use Rattle.std.proofs.lemmas.List.{set_at}
use Rattle.text.specs.declared.Text.{Text}
use Rattle.text.specs.Line.{written, Holds, Appended}

-- what a program writes of it is the line
pub holds_written : (line : List ℕ) (t : Text) → Holds line t → written t ≡ line
holds_written line t h = ap (take t.len) h.bytes ∙ take_at line (replicate (96 - length line) 0) t.len (sym h.len)

-- two texts that hold one line are equal
pub holds_one : (line : List ℕ) (t u : Text) → Holds line t → Holds line u → t ≡ u
holds_one line t u h k = λ i. record { bytes = (h.bytes ∙ sym k.bytes) i; len = (h.len ∙ sym k.len) i }

-- ---- writing nothing, a byte, one thing after another

pub none_more : (t : Text) → Appended t [] t
none_more t =
    record {
      len = omega arith;
      holds = λ line h. subst (λ (l : List ℕ). Holds l t) (sym (append-nil line)) h;
    }

pub byte_more : (t : Text) (b : ℕ) → t.len < 96
    → Appended t (b ∷ []) (record { bytes = set t.bytes t.len b; len = t.len + 1 })
byte_more t b l =
    record {
      len = refl;
      holds = λ line h.
          let longer : length (line ++ (b ∷ [])) ≡ length line + 1 = length-append line (b ∷ []) in
          let room : 96 - length line ≡ suc (96 - length (line ++ (b ∷ []))) = omega (arith, h.len) in
          let rest = replicate {A = ℕ} (96 - length (line ++ (b ∷ []))) 0 in
          record {
            fits = omega (arith, h.len);
            len = omega (arith, h.len);
            bytes = ap (λ (w : List ℕ). set w t.len b) (h.bytes ∙ ap (λ (n : ℕ). line ++ replicate n 0) room)
                ∙ set_at line 0 rest b t.len (sym h.len)
                ∙ sym (append_assoc line (b ∷ []) rest);
          };
    }

module _ {t u : Text} where
  pub and_then : {v : Text} {x y : List ℕ} → Appended t x u → Appended u y v → Appended t (x ++ y) v
  and_then {v} {x} {y} p q =
      record {
        len = omega (arith, p.len, q.len, length-append x y);
        holds = λ line h. subst (λ (l : List ℕ). Holds l v) (append_assoc line x y) (q.holds (line ++ x) (p.holds line h));
      }

  pub same_text : {x y : List ℕ} → x ≡ y → Appended t x u → Appended t y u
  same_text e p = subst (λ (l : List ℕ). Appended t l u) e p

  pub same_byte : {b d : ℕ} → b ≡ d → Appended t (b ∷ []) u → Appended t (d ∷ []) u
  same_byte e p = same_text (ap (λ (x : ℕ). x ∷ []) e) p

  -- what is written into an empty text is all that it says
  pub from_empty : {line : List ℕ} → Holds [] t → Appended t line u → Holds line u
  from_empty h p = p.holds [] h
