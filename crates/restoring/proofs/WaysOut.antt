-- The ways out of restoring a capture: the buffer is wiped first, and its length stays.
-- Assumes nothing.
use Rattle.std.proofs.Common.{◌≡◌, ℕ, ◌<◌, ◌≤◌, List, [], ◌∷◌, length, replicate, sym, ap, ◌∙◌, subst}
use Rattle.outcome.specs.Say.{done, refused, cleared}
use Rattle.outcome.specs.Say.Refusals.{cleared-right}
use Rattle.captures.specs.Kept.{capture_of, Restores, too_long, wrong-outgoing, no_list, is_list}
use Rattle.captures.specs.Kept.Filled.{wiped_length}
use Rattle.std.specs.Prelude.{Option, Some, None}
use Rattle.restoring.specs.Inner.Read.{Ready, Reads}

module _ (l old capture : List ℕ) (wiped : capture ≡ cleared 65536 old) where
  same : length capture ≡ length old
  same = ap length wiped ∙ wiped_length 65536 old

  pub on_long : 98304 < length l → Restores l old (refused 1 []) capture
  on_long h = subst (Restores l old (refused 1 [])) (sym wiped) (too_long h)

  pub on_room : length l ≤ 98304 → (length capture ≡ 65536 → ⊥) → Restores l old (refused 2 []) capture
  on_room h n = subst (Restores l old (refused 2 [])) (sym wiped) (wrong-outgoing h (λ e. n (same ∙ e)))

  pub is_ready : length l ≤ 98304 → length capture ≡ 65536 → Ready l capture
  is_ready h n = record { short = h; zeros = wiped ∙ cleared-right 65536 old (sym same ∙ n) }

  pub on_none : length l ≤ 98304 → length capture ≡ 65536 → (found : Option ℕ) (new out : List ℕ) → Reads l found new → found ≡ None → out ≡ replicate (length new) 0
      → Restores l old (refused 19 []) out
  on_none h n found new out r f e =
      let p = subst (λ (x : Option ℕ). Reads l x new) f r in
      subst (Restores l old (refused 19 [])) (sym (e ∙ ap (λ (k : ℕ). replicate k 0) p.long ∙ sym (cleared-right 65536 old (sym same ∙ n))))
      (no_list h (sym same ∙ n) p.none)

  pub on_done : length l ≤ 98304 → length capture ≡ 65536 → (found : Option ℕ) (used : ℕ) (new : List ℕ) → Reads l found new → found ≡ Some used
      → Restores l old (done (used ∷ [])) new
  on_done h n found used new r f =
      let p = subst (λ (x : Option ℕ). Reads l x new) f r in
      subst (λ (k : ℕ). Restores l old (done (k ∷ [])) new) (sym p.length_is)
      (subst (Restores l old (done (length (capture_of p.numbers) ∷ []))) (sym p.is) (is_list h (sym same ∙ n) p.list))
