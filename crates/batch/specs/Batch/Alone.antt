-- Each Sector of a batch by itself: its fate and its bytes are those of a single call, whatever else is in the batch.
-- Assumes nothing.
use Rattle.std.specs.Prelude.{◌≡◌, refl, ◌⊎◌, List, [], ◌∷◌, ℕ, ◌<◌, length, replicate}
use Rattle.std.proofs.Common.{◌∙◌, subst, inl, inr}
use Rattle.outcome.specs.Say.{Say, done, refused}
use Rattle.outcome.specs.Say.Refusals.{cleared-right}
use Rattle.codeword.specs.Code.{changes}
use Rattle.repair.specs.Repair as single
use Rattle.repair.specs.Repair.{Repairs, wrong_incoming, wrong-outgoing, none-near, handed_out}
use Rattle.repair.specs.Repair.Blind.{blind}
use Rattle.repair.specs.Repair.Told.{says-one}
use Rattle.batch.specs.Sectors.{sector_at}
use Rattle.batch.specs.Sectors.Apart.{length_sector}
use Rattle.batch.specs.Batch.{SectorFate, fate_at, say_at, Taken, RepairsMany, taken}

-- what is known of a batch that is done
pub when_done : {r old : List ℕ} {f : List SectorFate} {s : List ℕ} {n : ℕ} → RepairsMany r old (done (n ∷ [])) f s → Taken n r old f s
when_done (taken p) = p

module _ {n : ℕ} {r old : List ℕ} {f : List SectorFate} {s : List ℕ} (p : RepairsMany r old (done (n ∷ [])) f s) where
  room : (i : ℕ) → i < n → length (sector_at i old) ≡ 2352
  room i h = let d = when_done p in length_sector n i old (d.room ∙ d.some.long) h

  -- a single call on Sector i, into any buffer of the right length, has the same fate and leaves the same bytes
  pub as_single_call : (i : ℕ) → i < n → (b : List ℕ) → length b ≡ 2352 → (a : SectorFate) (x : List ℕ) → Repairs (sector_at i r) b (single.say_of a) x
      → (a ≡ (fate_at i f)) × (x ≡ sector_at i s)
  as_single_call i h b l a x q =
      let e = blind (sector_at i r) b (sector_at i old) l (room i h) q ((when_done p).each i h) in
      (says-one a (fate_at i f) e.0, e.1)

  -- a Sector of a batch is handed out with the count of its changed bytes, or refused with 5, which leaves zeros in its own 2,352 bytes
  pub handed_out_or_cleared : (i : ℕ) → i < n
      → ((changed : ℕ) × (say_at i f ≡ done (changed ∷ []))) ⊎ ((say_at i f ≡ refused 5 []) × (sector_at i s ≡ replicate 2352 0))
  handed_out_or_cleared i h =
      let d = when_done p in by (length_sector n i r d.some.long h) (room i h) (d.each i h)
    where
      by : {q b x : List ℕ} {a : Say} → length q ≡ 2352 → length b ≡ 2352 → Repairs q b a x
          → ((changed : ℕ) × (a ≡ done (changed ∷ []))) ⊎ ((a ≡ refused 5 []) × (x ≡ replicate 2352 0))
      by l k (wrong_incoming m) = absurd (m l)
      by l k (wrong-outgoing m o) = absurd (o k)
      by {b = b} l k (none-near m o u) = inr (refl, cleared-right 2352 b k)
      by {q} l k (handed_out {s = x} m o u) = inl (changes q x, refl)

-- Sector i of one batch and Sector j of another that came in alike have the same fate and leave the same bytes: no other Sector matters, nor
-- the place, nor what the buffers held
pub alone : {n m : ℕ} {r old q older : List ℕ} {f g : List SectorFate} {s t : List ℕ} → RepairsMany r old (done (n ∷ [])) f s
    → RepairsMany q older (done (m ∷ [])) g t → (i j : ℕ) → i < n → j < m → sector_at i r ≡ sector_at j q
    → (fate_at i f ≡ fate_at j g) × (sector_at i s ≡ sector_at j t)
alone {r = r} {old = old} {f = f} {s = s} p q i j h k e =
    let this = subst (λ (x : List ℕ). Repairs x (sector_at i old) (say_at i f) (sector_at i s)) e ((when_done p).each i h) in
    let same = as_single_call q j k (sector_at i old) (room p i h) (fate_at i f) (sector_at i s) this in
    same
