-- The lines of the Sectors of a batch, one after the other.
-- Assumes nothing.
use Rattle.std.proofs.Common.{◌≡◌, refl, sym, ap, ◌∙◌, subst, Bool, true, false, List, [], ◌∷◌, ◌⊎◌, inl, inr, ℕ, zero, suc, ◌+◌, ◌-◌, ◌*◌, ◌≤◌, ◌<◌, add-one, arith, length, take, drop, get_or}
use Rattle.std.specs.Prelude.{Result, Ok, Err}
use Rattle.outcome.specs.First.Found.{lt-or-le}
use Rattle.outcome.specs.Say.{done}
use Rattle.batch.specs.declared.BatchError.{BatchError}
use Rattle.batch.specs.declared.BatchError.TheVariants as refusals
use Rattle.batch.specs.Sectors.{sector_at}
use Rattle.batch.specs.Sectors.Apart.{length_sector}
use Rattle.batch.specs.Batch.{SectorFate, no_sector, fate_at, say_at, RepairsMany, wrong_incoming, wrong-outgoing, say_of}
use Rattle.batch.specs.Batch.Alone.{when_done}
use Rattle.repair.specs.Repair as single
use Rattle.fate_counts.specs.declared.Counts.{Counts}
use Rattle.fate_counts.specs.declared.Fate.{Fate}
use Rattle.fate.specs.Fated.{fate_from, Fated}
use Rattle.fate.specs.Fated.InBatch.{fated_in_batch}
use Rattle.report_stand.specs.declared.Progress.{Progress}
use Rattle.report_stand.specs.declared.Stand.TheVariants.{Going, WriteFailed}
use Rattle.report_stand.specs.Standing.{after_line, ahead}
use Rattle.report_lines.specs.Inner.Says.{Says, counted, Due}
use Rattle.report_lines.specs.Told.{Lines, none, next, Told, all_told, unwritten, sectors_in, Some, Tells}
use Rattle.report_lines.specs.Told.Counted.{lines_counted}

-- no batch was taken: no Sector came
pub nothing : (c : Counts) (r out : List ℕ) (a : Result ℕ BatchError) {f : List SectorFate} {new : List ℕ} → ((n : ℕ) → a ≡ Ok n → ⊥)
    → Some c r out → RepairsMany r out (say_of a) f new → sectors_in r ≡ 0
nothing c r out (Ok n) k s p = absurd (k n refl)
nothing c r out (Err refusals.WrongIncoming) k s (wrong_incoming h) = by (lt-or-le 0 (sectors_in r))
  where
    by : (0 < sectors_in r) ⊎ (sectors_in r ≤ 0) → sectors_in r ≡ 0
    by (inl l) = absurd (h (sectors_in r) (record { some = l; sixteen = s.few; long = s.whole }))
    by (inr l) = omega arith
nothing c r out (Err refusals.WrongOutgoing) k s (wrong-outgoing q h) = absurd (h s.room)

pub none_told : (c : Counts) (r : List ℕ) → sectors_in r ≡ 0 → Told (sectors_in r) r c Going (record { counts = c; stand = Going })
none_told c r e =
    subst (λ (n : ℕ). Told n r c Going (record { counts = c; stand = Going })) (sym e) (all_told none refl)

-- the lines of i Sectors went out
pub record Telling (n : ℕ) (r : List ℕ) (c : Counts) (i : ℕ) (p : Progress) : Type 0 where
  pub upto : i ≤ n
  pub lines : Lines r c i p.counts
  pub on : p.stand ≡ Going

pub telling_none : (n : ℕ) (r : List ℕ) (c : Counts) → Telling n r c 0 (record { counts = c; stand = Going })
telling_none n r c = record { upto = omega arith; lines = none; on = refl }

-- what is taken for an element behind the end does not matter before it
either : (f : List SectorFate) (i : ℕ) (a b : SectorFate) → i < length f → get_or f i a ≡ get_or f i b
either [] i a b h = absurd (omega arith)
either (x ∷ f) zero a b h = refl
either (x ∷ f) (suc i) a b h = either f i a b (omega arith)

-- the part of Sector i as it is lent
abbrev lent : ℕ → List ℕ → List ℕ
lent i w = take (2352 * i + 2352 - 2352 * i) (drop (2352 * i) w)

-- whether so many can be counted
pub record Countable (c : Counts) (n : ℕ) : Type 0 where
  pub can : n ≤ ahead c

pub record TooMany (c : Counts) (n : ℕ) : Type 0 where
  pub cannot : ahead c < n

pub room_for : {c : Counts} {k n : ℕ} → k ≡ ahead c → n ≤ k → Countable c n
room_for e h = record { can = omega arith }

pub no_room : {c : Counts} {k n : ℕ} → k ≡ ahead c → k < n → TooMany c n
no_room e h = record { cannot = omega arith }

-- no batch was taken, and nothing is told
pub untaken : (c : Counts) (r out : List ℕ) (a : Result ℕ BatchError) {f : List SectorFate} {new : List ℕ} → ((n : ℕ) → a ≡ Ok n → ⊥)
    → RepairsMany r out (say_of a) f new → Tells c r out new (record { counts = c; stand = Going })
untaken c r out a {f} k b =
    record {
      says = say_of a;
      fates = f;
      repaired = b;
      some = λ s. none_told c r (nothing c r out a k s b);
      other = λ _. refl;
    }

module _ {r out new : List ℕ} {f : List SectorFate} {a : Result ℕ BatchError} {n : ℕ} (b : RepairsMany r out (say_of a) f new) (e : a ≡ Ok n) where
  taken : RepairsMany r out (done (n ∷ [])) f new
  taken = subst (λ (x : Result ℕ BatchError). RepairsMany r out (say_of x) f new) e b

  many : n ≡ sectors_in r
  many = let d = when_done taken in omega (arith, d.some.long)

  -- more Sectors than can be counted
  pub too_many : {c : Counts} → TooMany c n → Tells c r out new (record { counts = c; stand = Going })
  too_many h =
      record {
        says = say_of a;
        fates = f;
        repaired = b;
        some = λ s. absurd (omega (arith, h.cannot, many, s.few, s.counts));
        other = λ _. refl;
      }

  few_enough : {c : Counts} → Countable c n → Some c r out
  few_enough h =
      let d = when_done taken in
      record {
        whole = omega (arith, d.some.long);
        few = omega (arith, many, d.some.sixteen);
        counts = omega (arith, h.can, many);
        room = d.room;
      }

  -- all that is told of them
  pub tells_all : {c : Counts} → Countable c n → {p : Progress} → Told (sectors_in r) r c Going p → Tells c r out new p
  tells_all h t = record { says = say_of a; fates = f; repaired = b; some = λ _. t; other = λ n. absurd (n (few_enough h)) }

module _ {c : Counts} {r out new : List ℕ} {f : List SectorFate} {a : Result ℕ BatchError} {n : ℕ} (can : Countable c n) (b : RepairsMany r out (say_of a) f new)
    (e : a ≡ Ok n) where
  s : Some c r out
  s = few_enough b e can

  batch : RepairsMany r out (done (n ∷ [])) f new
  batch = taken b e

  pub as_many : n ≡ sectors_in r
  as_many = many b e

  module _ {i : ℕ} {p : Progress} (g : Telling n r c i p) where
    pub telling_all : n ≤ i → Told (sectors_in r) r c Going p
    telling_all h =
        let k : i ≡ sectors_in r = omega (arith, as_many, g.upto) in
        all_told (subst (λ (m : ℕ). Lines r c m p.counts) k g.lines) g.on

    module _ (h : i < n) (behind : SectorFate) (fate : Fate) (q : fate ≡ fate_from (single.say_of (get_or f i behind)) (lent i new)) where
      fated : Fated (sector_at i r) fate
      fated =
          let k : 2352 * i + 2352 - 2352 * i ≡ 2352 = omega arith in
          let e : get_or f i behind ≡ fate_at i f = either f i behind no_sector (omega (arith, (when_done batch).sixteen, (when_done batch).some.sixteen)) in
          subst (Fated (sector_at i r))
          (sym
          (q
          ∙ ap (λ (x : SectorFate). fate_from (single.say_of x) (lent i new)) e
          ∙ ap (λ (m : ℕ). fate_from (say_at i f) (take m (drop (2352 * i) new))) k))
          (fated_in_batch batch i h)

      pub due : Due p.counts fate
      due =
          record {
            sector = sector_at i r;
            long = length_sector n i r (when_done batch).some.long h;
            fated = fated;
            room = omega (arith, lines_counted g.lines (omega (arith, s.counts, as_many)), s.counts, as_many);
          }

      module _ (x : Progress) (y : Says Going p.counts (counted p.counts fate) x) where
        -- it went out
        pub telling_more : x.stand ≡ Going → Telling n r c (i + 1) x
        telling_more t = by y.went y.is
          where
            by : (w : Bool) → x ≡ after_line w p.counts (counted p.counts fate) → Telling n r c (i + 1) x
            by true u =
                record {
                  upto = omega arith;
                  lines = rw (add-one, u) (next g.lines fated);
                  on = t;
                }
            by false u = let v : WriteFailed ≡ Going = sym (ap (λ (z : Progress). z.stand) u) ∙ t in let z : ◌≡◌ {A = ℕ} 0 1 = cc in absurd (omega arith)

        -- it could not be written
        pub telling_ends : (x.stand ≡ Going → ⊥) → Told (sectors_in r) r c Going x
        telling_ends t = by y.went y.is
          where
            by : (w : Bool) → x ≡ after_line w p.counts (counted p.counts fate) → Told (sectors_in r) r c Going x
            by true u =
                absurd (t (ap (λ (z : Progress). z.stand) u))
            by false u =
                unwritten {k = i} (omega (arith, as_many)) (subst (λ (z : Progress). Lines r c i z.counts) (sym u) g.lines) fated (ap (λ (z : Progress). z.stand) u)
