-- Whether a codeword agrees with a word is decided: each of the 256 bytes is tried at each marked place.
-- Assumes nothing.
use Rattle.std.specs.Prelude.{◌≡◌, refl, ◌⊎◌, Bool, true, false, List, [], ◌∷◌, ℕ, zero, suc, ◌≤◌, ◌<◌, length, get_or, drop}
use Rattle.std.proofs.Common.{sym, ap, ◌∙◌, subst, inl, inr, arith}
use Rattle.std.proofs.Math.Decide.{ℕ_discrete}
use Rattle.outcome.specs.Bytes.{Bytes}
use Rattle.outcome.specs.Bytes.Kept.{bytes_nil, bytes_cons}
use Rattle.outcome.specs.First.Found.{lt-or-le}
use Rattle.codeword.specs.Code.{Codeword}
use Rattle.codeword.specs.Nearest.{is_codeword}
use Rattle.codeword.specs.Code.NearOne.{code_of_test, test_of_code}
use Rattle.erasures.specs.Agrees.{Agrees}

-- ---- of the numbers below n

some_below : (P : ℕ → Type 0) → ((b : ℕ) → Dec (P b)) → (n : ℕ) → Dec ((b : ℕ) × (b < n) × P b)
some_below P d zero = no (λ x. omega (arith, x.1))
some_below P d (suc n) = go (d n) (some_below P d n)
  where
    go : Dec (P n) → Dec ((b : ℕ) × (b < n) × P b) → Dec ((b : ℕ) × (b < suc n) × P b)
    go (yes p) r = yes (n, omega arith, p)
    go (no f) (yes r) = yes (r.0, omega (arith, r.1), r.2)
    go (no f) (no g) = no never
      where
        never : (b : ℕ) × (b < suc n) × P b → ⊥
        never x = by (lt-or-le x.0 n)
          where
            by : (x.0 < n) ⊎ (n ≤ x.0) → ⊥
            by (inl l) = g (x.0, l, x.2)
            by (inr l) = f (subst P (omega (arith, x.1)) x.2)

-- ---- of the words that agree with w on every unmarked byte

record Alike (m w c : List ℕ) : Type 0 where
  long : length c ≡ length w
  bytes : Bytes c
  kept : (i : ℕ) → i < length w → get_or m i 0 ≡ 0 → get_or c i 0 ≡ get_or w i 0

alike_none : (m : List ℕ) → Alike m [] []
alike_none m = record { long = refl; bytes = bytes_nil; kept = λ i l z. refl }

rest_mark : (m : List ℕ) (i : ℕ) → get_or (drop 1 m) i 0 ≡ get_or m (suc i) 0
rest_mark [] i = refl
rest_mark (v ∷ m) i = refl

alike_more : (m w c : List ℕ) (x b : ℕ) → b < 256 → (get_or m 0 0 ≡ 0 → b ≡ x) → Alike (drop 1 m) w c → Alike m (x ∷ w) (b ∷ c)
alike_more m w c x b l e a = record { long = ap suc a.long; bytes = bytes_cons b c l a.bytes; kept = kept }
  where
    kept : (i : ℕ) → i < length (x ∷ w) → get_or m i 0 ≡ 0 → get_or (b ∷ c) i 0 ≡ get_or (x ∷ w) i 0
    kept zero h z = e z
    kept (suc i) h z = a.kept i (omega arith) (rest_mark m i ∙ z)

-- what agrees begins with a byte, and goes on agreeing
record Begins (m w : List ℕ) (x : ℕ) (c : List ℕ) : Type 0 where
  first : ℕ
  rest : List ℕ
  is : c ≡ first ∷ rest
  byte : first < 256
  same : get_or m 0 0 ≡ 0 → first ≡ x
  goes_on : Alike (drop 1 m) w rest

alike_begins : (m w c : List ℕ) (x : ℕ) → Alike m (x ∷ w) c → Begins m w x c
alike_begins m w [] x a = absurd (omega (arith, a.long))
alike_begins m w (b ∷ c) x a =
    record {
      first = b;
      rest = c;
      is = refl;
      byte = a.bytes 0;
      same = λ z. a.kept 0 (omega arith) z;
      goes_on =
          record {
            long = omega (arith, a.long);
            bytes = λ i. a.bytes (suc i);
            kept = λ i l z. a.kept (suc i) (omega arith) (sym (rest_mark m i) ∙ z);
          };
    }

-- b may begin a word that agrees and has P
abbrev Beginning : (m w : List ℕ) → ℕ → (List ℕ → Type 0) → ℕ → Type 0
Beginning m w x P b = (get_or m 0 0 ≡ 0 → b ≡ x) × ((c : List ℕ) × Alike (drop 1 m) w c × P (b ∷ c))

step_tried : (m w : List ℕ) (x : ℕ) (P : List ℕ → Type 0) → ((b : ℕ) → Dec ((c : List ℕ) × Alike (drop 1 m) w c × P (b ∷ c)))
    → Dec ((c : List ℕ) × Alike m (x ∷ w) c × P c)
step_tried m w x P d =
    go (some_below (Beginning m w x P) (λ b. both b (fits b (ℕ_discrete (get_or m 0 0) 0) (ℕ_discrete b x)) (d b)) 256)
  where
    fits : (b : ℕ) → Dec (get_or m 0 0 ≡ 0) → Dec (b ≡ x) → Dec (get_or m 0 0 ≡ 0 → b ≡ x)
    fits b (yes z) (yes e) = yes (λ _. e)
    fits b (yes z) (no n) = no (λ f. n (f z))
    fits b (no n) e = yes (λ z. absurd (n z))

    both : (b : ℕ) → Dec (get_or m 0 0 ≡ 0 → b ≡ x) → Dec ((c : List ℕ) × Alike (drop 1 m) w c × P (b ∷ c)) → Dec (Beginning m w x P b)
    both b (yes e) (yes r) = yes (e, r)
    both b (yes e) (no n) = no (λ y. n y.1)
    both b (no n) r = no (λ y. n y.0)

    go : Dec ((b : ℕ) × (b < 256) × Beginning m w x P b) → Dec ((c : List ℕ) × Alike m (x ∷ w) c × P c)
    go (yes y) = yes (y.0 ∷ y.2.1.0, alike_more m w y.2.1.0 x y.0 y.1 y.2.0 y.2.1.1, y.2.1.2)
    go (no f) = no (λ y. never y.0 (alike_begins m w y.0 x y.1) y.2)
      where
        never : (c : List ℕ) → Begins m w x c → P c → ⊥
        never c b p = f (b.first, b.byte, (b.same, (b.rest, b.goes_on, subst P b.is p)))

tried : (m w : List ℕ) (P : List ℕ → Type 0) → ((c : List ℕ) → Dec (P c)) → Dec ((c : List ℕ) × Alike m w c × P c)
tried m [] P d = go (d [])
  where
    only : (c : List ℕ) → length c ≡ 0 → c ≡ []
    only [] e = refl
    only (b ∷ c) e = absurd (omega arith)

    go : Dec (P []) → Dec ((c : List ℕ) × Alike m [] c × P c)
    go (yes p) = yes ([], alike_none m, p)
    go (no f) = no (λ x. f (subst P (only x.0 x.1.long) x.2))
tried m (x ∷ w) P d = step_tried m w x P (λ b. tried (drop 1 m) w (λ c. P (b ∷ c)) (λ c. d (b ∷ c)))

-- ---- of codewords

codeword_decided : (J : ℕ) (c : List ℕ) → Dec (Codeword J c)
codeword_decided J c = go (is_codeword J c) refl
  where
    go : (b : Bool) → is_codeword J c ≡ b → Dec (Codeword J c)
    go true e = yes (code_of_test J c e)
    go false e = no (λ k. let t : is_codeword J c ≡ true = test_of_code J c k in let z : ◌≡◌ {A = ℕ} 0 1 = cc in omega arith)

pub agrees_decided : (J : ℕ) (m w : List ℕ) → Dec ((c : List ℕ) × Agrees J m w c)
agrees_decided J m w = go (tried m w (Codeword J) (codeword_decided J))
  where
    go : Dec ((c : List ℕ) × Alike m w c × Codeword J c) → Dec ((c : List ℕ) × Agrees J m w c)
    go (yes x) = yes (x.0, record { long = x.1.long; bytes = x.1.bytes; kept = x.1.kept; code = x.2 })
    go (no f) = no (λ x. f (x.0, record { long = x.1.long; bytes = x.1.bytes; kept = x.1.kept }, x.1.code))
