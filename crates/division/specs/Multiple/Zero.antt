-- Nothing is left exactly of the multiples of a divisor whose highest coefficient is 1.
-- Assumes nothing.
use Rattle.std.specs.Prelude.{◌≡◌, drop}
use Rattle.std.proofs.Math.Path.{refl, sym, ap, ap₂}
use Rattle.std.proofs.Common.{◌∙◌, take-append-drop, take-suc}
use mathlib.Core.List.{List, [], ◌∷◌, ◌++◌, append_assoc, append-nil}
use Prim.Native.Nat.{ℕ, zero, suc, ◌+◌, ◌-◌, ◌*◌, ◌%◌, ◌<◌, ◌≤◌}
use native.Mathlib.Omega.{arith}
use Rattle.std.proofs.Math.ListN.{length, take, get_or, replicate, length-append, length-replicate, replicate-append-replicate}
use Rattle.std.proofs.Math.Seq.{length-take-le, take_all, get_or-take}
use Rattle.bits.specs.Binary.Parts.{binary_append, binary_take, binary_drop}
use Rattle.division.specs.Polynomial.{Coefficients, plus, scaled, product}
use Rattle.division.specs.Polynomial.Lengths.{coefs_zeros, coefs_scaled, coefs_product, length-plus, length-scaled}
use Rattle.division.specs.Polynomial.Sums.{plus-append, plus_assoc, plus_comm, plus_self, plus-zeros, zeros-plus}
use Rattle.division.specs.Division.{brought, divided, remainder}
use Rattle.division.specs.Division.Lengths.{coefs_brought, length-brought, remainder-append}
use Rattle.division.specs.Division.Linear.{divided-plus, come_down}
use Rattle.division.specs.Division.Check.{remainder_self}
use Rattle.division.specs.Multiple.{Multiple}

-- a number times a polynomial whose highest coefficient is 1
scaled-first : (q : ℕ) (d : List ℕ) → get_or d 0 0 ≡ 1 → scaled q d ≡ q ∷ scaled q (drop 1 d)
scaled-first q [] e = absurd (omega arith)
scaled-first q (c ∷ low) e = let p : q * c ≡ q = ap (λ (x : ℕ). q * x) e ∙ omega arith in λ i. p i ∷ scaled q low

-- d is 1 and then w coefficients, at least one
module _ (w : ℕ) (d : List ℕ) (some : 1 ≤ w) (long : length d ≡ suc w) (coefs : Coefficients d) (one : get_or d 0 0 ≡ 1) where
  few : length d - 1 ≡ w
  few = omega (arith, long)

  -- ---- the divisor taken away and added again

  -- the highest coefficient goes
  whole : (r : List ℕ) (c : ℕ) → Coefficients r → length r ≡ w → plus (r ++ (c ∷ [])) (scaled (get_or r 0 0) d) ≡ 0 ∷ brought d r c
  unfolding brought
  whole [] c h l = absurd (omega arith)
  whole (q ∷ r) c h l =
      let t : List ℕ = r ++ (c ∷ []) in
      let e : (q + q) % 2 ≡ 0 = omega arith in
      let p : plus (q ∷ t) (scaled q d) ≡ (q + q) % 2 ∷ plus t (scaled q (drop 1 d)) = ap (plus (q ∷ t)) (scaled-first q d one) in
      let f : brought d (q ∷ r) c ≡ plus t (scaled q (drop 1 d)) = ap (drop 1) p in
      p ∙ λ i. e i ∷ sym f i

  first-lt : (r : List ℕ) → Coefficients r → get_or r 0 0 < 2
  first-lt [] h = omega arith
  first-lt (c ∷ r) h = h.0

  back : (r : List ℕ) (c : ℕ) → Coefficients r → c < 2 → length r ≡ w → plus (scaled (get_or r 0 0) d) (0 ∷ brought d r c) ≡ r ++ (c ∷ [])
  back r c h k l =
      let q : List ℕ = scaled (get_or r 0 0) d in
      let rc : List ℕ = r ++ (c ∷ []) in
      let lq : length q ≡ suc w = length-scaled (get_or r 0 0) d ∙ long in
      let lr : length rc ≡ suc w = omega (arith, length-append r (c ∷ [])) in
      ap (plus q) (sym (whole r c h l) ∙ plus_comm rc q)
      ∙ sym (plus_assoc q q rc)
      ∙ ap (λ (t : List ℕ). plus t rc) (plus_self q ∙ ap (λ (n : ℕ). replicate n 0) (lq ∙ sym lr))
      ∙ zeros-plus (length rc) rc refl (binary_append r (c ∷ []) h (k, tt))

  -- ---- what is divided is the divisor times the quotient, plus what is left

  quotient_of : List ℕ → List ℕ → List ℕ
  quotient_of r [] = []
  quotient_of r (c ∷ cs) = get_or r 0 0 ∷ quotient_of (brought d r c) cs

  length_quotient : (r cs : List ℕ) → length (quotient_of r cs) ≡ length cs
  unfolding quotient_of
  length_quotient r [] = refl
  length_quotient r (c ∷ cs) = ap suc (length_quotient (brought d r c) cs)

  coefs_quotient : (r cs : List ℕ) → Coefficients r → Coefficients (quotient_of r cs)
  unfolding quotient_of
  coefs_quotient r [] h = tt
  coefs_quotient r (c ∷ cs) h = (first-lt r h, coefs_quotient (brought d r c) cs (coefs_brought d r c))

  divided-whole : (r cs : List ℕ) → Coefficients r → Coefficients cs → length r ≡ w
      → plus (product d (quotient_of r cs)) (replicate (length cs) 0 ++ divided d r cs) ≡ r ++ cs
  unfolding quotient_of divided
  divided-whole r [] h k l = zeros-plus (length d - 1) r (l ∙ sym few) h ∙ sym (append-nil r)
  divided-whole r (c ∷ cs) h k l =
      let b : List ℕ = brought d r c in
      let q : List ℕ = scaled (get_or r 0 0) d in
      let qs : List ℕ = quotient_of b cs in
      let n : length qs ≡ length cs = length_quotient b cs in
      let zs : List ℕ = replicate (length qs) 0 in
      let lb : length b ≡ w = length-brought d w long r c l in
      plus_assoc (q ++ zs) (0 ∷ product d qs) (0 ∷ (replicate (length cs) 0 ++ divided d b cs))
      ∙ ap (λ (t : List ℕ). plus (q ++ zs) (0 ∷ t)) (divided-whole b cs (coefs_brought d r c) k.1 lb)
      ∙ plus-append q (0 ∷ b) zs cs (omega (arith, length-scaled (get_or r 0 0) d, long))
      ∙ ap₂ (λ (x y : List ℕ). x ++ y) (back r c h k.0 l) (zeros-plus (length qs) cs (sym n) k.1)
      ∙ append_assoc r (c ∷ []) cs

  -- ---- how long a product is

  part : ℕ → ℕ → List ℕ
  part q n = scaled q d ++ replicate n 0

  length_part : (q n : ℕ) → length (part q n) ≡ suc w + n
  unfolding part
  length_part q n =
      length-append (scaled q d) (replicate n 0) ∙ ap₂ (λ (x y : ℕ). x + y) (length-scaled q d ∙ long) (length-replicate {A = ℕ} n 0)

  pub length-product : (qs : List ℕ) → length (product d qs) ≡ w + length qs
  unfolding part
  length-product [] = length-replicate {A = ℕ} (length d - 1) 0 ∙ omega (arith, few)
  length-product (q ∷ qs) =
      length-plus (part q (length qs)) (0 ∷ product d qs) (omega (arith, length_part q (length qs), length-product qs))
      ∙ length_part q (length qs)
      ∙ omega arith

  -- ---- where nothing is left there is a multiple

  pub zero-product : (cs : List ℕ) → Coefficients cs → w ≤ length cs → remainder d cs ≡ replicate w 0 → Multiple d cs
  zero-product cs h m z =
      let r : List ℕ = take w cs in
      let es : List ℕ = drop w cs in
      let n : ℕ = length es in
      let lr : length r ≡ w = length-take-le w cs m in
      let hr : Coefficients r = binary_take w cs h in
      let joined : r ++ es ≡ cs = take-append-drop w cs in
      let p : List ℕ = product d (quotient_of r es) in
      let left : divided d r es ≡ replicate w 0
      = ap (λ (t : List ℕ). divided d t es) (sym (remainder_self w d long coefs r hr lr))
      ∙ sym (remainder-append d r es) ∙ ap (remainder d) joined ∙ z in
      let e : n + w ≡ length p = omega (arith, length-product (quotient_of r es), length_quotient r es) in
      let zs : replicate n 0 ++ divided d r es ≡ replicate (length p) 0
      = ap (λ (t : List ℕ). replicate n 0 ++ t) left ∙ replicate-append-replicate n w 0
      ∙ ap (λ (k : ℕ). replicate k 0) e in
      record {
        quotient = quotient_of r es;
        coefs = coefs_quotient r es hr;
        is =
            sym joined ∙ sym (divided-whole r es hr (binary_drop w cs h) lr) ∙ ap (plus p) zs ∙ plus-zeros p (coefs_product d (quotient_of r es));
      }

  -- ---- nothing is left of a multiple

  zeros-down : brought d (replicate w 0) 0 ≡ replicate w 0
  unfolding divided
  zeros-down =
      let v : ℕ = w - 1 in
      let e : w ≡ 1 + v = omega arith in
      let f : v + 1 ≡ w = omega arith in
      let z : replicate {A = ℕ} w 0 ≡ replicate 1 0 ++ replicate v 0 = ap (λ (n : ℕ). replicate n 0) e ∙ sym (replicate-append-replicate 1 v 0) in
      let y : replicate {A = ℕ} v 0 ++ (0 ∷ []) ≡ replicate w 0 = replicate-append-replicate v 1 0 ∙ ap (λ (n : ℕ). replicate n 0) f in
      ap (λ (t : List ℕ). brought d t 0) z
      ∙ come_down d coefs (replicate v 0) (0 ∷ []) (coefs_zeros v) (omega arith, tt) (omega (arith, long, length-replicate {A = ℕ} v 0))
      ∙ y

  zeros_stay : (n : ℕ) → divided d (replicate w 0) (replicate n 0) ≡ replicate w 0
  unfolding divided
  zeros_stay zero = refl
  zeros_stay (suc n) = ap (λ (t : List ℕ). divided d t (replicate n 0)) zeros-down ∙ zeros_stay n

  from-zeros : (cs : List ℕ) → remainder d cs ≡ divided d (replicate w 0) cs
  unfolding remainder
  from-zeros cs = ap (λ (n : ℕ). divided d (replicate n 0) cs) few

  remainder-plus : (a b : List ℕ) → length a ≡ length b → remainder d (plus a b) ≡ plus (remainder d a) (remainder d b)
  remainder-plus a b e =
      let z : List ℕ = replicate w 0 in
      let l : length z ≡ w = length-replicate {A = ℕ} w 0 in
      from-zeros (plus a b)
      ∙ ap (λ (t : List ℕ). divided d t (plus a b)) (sym (zeros-plus w z l (coefs_zeros w)))
      ∙ divided-plus d coefs w long z z a b (coefs_zeros w) (coefs_zeros w) l l e
      ∙ ap₂ plus (sym (from-zeros a)) (sym (from-zeros b))

  remainder-divisor : (q : ℕ) → q < 2 → remainder d (scaled q d) ≡ replicate w 0
  unfolding divided
  remainder-divisor q h =
      let l : List ℕ = scaled q d in
      let r : List ℕ = take w l in
      let c : ℕ = get_or l w 0 in
      let ll : length l ≡ suc w = length-scaled q d ∙ long in
      let hl : Coefficients l = coefs_scaled q d h coefs in
      let lr : length r ≡ w = length-take-le w l (omega arith) in
      let joined : r ++ (c ∷ []) ≡ l = sym (take-suc l w 0 (omega arith)) ∙ take_all (suc w) l (omega arith) in
      let first : get_or r 0 0 ≡ q = get_or-take w l 0 0 (omega arith) ∙ ap (λ (t : List ℕ). get_or t 0 0) (scaled-first q d one) in
      let gone : 0 ∷ brought d r c ≡ 0 ∷ replicate w 0
      = sym (whole r c (binary_take w l hl) lr) ∙ ap₂ (λ (x : List ℕ) (y : ℕ). plus x (scaled y d)) joined first ∙ plus_self l
      ∙ ap (λ (n : ℕ). replicate n 0) ll in
      ap (remainder d) (sym joined)
      ∙ remainder-append d r (c ∷ [])
      ∙ ap (λ (t : List ℕ). brought d t c) (remainder_self w d long coefs r (binary_take w l hl) lr)
      ∙ ap (drop 1) gone

  product-none : (qs : List ℕ) → Coefficients qs → remainder d (product d qs) ≡ replicate w 0
  unfolding part divided
  product-none [] h = from-zeros (replicate (length d - 1) 0) ∙ zeros_stay (length d - 1)
  product-none (q ∷ qs) h =
      let n : ℕ = length qs in
      let p : List ℕ = product d qs in
      let z : List ℕ = replicate w 0 in
      let l : length z ≡ w = length-replicate {A = ℕ} w 0 in
      remainder-plus (part q n) (0 ∷ p) (omega (arith, length_part q n, length-product qs))
      ∙ ap₂ plus
      (remainder-append d (scaled q d) (replicate n 0) ∙ ap (λ (t : List ℕ). divided d t (replicate n 0)) (remainder-divisor q h.0) ∙ zeros_stay n)
      (from-zeros (0 ∷ p) ∙ ap (λ (t : List ℕ). divided d t p) zeros-down ∙ sym (from-zeros p) ∙ product-none qs h.1)
      ∙ zeros-plus w z l (coefs_zeros w)

  pub product-zero : (cs : List ℕ) → Multiple d cs → remainder d cs ≡ replicate w 0
  product-zero cs m = ap (remainder d) m.is ∙ product-none m.quotient m.coefs
