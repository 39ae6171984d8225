-- The ways out of the writer, each with the tests that lead to it: the order 2, 3, 1, 4.
-- Assumes nothing.
use mathlib.Core.Path.{◌≡◌, sym, ◌∙◌, subst}
use mathlib.Core.Bool.{Bool, true, false, not, cond}
use mathlib.Core.List.{List, []}
use Prim.Native.Nat.{ℕ}
use borrow.Author.Tests.{eq-eqb, ne_eqb, not-true, not-false}
use lib.Dec.{eqb}
use lib.ListN.{length}
use Rattle.outcome.specs.Say.{done, refused, cleared}
use Rattle.outcome.specs.Say.Refusals.{cleared-wrong}
use Rattle.outcome.specs.Bytes.{Bytes}
use Rattle.outcome.specs.Buffer.Lengths.{same_lengths}
use Rattle.address.specs.Address.{in_range}
use Rattle.address.specs.declared.HeaderTime.{HeaderTime}
use Rattle.sector.specs.Layout.{user_length}
use Rattle.modes.specs.Modes.{is_written}
use Rattle.writer.specs.Inner.Make.{Makes}
use Rattle.writer.specs.Write.{Asked, says, Writes, refuses, writes}

module _ (mode : ℕ) (time : HeaderTime) (user old : List ℕ) where
  refused_so : (n : ℕ) (new : List ℕ) → says mode time user old ≡ refused n [] → new ≡ cleared 2352 old → Writes mode time user old (refused n []) new
  refused_so n new e z = subst (λ (x : List ℕ). Writes mode time user old (refused n []) x) (sym z) (refuses e)

  pub on_outgoing : (length old ≡ 2352 → ⊥) → Writes mode time user old (refused 2 []) old
  on_outgoing n = refused_so 2 old (simp (ne_eqb (length old) 2352 n)) (sym (cleared-wrong 2352 old n))

  module _ (new : List ℕ) (l : length old ≡ 2352) (w : Bool) (hw : w ≡ is_written mode) where
    pub on_mode : not w ≡ true → new ≡ cleared 2352 old → Writes mode time user old (refused 3 []) new
    on_mode n z = let m = sym hw ∙ not-true w n in refused_so 3 new (simp (eq-eqb (length old) 2352 l, m)) z

    module _ (nw : not w ≡ false) (k : ℕ) (hk : k ≡ user_length mode) where
      m : is_written mode ≡ true
      m = sym hw ∙ not-false w nw

      pub on_incoming : (length user ≡ k → ⊥) → new ≡ cleared 2352 old → Writes mode time user old (refused 1 []) new
      on_incoming n z =
          refused_so 1 new (simp (eq-eqb (length old) 2352 l, m, ne_eqb (length user) (user_length mode) (λ e. n (e ∙ sym hk)))) z

      module _ (u : length user ≡ k) (r : Bool) (hr : r ≡ in_range time) where
        pub on_address : not r ≡ true → new ≡ cleared 2352 old → Writes mode time user old (refused 4 []) new
        on_address n z =
            let t = sym hr ∙ not-true r n in
            refused_so 4 new (simp (eq-eqb (length old) 2352 l, m, eq-eqb (length user) (user_length mode) (u ∙ hk), t)) z

        pub on_done : not r ≡ false → (s : List ℕ) → Makes mode time user s → (c : Bool) → (c ≡ eqb (length s) (length old)) × (new ≡ cond c s old) → Bytes new
            → Writes mode time user old (done []) new
        on_done n s g c e b =
            let t = sym hr ∙ not-false r n in
            let same : new ≡ s = same_lengths c (length s) (length old) new s old e (g.long ∙ sym l) in
            writes (simp (eq-eqb (length old) 2352 l, m, eq-eqb (length user) (user_length mode) (u ∙ hk), t))
            (subst (λ (x : List ℕ). Asked mode time user x) (sym same) (g.asked (subst (λ (x : List ℕ). Bytes x) same b)))

pub ruleset ways = (on_outgoing, on_mode, on_incoming, on_address)
