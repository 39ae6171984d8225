-- The automaton is the rule: in every state in which a writer stands they choose the same Merging bits, and what is chosen is allowed.
-- Assumes nothing.
use Rattle.std.specs.Prelude.{◌≡◌, Bool, true, false, cond, not, List, ◌++◌, ℕ, ◌+◌, ◌<◌, length}
use Rattle.std.proofs.Math.Path.{refl, ap₂}
use Rattle.std.proofs.Common.{ap, ◌∙◌}
use Rattle.std.proofs.Math.Bool.{◌&&◌}
use Rattle.std.proofs.Math.Dec.{T, eqb}
use Rattle.outcome.specs.Table.Entries.{and_left, and_right}
use Rattle.merging.specs.Rule.{sync_header_bits, headers, allowed}
use Rattle.merging.specs.Automaton.{steps, live, shown, start22, StateOf, passes}
use Rattle.merging.specs.Chosen.{before_word, before_header, m100, m010, m001, m000}
use Rattle.merging.specs.Ready.{ready, ruled, agrees, word_agrees, takes, header_agrees, takes_header, Takes}
use Rattle.merging.specs.Rule.Headers.{headers_short, eqb-plus}
use Rattle.merging.specs.Chosen.Better.{better-same, word_keeps, word_allowed, header_allowed, word_same}

module _ (past : List ℕ) (s : ℕ) (d : StateOf past s) where
  -- the rule after `past` is the rule after what its state shows
  pub allowed_is : (n : ℕ) (next m : List ℕ) → headers next ≡ n → allowed past next m ≡ ruled n s (m ++ next)
  unfolding allowed ruled
  allowed_is n next m e =
      ap₂ ◌&&◌ (d.runs_on (m ++ next))
      (ap₂ eqb (d.headers_on (m ++ next)) (ap (λ (k : ℕ). headers past + k) e) ∙ eqb-plus (headers past) (headers (shown s ++ (m ++ next))) n)

-- ---- what a test says

agreed : (e : ℕ) (rule : Bool) → T (agrees e rule) → rule ≡ live e
unfolding agrees
agreed e rule t = go (live e) rule refl t
  where
    go : (l r : Bool) → live e ≡ l → T (cond l (r && ready e) (not r)) → r ≡ l
    go true true p u = refl
    go true false p u = absurd u
    go false true p u = absurd u
    go false false p u = refl

readied : (e : ℕ) (rule : Bool) → T (agrees e rule) → T (live e) → T (ready e)
unfolding agrees
readied e rule t l = go (live e) t l
  where
    go : (k : Bool) → T (cond k (rule && ready e) (not rule)) → T k → T (ready e)
    go true u v = and_right rule (ready e) u
    go false u v = absurd v

-- the test, taken apart
pub taken : (bs : List ℕ) (s : ℕ) → T (takes bs s) → Takes bs s
unfolding takes
taken bs s t =
    let A = word_agrees bs s m100 in
    let B = word_agrees bs s m010 in
    let C = word_agrees bs s m001 in
    let D = word_agrees bs s m000 in
    let l = and_left (ready s && (A && (B && (C && D)))) _ t in
    let a = and_right (ready s) (A && (B && (C && D))) l in
    let b = and_right A (B && (C && D)) a in
    let c = and_right B (C && D) b in
    record {
      at100 = and_left A (B && (C && D)) a;
      at010 = and_left B (C && D) b;
      at001 = and_left C D c;
      at000 = and_right C D c;
      some = and_right (ready s && (A && (B && (C && D)))) _ t;
    }

module _ (past : List ℕ) (s : ℕ) (d : StateOf past s) (bs : List ℕ) (short : length bs < 24) (t : Takes bs s) (dsv : List ℕ → ℕ) where
  -- the rule and the automaton agree on Merging bits m before a word
  pub one-agrees : (m : List ℕ) → T (word_agrees bs s m) → allowed past bs m ≡ passes s bs m
  unfolding word_agrees
  one-agrees m u = allowed_is past s d 0 bs m (headers_short bs short) ∙ agreed (steps s (m ++ bs)) (ruled 0 s (m ++ bs)) u

  -- the rule and the automaton choose the same before a word
  pub word_agrees_lem : before_word (allowed past bs) dsv ≡ before_word (passes s bs) dsv
  word_agrees_lem =
      word_same (allowed past bs) (passes s bs) dsv (one-agrees m100 t.at100) (one-agrees m010 t.at010) (one-agrees m001 t.at001)
      (one-agrees m000 t.at000)

module _ (s : ℕ) (bs : List ℕ) (t : Takes bs s) (dsv : List ℕ → ℕ) where
  -- what is chosen before a word is allowed
  pub word_passes : T (passes s bs (before_word (passes s bs) dsv))
  word_passes = word_allowed (passes s bs) dsv t.some

  -- and the writer stands ready after it
  pub word_ready : T (ready (steps s (before_word (passes s bs) dsv ++ bs)))
  unfolding word_agrees
  word_ready =
      let m = before_word (passes s bs) dsv in
      readied (steps s (m ++ bs)) (ruled 0 s (m ++ bs))
      (word_keeps (passes s bs) dsv (λ m. T (word_agrees bs s m)) t.at100 t.at010 t.at001 t.at000) word_passes

-- ---- before a Sync Header

-- a test that two answers are the same says so
pub alike : (a b : Bool) → T (cond a b (not b)) → b ≡ a
alike true true t = refl
alike true false t = absurd t
alike false true t = absurd t
alike false false t = refl

module _ (s : ℕ) (t : T (takes_header s)) (dsv : List ℕ → ℕ) where
  -- what is chosen before a Sync Header is allowed
  pub header_passes : T (passes s start22 (before_header (passes s start22) dsv))
  unfolding takes_header
  header_passes = header_allowed (passes s start22) dsv (and_right (header_agrees s m100 && header_agrees s m000) _ t)

  module _ (past : List ℕ) (d : StateOf past s) where
    -- the rule and the automaton agree on Merging bits m before a Sync Header
    pub head_agrees : (m : List ℕ) → T (header_agrees s m) → allowed past sync_header_bits m ≡ passes s start22 m
    unfolding header_agrees headers
    head_agrees m u = allowed_is past s d 1 sync_header_bits m refl ∙ alike (live (steps s (m ++ start22))) (ruled 1 s (m ++ sync_header_bits)) u

    -- the rule and the automaton choose the same before a Sync Header
    pub header_agrees_lem : before_header (allowed past sync_header_bits) dsv ≡ before_header (passes s start22) dsv
    unfolding before_header takes_header
    header_agrees_lem =
        let both = and_left (header_agrees s m100 && header_agrees s m000) _ t in
        better-same (allowed past sync_header_bits) (passes s start22) dsv m100 m000
        (head_agrees m100 (and_left (header_agrees s m100) (header_agrees s m000) both))
        (head_agrees m000 (and_right (header_agrees s m100) (header_agrees s m000) both))
