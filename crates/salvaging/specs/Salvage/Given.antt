-- What comes with a result: it is a correct Sector of Mode 01, the first that the passes yield, within the allowance, and its list is
-- that of every change against what was received, so that these made in it give the Sector.
-- Assumes nothing.
use Rattle.std.specs.Prelude.{◌≡◌, refl, List, [], ◌∷◌, ℕ, length, get_or}
use Rattle.std.proofs.Common.{sym, ap, ◌∙◌}
use Rattle.outcome.specs.Say.{Say, done}
use Rattle.outcome.specs.Say.Refusals.{never}
use Rattle.codeword.specs.Code.{changes}
use Rattle.sector.specs.Correct.{CorrectMode01}
use Rattle.listing.specs.Listed.{Change, listed, listing}
use Rattle.listing.specs.Listed.Made.{read_back, made, reads-back, made_gives}
use Rattle.salvaging.specs.Salvage.{ResultOf, InRange, Room, Salvages, wrong_incoming, wrong-outgoing, wrong-passes, none_found, handed_out}

pub record Given (r : List ℕ) (allowed : ℕ) (old changed v s l : List ℕ) : Type 0 where
  pub incoming : length r ≡ 2352
  pub room : Room old changed
  pub range : InRange allowed
  pub passes : ℕ
  pub result : ResultOf r allowed passes s
  pub values : v ≡ passes ∷ changes r s ∷ []
  pub list : l ≡ listing r s

done_same : {u v : List ℕ} → done u ≡ done v → u ≡ v
done_same e = cc

module _ {r : List ℕ} {allowed : ℕ} {old changed : List ℕ} where
  pub salvages_gives : {a : Say} {s l v : List ℕ} → Salvages r allowed old changed a s l → a ≡ done v → Given r allowed old changed v s l
  salvages_gives (wrong_incoming n) e = never e
  salvages_gives (wrong-outgoing f n) e = never e
  salvages_gives (wrong-passes f p n) e = never e
  salvages_gives (none_found f p i n) e = never e
  salvages_gives (handed_out {k = k} f p i g) e =
      record { incoming = f; room = p; range = i; passes = k; result = g; values = sym (done_same e); list = refl }

  -- what is handed out is a correct Sector of Mode 01
  pub result_correct : {a : Say} {s l v : List ℕ} → Salvages r allowed old changed a s l → a ≡ done v → CorrectMode01 s
  result_correct h e = (salvages_gives h e).result.found.correct

  -- as many changes as the count says, read from the bytes of the list, are those between what was received and the Sector: listing's
  -- Listed/Exact has that each of them is right, that they rise and that none is left out
  pub list_tells : {a : Say} {s l v : List ℕ} → Salvages r allowed old changed a s l → a ≡ done v → read_back (get_or v 1 0) l ≡ listed 0 r s
  list_tells {s = s} h e =
      let g = salvages_gives h e in (λ i. read_back (get_or (g.values i) 1 0) (g.list i)) ∙ reads-back r s

  -- and made in what was received they give the Sector
  pub list_gives : {a : Say} {s l v : List ℕ} → Salvages r allowed old changed a s l → a ≡ done v → made (read_back (get_or v 1 0) l) r ≡ s
  list_gives {s = s} h e =
      let g = salvages_gives h e in
      ap (λ (c : List Change). made c r) (list_tells h e) ∙ made_gives r s (g.incoming ∙ sym g.result.found.trial.long)
