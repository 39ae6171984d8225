-- What an answer says.
-- Assumes nothing.
use Rattle.std.specs.Prelude.{◌≡◌, List, ℕ, Option, Some, None}
use Rattle.std.proofs.Common.{subst}
use Rattle.number_reader.specs.declared.Leading.{Leading}
use Rattle.number_reader.specs.Leads.{Stands, NoneStands, Leads}

pub says-number : (list : List ℕ) (at : ℕ) (x : Leading) (q : Option Leading) → Leads list at q → q ≡ Some x → Stands list at x.number x.taken
says-number list at x q l e = subst (Leads list at) e l

pub says_none : (list : List ℕ) (at : ℕ) (q : Option Leading) → Leads list at q → q ≡ None → NoneStands list at
says_none list at q l e = subst (Leads list at) e l
