-- A `?` hands on the refusal that it finds: what a call then answers is that refusal. Assumes nothing.
use Rattle.std.specs.Prelude.{◌≡◌, Result, Err, IsErr, IsErrAnd}
use Rattle.std.proofs.lemmas.Result.{err_from_is_err_and}
use Rattle.refusals.specs.Refusals.{number, row_of}
use Rattle.refusals.specs.declared.Refusal.{Refusal}

-- what the check knows of the result of a `?` that finds r
abbrev pub HandsOn : {A : Type 0} → Refusal → Result A Refusal → Type 0
HandsOn r a = IsErr a × IsErrAnd a (λ y. y ≡ r)

pub handed-on : {A : Type 0} {r : Refusal} (a : Result A Refusal) → HandsOn r a → a ≡ Err r
handed-on a h = let p = err_from_is_err_and a h.1 in rw (p.1, p.2)

-- and so is its row
pub row-handed-on : {A : Type 0} (r : Refusal) (a : Result A Refusal) → HandsOn r a → row_of a ≡ number r
row-handed-on r a h = rw (handed-on a h)
