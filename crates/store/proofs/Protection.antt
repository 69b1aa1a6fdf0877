-- What the word of state is worth to a caller, the proofs: the calls answer as the rules do on images. Assumes nothing.
use Rattle.std.specs.Prelude.{Ok, Err}
use mathlib.Core.Bool.{false, true}
use mathlib.Core.Path.{◌∙◌, ◌≡◌, ap, refl, sym}
use Rattle.lists.proofs.Bools.{tf}
use Rattle.method.specs.OneRecordList.{is_stop}
use Rattle.method.specs.Rules.{fail}
use Rattle.cabinet_rules.specs.Cabinet.{cabinet}
use Rattle.cabinet_rules.specs.Images.{answer}
use Rattle.cabinet_rules.proofs.Protection.{safe-of, stop-of}
use Rattle.promise.specs.Promise.{Answered, shown}
use Rattle.promise.specs.declared.Answer.TheVariants.{Accepted, Value, Absent, Placed, Unplaced, Stopped, Copied}
use Rattle.promise.specs.declared.Answer.TheVariants.{Retired, Protected, Unprotected, Loaded}
use Rattle.store.specs.Protection.{ProtectedIsSafe, UnprotectedIsNot}

-- Only the one answer says stopped.
pub stopped-alone : (said : Answered) → is_stop cabinet (shown said) ≡ true → said ≡ Ok Stopped
stopped-alone (Ok Accepted) e = tf false e refl
stopped-alone (Ok (Value n)) e = tf false e refl
stopped-alone (Ok Absent) e = tf false e refl
stopped-alone (Ok (Placed m)) e = tf false e refl
stopped-alone (Ok Unplaced) e = tf false e refl
stopped-alone (Ok Stopped) e = refl
stopped-alone (Ok (Copied n)) e = tf false e refl
stopped-alone (Ok (Retired n)) e = tf false e refl
stopped-alone (Ok Protected) e = tf false e refl
stopped-alone (Ok Unprotected) e = tf false e refl
stopped-alone (Ok (Loaded n)) e = tf false e refl
stopped-alone (Err r) e = tf false e refl

pub protected-is-safe : ProtectedIsSafe
unfolding ProtectedIsSafe
protected-is-safe g left d c said behind f e =
    tf (is_stop cabinet (answer (fail c) g)) (ap (is_stop cabinet) (sym f.answers) ∙ ap (λ (x : Answered). is_stop cabinet (shown x)) e) (safe-of g (sym d.answers) c)

pub unprotected-is-not : UnprotectedIsNot
unfolding UnprotectedIsNot
unprotected-is-not g left d =
    let s = stop-of g (sym d.answers) in
    (s.0, s.1, λ said behind f. stopped-alone said (ap (is_stop cabinet) f.answers ∙ s.2))
