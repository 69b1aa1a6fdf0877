-- Each answer has a code of its own; and the laws that finish the functions' proofs. Assumes nothing.
use mathlib.Core.Path.{◌∙◌, ◌≡◌, ap, refl, sym}
use mathlib.Core.List.{List, [], ◌∷◌}
use Prim.Native.Nat.{◌%◌, ◌/◌, ◌<◌, ℕ}
use native.Mathlib.Omega.{arith}
use lib.ListN.{get_or}
use Rattle.mask.specs.Masks.{Byte, byte}
use Rattle.mask.proofs.Masks.{byte_of}
use Rattle.method.specs.Rules.{Answer, Call, absent, copied, loaded, ok, placed, protected, refused, retired, stops}
use Rattle.method.specs.Rules.{unplaced, unprotected, value}
use Rattle.cabinet_rules.specs.Cabinet.{cabinet}
use Rattle.cabinet_rules.specs.Images.{Image}
use Rattle.promise.specs.Promise.{Answered, said, Done, shown}
use Rattle.promise.specs.declared.Answer.TheVariants.{Placed}
use Rattle.command.specs.Meaning.{Obeyed}
use Rattle.returns.specs.Promise.{ReturnDone}
use Rattle.codes.specs.Codes.{Coded, CodedCommand, CodedReturn, OneNumberEach, answer_number, code_of, coded, kind_of, number_range}

-- ---- codes
kind-back : (k n : ℕ) → n < number_range → coded k n / number_range ≡ k
kind-back k n h = omega arith

number-back : (k n : ℕ) → n < number_range → coded k n % number_range ≡ n
number-back k n h = omega arith

-- The answer of a code: by its kind, with its number. The kinds that are not theirs stand for ok here.
abbrev kinds : List (ℕ → Answer cabinet)
kinds =
    (λ n. ok)
    ∷ value
    ∷ (λ n. absent)
    ∷ (λ n. placed (byte n))
    ∷ (λ n. unplaced)
    ∷ (λ n. stops)
    ∷ copied
    ∷ retired
    ∷ (λ n. protected)
    ∷ (λ n. unprotected)
    ∷ loaded
    ∷ (λ n. ok)
    ∷ (λ n. ok)
    ∷ (λ n. ok)
    ∷ (λ n. ok)
    ∷ []

answer_of_code : ℕ → Answer cabinet
answer_of_code code = get_or kinds (code / number_range) refused (code % number_range)

-- the entry of an answer's kind, with its number, is the answer
entry : (a : Answer cabinet) → get_or kinds (kind_of a) refused (answer_number a) ≡ a
unfolding kind_of answer_number
entry ok = refl
entry (value n) = refl
entry absent = refl
entry (placed m) = ap (λ (x : Byte). placed x) (byte_of m)
entry unplaced = refl
entry stops = refl
entry (copied n) = refl
entry (retired n) = refl
entry protected = refl
entry unprotected = refl
entry (loaded n) = refl
entry (refused n) = refl

answer_back : (a : Answer cabinet) → answer_number a < number_range → answer_of_code (code_of a) ≡ a
unfolding answer_of_code
answer_back a h =
    ap (λ (k : ℕ). get_or kinds k refused (code_of a % number_range)) (kind-back (kind_of a) (answer_number a) h)
    ∙ ap (get_or kinds (kind_of a) refused) (number-back (kind_of a) (answer_number a) h) ∙ entry a

pub one-number-each : OneNumberEach
one-number-each a b h k e = sym (answer_back a h) ∙ ap answer_of_code e ∙ answer_back b k

pub placed-code : (m : ℕ) → m < 256 → coded 3 m ≡ code_of (said (Placed m))
unfolding kind_of answer_number
placed-code m h =
    let e : m ≡ m % 256 = omega arith in
    ap (coded 3) e

-- ---- the functions
pub coded-done : {c : Call cabinet} {g h : Image} {a : Answered} {n : ℕ} → Done c g a h → n ≡ code_of (shown a) → Coded c g n h
coded-done d e = record { answers = e ∙ ap code_of d.answers; leaves = d.leaves }

pub coded-return : {c : ℕ} {g h : Image} {a : Answered} {n : ℕ} → ReturnDone c g a h → n ≡ code_of (shown a) → CodedReturn c g n h
coded-return d e = record { answers = e ∙ ap code_of d.answers; leaves = d.leaves }

pub coded-obeyed : {l : List ℕ} {g h : Image} {a : Answered} {n : ℕ} → Obeyed l g a h → n ≡ code_of (shown a) → CodedCommand l g n h
coded-obeyed d e = record { answers = e ∙ ap code_of d.answers; leaves = d.leaves }
