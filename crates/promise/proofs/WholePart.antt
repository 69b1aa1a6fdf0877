-- The law that finishes the proof of a call that changes the whole control part, before and behind the tables: the blocks lie between the two and stay.
-- Assumes nothing.
use Prim.Native.Nat.{◌+◌, ◌-◌, ◌<◌, ◌≤◌, ℕ}
use lib.ListN.{get_or, length}
use Rattle.std.specs.Prelude.{Ok}
use mathlib.Core.Bool.{false}
use mathlib.Core.List.{List}
use mathlib.Core.Option.{none}
use mathlib.Core.Path.{◌∙◌, ◌≡◌, ap, refl, sym}
use native.Mathlib.Omega.{arith}
use Rattle.lists.specs.Tabulate.{tabulate}
use Rattle.lists.proofs.Segments.{get-put-before, get_or-before, get_or-in, length-splice}
use Rattle.lists.proofs.Tabulate.{at-tabulate, length-tabulate}
use Rattle.image.specs.Layout.{block_count, card_count, control_size, end_start_of, layout, tail_size, tail_start}
use Rattle.image.specs.Parts.{Whole, block_at}
use Rattle.method.specs.Rules.{is_start, Call, unwritten}
use Rattle.control.specs.ControlBytes.{Part, control_byte, front_part, tail_byte}
use Rattle.control.specs.Meaning.{put_control, put_tail}
use Rattle.control.proofs.Front.{front-put}
use Rattle.control_form.specs.ControlForm.{form_refusal}
use Rattle.control_form.proofs.Put.{length-put, put-after, put-blocks, put_in}
use Rattle.cabinet_rules.specs.Cabinet.{cabinet}
use Rattle.cabinet_rules.specs.Images.{Image, after, block_in, plan_on, tail_in}
use Rattle.cabinet_rules.proofs.After.{after-ext}
use Rattle.promise.specs.Given.{rows_on}
use Rattle.promise.specs.Promise.{Done, said}
use Rattle.promise.specs.declared.Answer.{Answer as AnswerValue}
use Rattle.promise.proofs.Finish.{by-plan, form-long}
use Rattle.promise.proofs.Laid.{block-is, is_block}

-- ---- an image with other bytes behind the tables
module _ (g : Image) (f : ℕ → ℕ) (w : Whole g) where
  abbrev new : List ℕ
  new = tabulate tail_size f

  new-length : length new ≡ tail_size
  new-length = length-tabulate tail_size f

  fits : tail_start + length new ≤ length g
  fits = omega (arith, new-length)

  pub whole-tail : Whole (put_tail g f)
  unfolding put_tail
  whole-tail = length-splice g tail_start new fits ∙ w

  tail-front : (n : ℕ) → n < tail_start → get_or (put_tail g f) n 0 ≡ get_or g n 0
  unfolding put_tail
  tail-front n h = get_or-before g tail_start new n fits h

  tail-its : (n : ℕ) → n < tail_size → tail_in (put_tail g f) n ≡ f n
  unfolding put_tail
  tail-its n h =
      let e : tail_start + n - tail_start ≡ n = omega arith in
      get_or-in g tail_start new (tail_start + n) fits (omega arith) (omega (arith, new-length)) ∙ ap (λ (j : ℕ). get_or new j 0) e ∙ at-tabulate tail_size f n h

  tail-blocks : (c b : ℕ) → c < card_count → b < block_count → block_at (put_tail g f) c b ≡ block_at g c b
  unfolding put_tail block_at
  tail-blocks c b hc hb = get-put-before g tail_start new _ _ fits (omega arith)

-- ---- with another control part
module _ (g : Image) (k : Part) (w : Whole g) where
  abbrev tailed : Image
  tailed = put_tail g (tail_byte k)

  abbrev both : Image
  both = put_control tailed k

  long : control_size ≤ length tailed
  long = omega (arith, whole-tail g (tail_byte k) w)

  whole-both : Whole both
  whole-both = length-put tailed k long ∙ whole-tail g (tail_byte k) w

  pub write-whole : put_control tailed (front_part k) ≡ after (control_byte k) (tail_byte k) (λ c b. none) (λ c. none) g
  write-whole = front-put tailed k ∙ after-ext layout (control_byte k) (tail_byte k) (λ c b. none) (λ c. none) g both whole-both
      (put_in tailed k long)
      (λ n h. put-after tailed k long (tail_start + n) (omega arith) ∙ tail-its g (tail_byte k) w n h)
      (λ c b hc hb. is_block both whole-both c b hc hb (block_in g c b)
      (put-blocks tailed k long (whole-tail g (tail_byte k) w) c hc b hb ∙ tail-blocks g (tail_byte k) w c b hc hb ∙ sym (block-is g w c b hc hb)))
      (λ c j hc hj. put-after tailed k long (end_start_of layout c + j) (omega arith) ∙ tail-front g (tail_byte k) w (end_start_of layout c + j) (omega arith))

-- accepted, and the whole control part changes
pub by_whole : (c : Call cabinet) → is_start c ≡ false → (g : Image) → form_refusal g ≡ 0 → (a : AnswerValue) (k : Part) (behind : Image)
    → 0 ≡ rows_on c g → plan_on c g ≡ unwritten cabinet (said a) k → behind ≡ put_control (put_tail g (tail_byte k)) (front_part k) → Done c g (Ok a) behind
by_whole c late g clear a k behind e q l = by-plan c late g clear a (unwritten cabinet (said a) k) behind e q refl (l ∙ write-whole g k (form-long g clear))
