-- The bytes that the converter from before A.6 writes, those of the older image and zero behind them, are the image at the length of A.6. Assumes nothing.
use mathlib.Core.Path.{◌≡◌, ap, sym, ◌∙◌}
use mathlib.Core.Logic.{⊎_elim}
use Prim.Native.Nat.{ℕ, ◌+◌, ◌-◌, ◌<◌, ◌≤◌}
use native.Mathlib.Nat.{sub-zero}
use native.Mathlib.Omega.{arith}
use lib.ListN.{get_or, length}
use lib.Seq.{ext_get_or}
use Rattle.lists.specs.Segments.{splice}
use Rattle.lists.proofs.Cases.{lt-or-ge}
use Rattle.lists.proofs.Segments.{get_or-before, get_or-in, length-splice}
use Rattle.image.specs.Layout.{tail_size}
use Rattle.image.specs.Parts.{zeros}
use Rattle.image.proofs.Zeros.{length-zeros, zeros-at}
use Rattle.cabinet_rules.specs.Converting.{longer, older_size, pairs_image_size}
use Rattle.cabinet_rules.specs.Images.{Image}
use Rattle.cabinet_rules.proofs.Wire.{length-longer, longer-at, longer-behind}

module _ (older lent : Image) (o : length older ≡ older_size) (i : length lent ≡ pairs_image_size) where
  abbrev copied : Image
  copied = splice lent 0 older

  abbrev filled : Image
  filled = splice copied older_size (zeros tail_size)

  pub length-copied : length copied ≡ pairs_image_size
  length-copied = length-splice lent 0 older (omega (arith, o, i)) ∙ i

  room : older_size + length (zeros tail_size) ≤ length copied
  room = omega (arith, length-zeros tail_size, length-copied)

  front : (n : ℕ) → n < older_size → get_or filled n 0 ≡ get_or (longer older) n 0
  front n h = get_or-before copied older_size (zeros tail_size) n room h
      ∙ get_or-in lent 0 older n (omega (arith, o, i)) (omega arith) (omega (arith, o)) ∙ ap (λ (j : ℕ). get_or older j 0) (sub-zero n) ∙ sym (longer-at older n h)

  behind : (n : ℕ) → older_size ≤ n → n < pairs_image_size → get_or filled n 0 ≡ get_or (longer older) n 0
  behind n h b =
      let e : older_size + (n - older_size) ≡ n = omega arith in
      get_or-in copied older_size (zeros tail_size) n room h (omega (arith, length-zeros tail_size))
      ∙ zeros-at tail_size (n - older_size) (omega arith) ∙ sym (longer-behind older (n - older_size) (omega arith)) ∙ ap (λ (j : ℕ). get_or (longer older) j 0) e

  pub filled_is : filled ≡ longer older
  filled_is = ext_get_or 0 filled (longer older) (long ∙ sym (length-longer older))
      (λ n h. ⊎_elim (front n) (λ (p : older_size ≤ n). behind n p (omega (arith, long))) (lt-or-ge n older_size))
    where
      long : length filled ≡ pairs_image_size
      long = length-splice copied older_size (zeros tail_size) room ∙ length-copied
