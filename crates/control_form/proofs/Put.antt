-- An image with a whole new control part: its length, its control bytes, all behind them. Assumes nothing.
use mathlib.Core.Path.{◌≡◌, ap, ◌∙◌}
use mathlib.Core.Logic.{⊎_elim}
use mathlib.Core.List.{List}
use mathlib.Core.Bool.{true}
use Prim.Native.Nat.{ℕ, ◌+◌, ◌-◌, ◌≤◌, ◌<◌}
use native.Mathlib.Omega.{arith}
use lib.ListN.{get_or, length}
use lib.Seq.{ext_get_or}
use Rattle.lists.specs.Tabulate.{tabulate}
use Rattle.lists.proofs.Cases.{lt-or-ge}
use Rattle.lists.proofs.Tabulate.{length-tabulate, at-tabulate}
use Rattle.lists.proofs.Segments.{length-splice, get_or-in, get_or-after, get-put-after}
use Rattle.image.specs.Layout.{card_count, block_count, control_size}
use Rattle.image.specs.Parts.{Whole, block_at}
use Rattle.control.specs.ControlBytes.{Part, control_byte, control_of, tail_at}
use Rattle.control_form.specs.ControlForm.{control_form}
use Rattle.control.specs.Meaning.{put_control}
use Rattle.control_form.proofs.RoundTrip.{control-back}

module _ (image : List ℕ) (k : Part) (long : control_size ≤ length image) where
  abbrev new : List ℕ
  new = tabulate control_size (control_byte k)

  new-length : length new ≡ control_size
  new-length = length-tabulate control_size (control_byte k)

  fits : 0 + length new ≤ length image
  fits = omega (arith, new-length)

  pub length-put : length (put_control image k) ≡ length image
  unfolding put_control
  length-put = length-splice image 0 new fits

  -- A control byte is the new one; any byte behind is the old one.
  pub put_in : (i : ℕ) → i < control_size → get_or (put_control image k) i 0 ≡ control_byte k i
  unfolding put_control
  put_in i h = get_or-in image 0 new i fits (omega arith) (omega (arith, new-length))
      ∙ ap (λ (j : ℕ). get_or new j 0) e ∙ at-tabulate control_size (control_byte k) i h
    where
      e : i - 0 ≡ i
      e = omega arith

  pub put-after : (i : ℕ) → control_size ≤ i → get_or (put_control image k) i 0 ≡ get_or image i 0
  unfolding put_control
  put-after i h = get_or-after image 0 new i fits (omega (arith, new-length))

  -- Every block is untouched.
  pub put-blocks : Whole image → (c : ℕ) → c < card_count → (b : ℕ) → b < block_count → block_at (put_control image k) c b ≡ block_at image c b
  unfolding put_control block_at
  put-blocks w c hc b hb = get-put-after image 0 new _ _ fits (omega (arith, new-length)) (omega arith)

-- What was read, put back.
pub put_same : (image : List ℕ) → control_size ≤ length image → control_form image ≡ true → put_control image (control_of (λ n. get_or image n 0) (tail_at image)) ≡ image
put_same image long form = ext_get_or 0 (put_control image k) image (length-put image k long) (λ n l. ⊎_elim (in-it n) (behind n) (lt-or-ge n control_size))
  where
    k : Part
    k = control_of (λ n. get_or image n 0) (tail_at image)

    in-it : (n : ℕ) → n < control_size → get_or (put_control image k) n 0 ≡ get_or image n 0
    in-it n h = put_in image k long n h ∙ control-back (λ n. get_or image n 0) (tail_at image) form n h

    behind : (n : ℕ) → control_size ≤ n → get_or (put_control image k) n 0 ≡ get_or image n 0
    behind n h = put-after image k long n h
