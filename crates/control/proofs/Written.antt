-- Bytes that are written from the front, over zeros. Assumes nothing.
use mathlib.Core.Path.{◌≡◌, refl, sym, ap, ◌∙◌}
use mathlib.Core.Logic.{⊎_elim}
use mathlib.Core.List.{List}
use Prim.Native.Nat.{ℕ, ◌+◌, ◌≤◌, ◌<◌}
use native.Mathlib.Nat.{not-suc-le-zero}
use native.Mathlib.Omega.{arith}
use lib.ListN.{get_or, length, set, replicate, length-set}
use lib.Seq.{ext_get_or, get_or-set_other}
use Rattle.lists.specs.Tabulate.{tabulate}
use Rattle.lists.proofs.Cases.{lt-or-ge}
use Rattle.lists.proofs.Tabulate.{length-tabulate, at-tabulate}
use Rattle.lists.proofs.Segments.{fill_more}
use Rattle.image.specs.Layout.{control_size}
use Rattle.control.proofs.Changes.{at-zeros}

-- The first m control bytes are those that f gives, and the others are zero.
pub record Written (f : ℕ → ℕ) (m : ℕ) (l : List ℕ) : Type 0 where
  pub long : length l ≡ control_size
  pub done : (j : ℕ) → j < m → get_or l j 0 ≡ f j
  pub rest : (j : ℕ) → m ≤ j → get_or l j 0 ≡ 0

module _ (f : ℕ → ℕ) where
  pub none_written : Written f 0 (replicate control_size 0)
  none_written = record { long = refl; done = λ j h. absurd (not-suc-le-zero h); rest = λ j h. at-zeros control_size j }

  -- Byte m is written.
  pub one_written : (m n : ℕ) (l : List ℕ) (v : ℕ) → Written f m l → n ≡ m + 1 → m < control_size → v ≡ f m → Written f n (set l m v)
  one_written m n l v w e h same = record {
    long = simp length-set w.long;
    done = λ j b. ap (λ (x : ℕ). get_or (set l m x) j 0) same ∙ fill_more f l m (omega (arith, w.long)) w.done j (omega arith);
    rest = λ j b. get_or-set_other l m j v 0 (λ q. omega arith) ∙ w.rest j (omega arith);
  }

  pub all-written : (m : ℕ) (l : List ℕ) → Written f m l → ((j : ℕ) → m ≤ j → 0 ≡ f j) → l ≡ tabulate control_size f
  all-written m l w zeros = ext_get_or 0 l (tabulate control_size f) (omega (arith, w.long, length-tabulate control_size f))
      (λ j h. ⊎_elim (w.done j) (λ (p : m ≤ j). w.rest j p ∙ zeros j p) (lt-or-ge j m) ∙ sym (at-tabulate control_size f j (omega (arith, w.long))))
