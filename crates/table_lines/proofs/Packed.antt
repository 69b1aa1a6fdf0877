-- The bytes that keep the pairs of the blocks depend on those pairs alone: every byte is of a group of four blocks. Assumes nothing.
use mathlib.Core.Path.{◌≡◌, ap, sym, ◌∙◌}
use Prim.Native.Nat.{ℕ, ◌+◌, ◌*◌, ◌/◌, ◌%◌, ◌<◌}
use native.Mathlib.Omega.{arith}
use lib.Seq.{ext_get_or}
use Rattle.lists.specs.Tabulate.{tabulate}
use Rattle.lists.proofs.Tabulate.{at-tabulate, length-tabulate}
use Rattle.image.specs.Layout.{block_count, pairs_size}
use Rattle.mask.specs.Pairs.{blocks_in_group, byte_in_group, group_of, group_size, pairs_from}

-- The bytes as `pairs_from` writes them.
abbrev packed : (ℕ → ℕ) → ℕ → ℕ
packed f j = byte_in_group (group_of f (j / group_size)) (j % group_size)

module _ (f g : ℕ → ℕ) (same : (b : ℕ) → b < block_count → f b ≡ g b) where
  group-same : (q : ℕ) → q * blocks_in_group + 3 < block_count → group_of f q ≡ group_of g q
  group-same q h =
      let b = q * blocks_in_group in
      let u : f b ≡ g b = same b (omega arith) in
      let v : f (b + 1) ≡ g (b + 1) = same (b + 1) (omega arith) in
      let w : f (b + 2) ≡ g (b + 2) = same (b + 2) (omega arith) in
      let z : f (b + 3) ≡ g (b + 3) = same (b + 3) (omega arith) in
      rw (u, v, w, z)

  byte-same : (j : ℕ) → j < pairs_size → packed f j ≡ packed g j
  byte-same j h = ap (λ (n : ℕ). byte_in_group n (j % group_size)) (group-same (j / group_size) (omega arith))

  pub from-same : (pairs_from f).0 ≡ (pairs_from g).0
  unfolding pairs_from
  from-same = ext_get_or 0 (tabulate pairs_size (packed f)) (tabulate pairs_size (packed g))
      (length-tabulate pairs_size (packed f) ∙ sym (length-tabulate pairs_size (packed g)))
      (λ j h.
      let k : j < pairs_size = omega (arith, length-tabulate pairs_size (packed f)) in
      at-tabulate pairs_size (packed f) j k ∙ byte-same j k ∙ sym (at-tabulate pairs_size (packed g) j k))
