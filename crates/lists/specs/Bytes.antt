-- Numbers in bytes, the first byte lowest. Assumes nothing.
use Rattle.std.specs.Prelude.{ℕ, zero, suc, ◌+◌, ◌*◌, ◌^◌}

-- The number whose first k bytes are those that f gives.
unfoldable pub of_bytes : (ℕ → ℕ) → ℕ → ℕ
of_bytes f zero = 0
of_bytes f (suc k) = of_bytes (λ i. f (suc i)) k * 2 ^ 8 + f 0
