-- Serials: a placement's number, 1 at a start and one more for each placement added, so that of two placements the one
-- with the higher serial is the newer. These numbers stand here and nowhere else. Assumes nothing.
use Rattle.std.specs.Prelude.{ℕ, zero, suc, ◌+◌, ◌*◌, ◌/◌, ◌%◌}
use Rattle.image.specs.Layout.{card_count}

-- A serial has 24 bits.
abbrev pub serial_bound : ℕ
serial_bound = 16777216

-- That of a start's placement.
abbrev pub first_serial : ℕ
first_serial = 1

-- A placement is refused from this serial on.
abbrev pub serial_limit : ℕ
serial_limit = 16777000

-- The most that a serial may be with the newest placement's members added. A place leaves at most this, and a failure,
-- which adds a placement of one member fewer, does not change the sum.
abbrev pub serial_most : ℕ
serial_most = serial_limit + card_count

-- Byte j of a serial, the most significant first.
abbrev pub serial_byte : ℕ → ℕ → ℕ
serial_byte ν zero = ν / 65536 % 256
serial_byte ν (suc zero) = ν / 256 % 256
serial_byte ν (suc (suc j)) = ν % 256

-- The serial that three bytes show.
abbrev pub serial_in : (ℕ → ℕ) → ℕ
serial_in f = f 0 * 65536 + f 1 * 256 + f 2
