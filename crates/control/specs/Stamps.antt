-- The stamp at the end of a card's table: the serial and the mask of the placement that was the last to be added while the
-- card worked. Assumes nothing.
use Rattle.std.specs.Prelude.{Bool, ◌&&◌, cond, List, ℕ, zero, suc, eqb, ltb}
use Rattle.lists.specs.Tabulate.{tabulate}
use Rattle.image.specs.Layout.{stamp_size}
use Rattle.image.specs.Parts.{put_end}
use Rattle.mask.specs.Masks.{Byte, has_card}
use Rattle.control.specs.ControlBytes.{Part, serial_size}
use Rattle.control.specs.Serials.{serial_byte, serial_in}
use Rattle.control.specs.declared.stamps.Stamp.{Stamp as Struct}

pub record Stamp : Type 0 where
  pub serial : ℕ
  pub mask : ℕ

-- That of a card that was fitted; that of the newest placement.
abbrev pub no_stamp : Stamp
no_stamp = record { serial = 0; mask = 0 }

abbrev pub stamp_of : Part → Stamp
stamp_of k = record { serial = k.serial; mask = k.newest.mask.0 }

-- That of the code's struct.
abbrev pub stamp_by : Struct → Stamp
stamp_by s = record { serial = s.serial; mask = s.mask }

-- Byte j of a stamp, and the stamp that bytes show.
unfoldable pub stamp_byte : Stamp → ℕ → ℕ
stamp_byte m j = cond (ltb j serial_size) (serial_byte m.serial j) m.mask

abbrev pub stamp_in : (ℕ → ℕ) → Stamp
stamp_in e = record { serial = serial_in e; mask = e serial_size }

-- The same serial and the same mask.
unfoldable pub same_stamp : Stamp → Stamp → Bool
same_stamp m n = eqb m.serial n.serial && eqb m.mask n.mask

-- The image with another stamp of card c.
unfoldable pub put_stamp : List ℕ → ℕ → Stamp → List ℕ
put_stamp image c m = put_end image c (tabulate stamp_size (stamp_byte m))

-- The image after the cards below n that the mask w names got the stamp.
unfoldable pub put_stamps : List ℕ → Byte → Stamp → ℕ → List ℕ
put_stamps image w m zero = image
put_stamps image w m (suc n) = cond (has_card w n) (put_stamp (put_stamps image w m n) n m) (put_stamps image w m n)
