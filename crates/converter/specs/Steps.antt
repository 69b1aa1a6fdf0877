-- The steps of the converters: what is asked of the bytes before the tables of an image from before A.7, and its tables
-- carried over. Assumes nothing.
use Rattle.std.specs.Prelude.{Bool, ◌&&◌, ◌≡◌, ℕ, ◌+◌, ◌<◌, eqb, get_or}
use Rattle.lists.specs.Segments.{segment, splice}
use Rattle.lists.specs.Tests.{all_below}
use Rattle.image.specs.Layout.{blocks_size, end_start, stamp_size, table_start, table_start_of}
use Rattle.image.specs.Parts.{Whole}
use Rattle.control.specs.ControlBytes.{control_of, serial_at, serial_size}
use Rattle.control.specs.Stamps.{no_stamp, put_stamp, stamp_byte}
use Rattle.control_form.specs.ControlForm.{front_ok}
use Rattle.cabinet_rules.specs.Delivery.{stamp_memory}
use Rattle.cabinet_rules.specs.Images.{Image}
use Rattle.cabinet_rules.specs.Retired.{before_stamps, pairs_behind, shown_bytes}

-- ---- the bytes before the tables
-- What the form in force is shown for them: they get a serial.
abbrev pub shown_front : (ℕ → ℕ) → ℕ → ℕ
shown_front = shown_bytes stamp_memory before_stamps

-- They have none of their own.
unfoldable pub is_unnumbered : (ℕ → ℕ) → Bool
is_unnumbered g = all_below serial_size (λ j. eqb (g (serial_at + j)) 0)

-- What is asked of them, where bytes t are behind the tables.
unfoldable pub older_front_ok : (ℕ → ℕ) → (ℕ → ℕ) → Bool
older_front_ok g t = is_unnumbered g && front_ok (control_of (shown_front g) t) (shown_front g)

-- ---- the tables
-- The image with the older one's blocks of card c, and no stamp of it.
unfoldable pub carry_table : Image → Image → ℕ → Image
carry_table older g c = put_stamp (splice g (table_start c) (segment older (table_start_of pairs_behind c) blocks_size)) c no_stamp

-- So it is of the cards below n.
pub record TablesCarried (older : Image) (n : ℕ) (g : Image) : Type 0 where
  pub whole : Whole g
  pub blocks : (c j : ℕ) → c < n → j < blocks_size → get_or g (table_start c + j) 0 ≡ get_or older (table_start_of pairs_behind c + j) 0
  pub ends : (c j : ℕ) → c < n → j < stamp_size → get_or g (end_start c + j) 0 ≡ stamp_byte no_stamp j
