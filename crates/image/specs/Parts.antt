-- The parts of an image by the layout in force: its control part, tables and blocks, and an image with other bytes there.
-- Assumes nothing.
use Rattle.std.specs.Prelude.{List, ◌≡◌, ℕ, length, replicate}
use Rattle.lists.specs.Segments.{segment, splice}
use Rattle.image.specs.Layout.{block_address, block_size, control_size, end_start, image_size, table_start}

-- An image of the right length; its control part.
abbrev pub Whole : List ℕ → Type 0
Whole image = length image ≡ image_size

abbrev pub control_bytes : List ℕ → List ℕ
control_bytes image = segment image 0 control_size

-- n zero bytes, and the image with another table of card c: its blocks and its stamp.
unfoldable pub zeros : ℕ → List ℕ
zeros n = replicate n 0

unfoldable pub put_table : List ℕ → ℕ → List ℕ → List ℕ
put_table image c bytes = splice image (table_start c) bytes

-- The image with other bytes behind the blocks of card c.
unfoldable pub put_end : List ℕ → ℕ → List ℕ → List ℕ
put_end image c bytes = splice image (end_start c) bytes

-- The 41 bytes of block b of card c, and the image with other bytes there.
unfoldable pub block_at : List ℕ → ℕ → ℕ → List ℕ
block_at image c b = segment image (block_address c b) block_size

unfoldable pub put_block : List ℕ → ℕ → ℕ → List ℕ → List ℕ
put_block image c b bytes = splice image (block_address c b) bytes
