-- A table that is zeroed is the card's blocks and stamp written empty. Assumes nothing.
use Prim.Native.Nat.{◌+◌, ◌-◌, ◌<◌, ◌≤◌, suc, zero, ℕ}
use borrow.Author.Tests.{ne_eqb}
use lib.Dec.{ltb}
use lib.ListN.{get_or, length}
use mathlib.Core.Bool.{Bool, cond, false, true}
use mathlib.Core.List.{List}
use mathlib.Core.Logic.{◌≢◌, ⊎_elim}
use mathlib.Core.Path.{◌∙◌, ◌≡◌, ap, refl, sym}
use native.Mathlib.Omega.{arith}
use Rattle.lists.proofs.Bools.{eqb-self}
use Rattle.lists.proofs.Cases.{by-eq, lt-or-ge}
use Rattle.lists.proofs.Segments.{get_or-after, get_or-before, get_or-in}
use Rattle.image.specs.Layout.{block_size, block_start, blocks_size, card_count, end_start_of, layout, table_size, table_start, tail_start_of}
use Rattle.image.specs.Parts.{Whole, block_at, put_table, zeros}
use Rattle.image.proofs.Blocks.{byte-of-control, control-put-table, put-table-other, put-table-same, whole-put-table}
use Rattle.image.proofs.Zeros.{length-zeros, zeros-at, zeros-segment}
use Rattle.slot.proofs.Blocks.{zeros-empty}
use Rattle.method.specs.Rules.{clear_card, clear_stamp, updated}
use Rattle.control.specs.ControlBytes.{serial_size}
use Rattle.control.specs.Serials.{serial_byte}
use Rattle.control.specs.Stamps.{no_stamp, stamp_byte}
use Rattle.cabinet_rules.specs.Cabinet.{cabinet}
use Rattle.cabinet_rules.specs.Delivery.{current}
use Rattle.cabinet_rules.specs.Images.{Image, block_in, end_in, end_of, tail_in}
use Rattle.cabinet_rules.proofs.After.{after-ext}
use Rattle.promise.proofs.Laid.{block-is, is_block}
use Rattle.cards.specs.Emptied.{emptied}

-- no stamp is four zero bytes
pub none-byte : (j : ℕ) → stamp_byte no_stamp j ≡ 0
unfolding stamp_byte
none-byte j = go (ltb j serial_size) j
  where
    go : (b : Bool) (j : ℕ) → cond b (serial_byte 0 j) 0 ≡ 0
    go true zero = refl
    go true (suc zero) = refl
    go true (suc (suc j)) = refl
    go false j = refl

module _ (g : Image) (whole : Whole g) (c : ℕ) (hc : c < card_count) where
  abbrev out : Image
  out = put_table g c (zeros table_size)

  long : Whole out
  long = whole-put-table g whole c hc (zeros table_size) (length-zeros table_size)

  fits : table_start c + length (zeros table_size) ≤ length g
  fits = omega (arith, length-zeros table_size)

  tail-kept : (n : ℕ) → n < layout.image_tail → tail_in out n ≡ tail_in g n
  unfolding put_table
  tail-kept n h = get_or-after g (table_start c) (zeros table_size) (tail_start_of layout + n) fits (omega (arith, length-zeros table_size))

  -- the stamp of the card itself, and of another
  own-end : (j : ℕ) → j < layout.table_tail → end_in out c j ≡ 0
  unfolding put_table
  own-end j h = get_or-in g (table_start c) (zeros table_size) (end_start_of layout c + j) fits (omega arith) (omega (arith, length-zeros table_size))
      ∙ ap (λ (i : ℕ). get_or (zeros table_size) i 0) (at (table_start c)) ∙ zeros-at table_size (blocks_size + j) (omega arith)
    where
      at : (a : ℕ) → a + blocks_size + j - a ≡ blocks_size + j
      at a = omega arith

  other-end : (d j : ℕ) → d < card_count → d ≢ c → j < layout.table_tail → end_in out d j ≡ end_in g d j
  unfolding put_table
  other-end d j hd n h = ⊎_elim
      (λ (p : d < c). get_or-before g (table_start c) (zeros table_size) (end_start_of layout d + j) fits (omega arith))
      (λ (p : c ≤ d). get_or-after g (table_start c) (zeros table_size) (end_start_of layout d + j) fits (omega (arith, length-zeros table_size)))
      (lt-or-ge d c)

  pub one_table : out ≡ emptied c g
  unfolding emptied clear_card clear_stamp
  one_table = after-ext layout (λ n. get_or g n 0) (tail_in g) (clear_card cabinet c) (λ d. end_of current (clear_stamp cabinet c d)) g out long
      (λ n h. sym (byte-of-control out n h) ∙ ap (λ (l : List ℕ). get_or l n 0) (control-put-table g whole c hc (zeros table_size) (length-zeros table_size)) ∙ byte-of-control g n h)
      tail-kept
      (λ d b hd hb. is_block out long d b hd hb (updated (clear_card cabinet c d b) (block_in g d b))
      (by-eq (block_at out d b ≡ (updated (clear_card cabinet c d b) (block_in g d b)).0) d c
      (λ e. rw (e, eqb-self c) (put-table-same g whole c hc (zeros table_size) (length-zeros table_size) b hb ∙ zeros-segment table_size (block_start b) block_size (omega arith) ∙ zeros-empty))
      (λ n. rw (ne_eqb d c n) (put-table-other g whole c hc (zeros table_size) (length-zeros table_size) d hd n b hb ∙ sym (block-is g whole d b hd hb)))))
      (λ d j hd hj. by-eq (end_in out d j ≡ updated (end_of current (clear_stamp cabinet c d)) (end_in g d) j) d c
      (λ e. rw (e, eqb-self c) (own-end j hj ∙ sym (none-byte j)))
      (λ n. rw (ne_eqb d c n) (other-end d j hd n hj)))
