-- Tables carried over: a card's table lies in no other card's, so each card added leaves those before it alone. Assumes nothing.
use mathlib.Core.Path.{◌≡◌, ap, sym, ◌∙◌}
use mathlib.Core.Logic.{inl, ⊎_elim}
use mathlib.Core.List.{List}
use Prim.Native.Nat.{ℕ, ◌+◌, ◌-◌, ◌<◌, ◌≤◌}
use native.Mathlib.Omega.{arith}
use lib.ListN.{get_or, length}
use Rattle.lists.specs.Segments.{segment, splice}
use Rattle.lists.proofs.Cases.{lt-or-ge}
use Rattle.lists.proofs.Segments.{get_or-before, get_or-in, get_or-segment, length-segment, length-splice}
use Rattle.image.specs.Layout.{blocks_size, card_count, end_start, stamp_size, table_start, table_start_of}
use Rattle.image.specs.Parts.{Whole}
use Rattle.control.specs.Stamps.{no_stamp, stamp_byte}
use Rattle.control.proofs.StampLaws.{stamp-in, stamp-out, whole-stamp}
use Rattle.cabinet_rules.specs.Converting.{pairs_image_size}
use Rattle.cabinet_rules.specs.Images.{Image}
use Rattle.cabinet_rules.specs.Retired.{pairs_behind}
use Rattle.converter.specs.Steps.{TablesCarried, carry_table}

-- ---- one card's
module _ (older : Image) (o : length older ≡ pairs_image_size) (g : Image) (w : Whole g) (c : ℕ) (hc : c < card_count) where
  abbrev from : ℕ
  from = table_start_of pairs_behind c

  abbrev blocks : List ℕ
  blocks = segment older from blocks_size

  abbrev put : Image
  put = splice g (table_start c) blocks

  length-blocks : length blocks ≡ blocks_size
  length-blocks = length-segment older from blocks_size (omega (arith, o))

  room : table_start c + length blocks ≤ length g
  room = omega (arith, length-blocks, w)

  whole-put : Whole put
  whole-put = length-splice g (table_start c) blocks room ∙ w

  whole-carried : Whole (carry_table older g c)
  unfolding carry_table
  whole-carried = whole-stamp put whole-put c hc no_stamp

  carried-blocks : (j : ℕ) → j < blocks_size → get_or (carry_table older g c) (table_start c + j) 0 ≡ get_or older (table_start_of pairs_behind c + j) 0
  unfolding carry_table
  carried-blocks j h =
      let e : table_start c + j - table_start c ≡ j = omega arith in
      stamp-out put whole-put c hc no_stamp (table_start c + j) (inl (omega arith))
      ∙ get_or-in g (table_start c) blocks (table_start c + j) room (omega arith) (omega (arith, length-blocks))
      ∙ ap (λ (i : ℕ). get_or blocks i 0) e ∙ get_or-segment older from blocks_size j h

  carried-end : (j : ℕ) → j < stamp_size → get_or (carry_table older g c) (end_start c + j) 0 ≡ stamp_byte no_stamp j
  unfolding carry_table
  carried-end j h = stamp-in put whole-put c hc no_stamp j h

  carried-before : (n : ℕ) → n < table_start c → get_or (carry_table older g c) n 0 ≡ get_or g n 0
  unfolding carry_table
  carried-before n h = stamp-out put whole-put c hc no_stamp n (inl (omega arith)) ∙ get_or-before g (table_start c) blocks n room h

-- ---- those of the cards below n
module _ (older : Image) (o : length older ≡ pairs_image_size) where
  pub none-carried : (g : Image) → Whole g → TablesCarried older 0 g
  none-carried g w = record { whole = w; blocks = λ c j h b. absurd (omega arith); ends = λ c j h b. absurd (omega arith) }

  pub one-carried : (n : ℕ) → n < card_count → (g : Image) → TablesCarried older n g → TablesCarried older (n + 1) (carry_table older g n)
  one-carried n hn g t = record {
    whole = whole-carried older o g w n hn;
    blocks = λ c j h b. ⊎_elim
        (λ (p : c < n). carried-before older o g w n hn (table_start c + j) (omega arith) ∙ t.blocks c j p b)
        (λ (p : n ≤ c). let e : n ≡ c = omega arith in
        ap (λ (d : ℕ). get_or (carry_table older g n) (table_start d + j) 0) (sym e) ∙ carried-blocks older o g w n hn j b
        ∙ ap (λ (d : ℕ). get_or older (table_start_of pairs_behind d + j) 0) e) (lt-or-ge c n);
    ends = λ c j h b. ⊎_elim
        (λ (p : c < n). carried-before older o g w n hn (end_start c + j) (omega arith) ∙ t.ends c j p b)
        (λ (p : n ≤ c). let e : n ≡ c = omega arith in
        ap (λ (d : ℕ). get_or (carry_table older g n) (end_start d + j) 0) (sym e) ∙ carried-end older o g w n hn j b) (lt-or-ge c n);
  }
    where
      w : Whole g
      w = t.whole
