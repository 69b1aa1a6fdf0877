-- What the converter from before A.7 writes is the image at the length of A.7. By the form the older control bytes, with a serial, are those of the control part
-- that they show, and so are the pairs; a stamp lies behind its card's blocks, so that blocks, control bytes and pairs stay as they were carried. Assumes nothing.
use mathlib.Core.Path.{◌≡◌, ap, ap₂, sym, ◌∙◌}
use mathlib.Core.Bool.{Bool, cond, false, true}
use mathlib.Core.List.{List, []}
use mathlib.Core.Logic.{◌⊎◌, inl, inr}
use mathlib.Core.Option.{some}
use Prim.Native.Nat.{ℕ, ◌+◌, ◌-◌, ◌<◌, ◌≤◌}
use native.Mathlib.Nat.{mod-eq_of_lt}
use native.Mathlib.Omega.{arith}
use lib.ListN.{get_or, length}
use lib.Seq.{ext_get_or}
use Rattle.lists.specs.Segments.{segment, splice}
use Rattle.lists.specs.Tabulate.{tabulate}
use Rattle.lists.proofs.Bools.{and_l, split}
use Rattle.lists.proofs.Segments.{get_or-after, get_or-before, get_or-in, get_or-segment, length-segment, length-splice}
use Rattle.lists.proofs.Tabulate.{at-tabulate, length-tabulate}
use Rattle.image.specs.Layout.{block_address, block_address_of, block_count, block_size, block_start, card_count, control_size, end_start, layout, stamp_size}
use Rattle.image.specs.Layout.{table_start, table_start_of, tail_size, tail_start}
use Rattle.image.specs.Parts.{Whole, block_at}
use Rattle.mask.specs.Masks.{Byte, byte, has_card}
use Rattle.control.specs.ControlBytes.{Part, control_byte, control_of, count_in, last_mask_at, tail_byte, working_at}
use Rattle.control.specs.Stamps.{Stamp, no_stamp, put_stamps, stamp_byte, stamp_of}
use Rattle.control.proofs.Fields.{shown-working}
use Rattle.control.proofs.StampLaws.{stamps-block, stamps-control, stamps-in, stamps-kept, stamps-tail, whole-stamps}
use Rattle.control_form.specs.ControlForm.{form_ok}
use Rattle.control_form.proofs.RoundTrip.{control-back, tail-back}
use Rattle.cabinet_rules.specs.Converting.{first_stamps, older_size, pairs_image_size, stamped_image}
use Rattle.cabinet_rules.specs.Images.{Image, after, block_by, block_in, form_by, tail_by}
use Rattle.cabinet_rules.specs.Retired.{by_tables, converted_serial, pairs_behind, retired_form}
use Rattle.cabinet_rules.proofs.After.{after-ext}
use Rattle.promise.proofs.Laid.{is_block}
use Rattle.converter.specs.Steps.{TablesCarried, shown_front}
use Rattle.converter.proofs.Front.{shown-small}
use Rattle.converter.proofs.TableForm.{now-is}

-- the image of a control part with the older image's blocks
abbrev stamped_by : Image → Part → Image
stamped_by older k = after (control_byte k) (tail_byte k) (λ c b. some (block_by pairs_behind older c b)) (λ c. some (stamp_byte (first_stamps k c))) []

stamped-is : (older : Image) → stamped_image older ≡ stamped_by older (control_of (shown_front (λ n. get_or older n 0)) (tail_by pairs_behind older))
unfolding stamped_image
stamped-is older = ap (stamped_by older) (now-is (λ n. get_or older n 0) (tail_by pairs_behind older))

module _ (older l : Image) (o : length older ≡ pairs_image_size) (form : form_by by_tables older ≡ true) (bytes : (n : ℕ) → get_or older n 0 < 256)
    (T : TablesCarried older card_count l) where
  abbrev s : ℕ → ℕ
  s = shown_front (λ n. get_or older n 0)

  abbrev t : ℕ → ℕ
  t = tail_by pairs_behind older

  abbrev k : Part
  k = control_of s t

  formed : form_ok s t ≡ true
  unfolding retired_form
  formed = and_l (form_ok s t) _ form

  -- ---- as they are written: the pairs, and the control bytes
  abbrev pairs : List ℕ
  pairs = segment older older_size tail_size

  abbrev front : List ℕ
  front = tabulate control_size s

  abbrev tailed : Image
  tailed = splice l tail_start pairs

  abbrev headed : Image
  headed = splice tailed 0 front

  length_pairs : length pairs ≡ tail_size
  length_pairs = length-segment older older_size tail_size (omega (arith, o))

  length_front : length front ≡ control_size
  length_front = length-tabulate control_size s

  tail-room : tail_start + length pairs ≤ length l
  tail-room = omega (arith, length_pairs, T.whole)

  whole-tailed : Whole tailed
  whole-tailed = length-splice l tail_start pairs tail-room ∙ T.whole

  head-room : 0 + length front ≤ length tailed
  head-room = omega (arith, length_front, whole-tailed)

  whole-headed : Whole headed
  whole-headed = length-splice tailed 0 front head-room ∙ whole-tailed

  at-control : (n : ℕ) → n < control_size → get_or headed n 0 ≡ s n
  at-control n h =
      let e : n - 0 ≡ n = omega arith in
      get_or-in tailed 0 front n head-room (omega arith) (omega (arith, length_front)) ∙ ap (λ (i : ℕ). get_or front i 0) e ∙ at-tabulate control_size s n h

  at_tail : (n : ℕ) → n < tail_size → get_or headed (tail_start + n) 0 ≡ t n
  at_tail n h =
      let e : tail_start + n - tail_start ≡ n = omega arith in
      get_or-after tailed 0 front (tail_start + n) head-room (omega (arith, length_front))
      ∙ get_or-in l tail_start pairs (tail_start + n) tail-room (omega arith) (omega (arith, length_pairs)) ∙ ap (λ (i : ℕ). get_or pairs i 0) e
      ∙ get_or-segment older older_size tail_size n h

  at_table : (n : ℕ) → control_size ≤ n → n < tail_start → get_or headed n 0 ≡ get_or l n 0
  at_table n a b = get_or-after tailed 0 front n head-room (omega (arith, length_front)) ∙ get_or-before l tail_start pairs n tail-room b

  -- ---- and the stamps
  module _ (w m : ℕ) (works : w ≡ s working_at) (newest : m ≡ s (last_mask_at (count_in (s 0)))) where
    abbrev stamp : Stamp
    stamp = record { serial = converted_serial; mask = m }

    abbrev out : Image
    out = put_stamps headed (byte w) stamp card_count

    stamp-is : stamp_of k ≡ stamp
    unfolding control_of
    stamp-is = ap (λ (x : ℕ). record { serial = converted_serial; mask = x }) (mod-eq_of_lt (shown-small (λ n. get_or older n 0) bytes (last_mask_at (count_in (s 0)))) ∙ sym newest)

    whole_out : Whole out
    whole_out = whole-stamps headed whole-headed (byte w) stamp card_count (omega arith)

    blocks : (c b : ℕ) → c < card_count → b < block_count → block_in out c b ≡ block_by pairs_behind older c b
    blocks c b hc hb = is_block out whole_out c b hc hb (block_by pairs_behind older c b)
        (stamps-block headed whole-headed (byte w) stamp card_count (omega arith) c hc b hb ∙ carried)
      where
        f : ℕ → ℕ
        f j = get_or older (block_address_of pairs_behind c b + j) 0

        flat : (a j : ℕ) → a + block_start b + j ≡ a + (block_start b + j)
        flat a j = omega arith

        each : (j : ℕ) → j < block_size → get_or headed (block_address c b + j) 0 ≡ f j
        each j h = at_table (block_address c b + j) (omega arith) (omega arith) ∙ ap (λ (n : ℕ). get_or l n 0) (flat (table_start c) j)
            ∙ T.blocks c (block_start b + j) hc (omega arith) ∙ sym (ap (λ (n : ℕ). get_or older n 0) (flat (table_start_of pairs_behind c) j))

        carried : block_at headed c b ≡ tabulate block_size f
        carried = let long = length-segment headed (block_address c b) block_size (omega (arith, whole-headed)) in
            unfold block_at in (ext_get_or 0 (segment headed (block_address c b) block_size) (tabulate block_size f) (long ∙ sym (length-tabulate block_size f))
            (λ j h. get_or-segment headed (block_address c b) block_size j (omega (arith, long)) ∙ each j (omega (arith, long)) ∙ sym (at-tabulate block_size f j (omega (arith, long)))))

    ends : (c j : ℕ) → c < card_count → j < stamp_size → get_or out (end_start c + j) 0 ≡ stamp_byte (first_stamps k c) j
    ends c j hc hj = go (split (has_card (byte w) c)) ∙ ap (λ (x : Stamp). stamp_byte x j) (sym (first-is c))
      where
        first-is : (c : ℕ) → first_stamps k c ≡ cond (has_card (byte w) c) stamp no_stamp
        first-is c = ap₂ (λ (b : Byte) (x : Stamp). cond (has_card b c) x no_stamp) (shown-working s t ∙ ap byte (sym works)) stamp-is

        go : (has_card (byte w) c ≡ true) ⊎ (has_card (byte w) c ≡ false)
            → get_or out (end_start c + j) 0 ≡ stamp_byte (cond (has_card (byte w) c) stamp no_stamp) j
        go (inl e) = stamps-in headed whole-headed (byte w) stamp card_count (omega arith) c hc e j hj
            ∙ sym (ap (λ (b : Bool). stamp_byte (cond b stamp no_stamp) j) e)
        go (inr e) = stamps-kept headed whole-headed (byte w) stamp c hc e j hj ∙ at_table (end_start c + j) (omega arith) (omega arith)
            ∙ T.ends c j hc hj ∙ sym (ap (λ (b : Bool). stamp_byte (cond b stamp no_stamp) j) e)

    stamped-out : out ≡ stamped_image older
    stamped-out = after-ext layout (control_byte k) (tail_byte k) (λ c b. some (block_by pairs_behind older c b)) (λ c. some (stamp_byte (first_stamps k c))) [] out whole_out
        (λ n h. stamps-control headed whole-headed (byte w) stamp n h ∙ at-control n h ∙ sym (control-back s t formed n h))
        (λ n h. stamps-tail headed whole-headed (byte w) stamp n ∙ at_tail n h ∙ sym (tail-back s t formed n h))
        blocks ends
        ∙ sym (stamped-is older)

  -- THE LAW: as the code reads the working cards and the newest mask off the control bytes that it wrote.
  pub carried-is : (f : List ℕ) → f ≡ tabulate control_size (shown_front (λ n. get_or older n 0))
      → put_stamps (splice (splice l tail_start (segment older older_size tail_size)) 0 f) (byte (get_or f working_at 0))
      (record { serial = converted_serial; mask = get_or f (last_mask_at (count_in (get_or f 0 0))) 0 }) card_count ≡ stamped_image older
  carried-is f e =
      ap (λ (x : List ℕ). put_stamps (splice tailed 0 x) (byte (get_or x working_at 0)) (record { serial = converted_serial; mask = get_or x (last_mask_at (count_in (get_or x 0 0))) 0 }) card_count) e
      ∙ stamped-out (get_or front working_at 0) (get_or front (last_mask_at (count_in (get_or front 0 0))) 0) (at-tabulate control_size s working_at (omega arith))
      (at-tabulate control_size s (last_mask_at (count_in (get_or front 0 0))) (omega arith) ∙ ap (λ (x : ℕ). s (last_mask_at (count_in x))) (at-tabulate control_size s 0 (omega arith)))
