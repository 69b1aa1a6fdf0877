-- The end of transactions in all tables: the loop of the code, and the rules' commit, rollback and fail. Assumes nothing.
use Prim.Native.Nat.{◌%◌, ◌*◌, ◌+◌, ◌-◌, ◌/◌, ◌<◌, ◌≤◌, ℕ}
use native.Mathlib.Nat.{div-eq_of_lt}
use native.Mathlib.Omega.{arith}
use lib.Dec.{eqb, ltb}
use lib.ListN.{get_or, length}
use lib.Pow.{pow_pos}
use mathlib.Core.Bool.{Bool, ◌&&◌, cond, false, not, true}
use mathlib.Core.List.{List}
use mathlib.Core.Option.{Option, none, some}
use mathlib.Core.Path.{◌∙◌, ◌≡◌, ap, fun_ext, refl, sym}
use Rattle.lists.specs.Segments.{Keeps, each, segment, within}
use Rattle.lists.proofs.Counts.{none_below}
use Rattle.lists.proofs.Each.{each_after, each-before, each_in, length-each}
use Rattle.lists.proofs.Segments.{get-get, get_or-segment, length-segment, put-get}
use Rattle.image.specs.Layout.{block_count, block_size, block_start, blocks_size, card_count, control_size, layout}
use Rattle.image.specs.Parts.{Whole, block_at}
use Rattle.image.specs.Layout.{slot_count, slot_size, slot_start, table_size, table_start, tail_start_of, tran_bound}
use Rattle.image.proofs.Blocks.{byte-of-control}
use Rattle.mask.specs.Masks.{Byte, has_card, without_card}
use Rattle.mask.proofs.Masks.{has-without}
use Rattle.slot.specs.Blocks.{BlockBytes, any_picked, block_of_bytes, byte_in, byte_of, empty_block, end_slots, ended_block, ended_byte, in_set, is_held}
use Rattle.slot.specs.Blocks.{is_picked, slot_at, word_at}
use Rattle.slot.specs.Words.{freed_slot, word_of}
use Rattle.slot.proofs.Blocks.{end_none, held-empty}
use Rattle.slot.proofs.Ends.{length-ended}
use Rattle.slot.proofs.Words.{slot-in-range}
use Rattle.method.specs.Rules.{drop_held, end_held, look, updated}
use Rattle.cabinet_rules.specs.Cabinet.{cabinet}
use Rattle.cabinet_rules.specs.Images.{Image, block_in, control_in, end_in, state_in, tail_in}
use Rattle.promise.specs.Laid.{laid}
use Rattle.promise.proofs.Laid.{block-is, laid-ext, laid_none, laid_same, of-block}
use Rattle.promise.proofs.View.{look_is}
use Rattle.tables.specs.Tables.{end_writes, ended_on, ended_table, set_of}
use Rattle.tables.proofs.Sets.{in-set-of}

-- a byte, as a part of length 1
byte-alone : (l : List ℕ) (n : ℕ) → get_or (segment l n 1) 0 0 ≡ get_or l n 0
byte-alone l n = get_or-segment l n 1 0 (omega arith) ∙ ap (λ (m : ℕ). get_or l m 0) here
  where
    here : n + 0 ≡ n
    here = omega arith

-- ---- one table, block by block
module _ (take : Bool) (f : ℕ → Bool) where
  abbrev pub block_wise : ℕ → List ℕ → List ℕ
  block_wise b = ended_block take f

  pub keeps-block : (b : ℕ) → Keeps block_size (block_wise b)
  keeps-block b = length-ended take f

  pub keeps-table : Keeps table_size (ended_table take f)
  unfolding ended_table
  keeps-table l n = length-each block_wise 0 block_size keeps-block l block_count (omega arith) ∙ n

  pub keeps_on : (on : Bool) → Keeps table_size (ended_on on take f)
  keeps_on true = keeps-table
  keeps_on false = λ l n. n

  -- a block of the table
  pub block-ended : (on : Bool) (l : List ℕ) → length l ≡ table_size → (b : ℕ) → b < block_count
      → segment (ended_on on take f l) (block_start b) block_size ≡ cond on (ended_block take f (segment l (block_start b) block_size)) (segment l (block_start b) block_size)
  unfolding ended_table
  block-ended true l n b h =
      let e : 0 + b * block_size ≡ block_start b = omega arith in
      ap (λ (a : ℕ). segment (each block_wise 0 block_size block_count l) a block_size) (sym e)
      ∙ each_in block_wise 0 block_size keeps-block l block_count (omega arith) b h
      ∙ ap (λ (a : ℕ). ended_block take f (segment l a block_size)) e
  block-ended false l n b h = refl

  -- what lies behind the blocks of the table
  pub end_kept : (on : Bool) (l : List ℕ) → length l ≡ table_size → (j : ℕ) → j < layout.table_tail
      → get_or (ended_on on take f l) (blocks_size + j) 0 ≡ get_or l (blocks_size + j) 0
  unfolding ended_table
  end_kept true l n j h =
      sym (byte-alone (each block_wise 0 block_size block_count l) (blocks_size + j))
      ∙ ap (λ (s : List ℕ). get_or s 0 0) (each_after block_wise 0 block_size keeps-block l block_count (omega arith) (blocks_size + j) 1 (omega arith) (omega arith))
      ∙ byte-alone l (blocks_size + j)
  end_kept false l n j h = refl

  -- a card that is on, and one that is off
  pub card-on : (g : Image) (a : ℕ) (on : Bool) → on ≡ true → within g a table_size (ended_table take f) ≡ within g a table_size (ended_on on take f)
  card-on g a on e = rw e

  pub card-off : (g : Image) (a : ℕ) (on : Bool) → on ≡ false → a + table_size ≤ length g → g ≡ within g a table_size (ended_on on take f)
  unfolding within
  card-off g a on e h = rw e (sym (put-get g a table_size h))

-- ---- all tables, card by card
module _ (working : Byte) (take : Bool) (f : ℕ → Bool) where
  abbrev pub card_wise : ℕ → List ℕ → List ℕ
  card_wise c = ended_on (has_card working c) take f

  keeps-card : (c : ℕ) → Keeps table_size (card_wise c)
  keeps-card c = keeps_on take f (has_card working c)

  abbrev pub up_to : ℕ → Image → Image
  up_to c g = each card_wise control_size table_size c g

  module _ (g : Image) (long : Whole g) where
    abbrev out : Image
    out = up_to card_count g

    long-out : Whole out
    long-out = length-each card_wise control_size table_size keeps-card g card_count (omega arith) ∙ long

    control-out : (n : ℕ) → n < control_size → get_or out n 0 ≡ get_or g n 0
    control-out n h = sym (byte-of-control out n h)
        ∙ ap (λ (l : List ℕ). get_or l n 0) (each-before card_wise control_size table_size keeps-card g card_count (omega arith) 0 control_size (omega arith))
        ∙ byte-of-control g n h

    block_out : (c b : ℕ) → c < card_count → b < block_count → block_at out c b ≡ cond (has_card working c) (ended_block take f (block_at g c b)) (block_at g c b)
    unfolding block_at
    block_out c b hc hb =
        let t : ℕ = table_start c in
        let in-out : segment (segment out t table_size) (block_start b) block_size ≡ segment out (t + block_start b) block_size =
        get-get out t table_size (block_start b) block_size (omega (arith, long-out)) (omega arith) in
        let in_g : segment (segment g t table_size) (block_start b) block_size ≡ segment g (t + block_start b) block_size =
        get-get g t table_size (block_start b) block_size (omega arith) (omega arith) in
        sym in-out
        ∙ ap (λ (l : List ℕ). segment l (block_start b) block_size) (each_in card_wise control_size table_size keeps-card g card_count (omega arith) c hc)
        ∙ block-ended take f (has_card working c) (segment g t table_size) (length-segment g t table_size (omega arith)) b hb
        ∙ ap (λ (l : List ℕ). cond (has_card working c) (ended_block take f l) l) in_g

    written : (on : Bool) (c b : ℕ) → c < card_count → b < block_count
        → cond on (ended_block take f (block_at g c b)) (block_at g c b) ≡ (updated (cond (on && is_held (block_in g c b)) (some (end_slots take f (block_in g c b))) none) (block_in g c b)).0
    unfolding ended_block
    written false c b hc hb = sym (block-is g long c b hc hb)
    written true c b hc hb = ap (λ (x : BlockBytes). cond (is_held x) (end_slots take f x).0 (block_at g c b)) (of-block g long c b hc hb) ∙ go (is_held (block_in g c b))
      where
        go : (h : Bool) → cond h (end_slots take f (block_in g c b)).0 (block_at g c b) ≡ (updated (cond h (some (end_slots take f (block_in g c b))) none) (block_in g c b)).0
        go true = refl
        go false = sym (block-is g long c b hc hb)

    tail-out : (n : ℕ) → n < layout.image_tail → tail_in out n ≡ tail_in g n
    tail-out n h =
        sym (byte-alone out (tail_start_of layout + n))
        ∙ ap (λ (s : List ℕ). get_or s 0 0)
        (each_after card_wise control_size table_size keeps-card g card_count (omega arith) (tail_start_of layout + n) 1 (omega arith) (omega (arith, long)))
        ∙ byte-alone g (tail_start_of layout + n)

    end-out : (c j : ℕ) → c < card_count → j < layout.table_tail → end_in out c j ≡ end_in g c j
    end-out c j hc hj =
        let t : ℕ = table_start c in
        ap (λ (n : ℕ). get_or out n 0) (flat t j)
        ∙ sym (get_or-segment out t table_size (blocks_size + j) (omega arith))
        ∙ ap (λ (s : List ℕ). get_or s (blocks_size + j) 0) (each_in card_wise control_size table_size keeps-card g card_count (omega arith) c hc)
        ∙ end_kept take f (has_card working c) (segment g t table_size) (length-segment g t table_size (omega arith)) j hj
        ∙ get_or-segment g t table_size (blocks_size + j) (omega arith)
        ∙ sym (ap (λ (n : ℕ). get_or g n 0) (flat t j))
      where
        flat : (t j : ℕ) → t + blocks_size + j ≡ t + (blocks_size + j)
        flat t j = omega arith

    pub all-ended : up_to card_count g ≡ laid (end_writes working take f g) g
    unfolding end_writes
    all-ended = laid-ext (end_writes working take f g) g out long-out control-out tail-out
        (λ c b hc hb. block_out c b hc hb ∙ written (has_card working c) c b hc hb)
        end-out

-- ---- nothing is picked: nothing changes
pub none-ended : (working : Byte) (take : Bool) (set : ℕ) (g : Image) → Whole g → set ≡ 0 → g ≡ laid (end_writes working take (in_set set) g) g
unfolding end_writes
none-ended working take set g long e = laid_none (λ c b. none) g long (λ c b hc hb. refl)
    ∙ laid_same (λ c b. none) g (end_writes working take (in_set set) g) (λ c b hc hb. go (has_card working c && is_held (block_in g c b)) (block_in g c b))
  where
    out : (t : ℕ) → in_set set t ≡ false
    out t = unfold in_set in (rw e (ap (λ (m : ℕ). eqb (m % 2) 1) (div-eq_of_lt (pow_pos t))))

    idle : (x : BlockBytes) → any_picked (in_set set) x ≡ false
    idle x = unfold any_picked in (none_below slot_count (is_picked (in_set set) x) (λ i h. out (slot_at x i).lock))

    go : (on : Bool) (x : BlockBytes) → x ≡ updated (cond on (some (end_slots take (in_set set) x)) none) x
    go true x = sym (end_none take (in_set set) x (idle x))
    go false x = refl

-- ---- a lock is below 16: only there does it matter which transactions are picked
pub end_same : (take : Bool) (f h : ℕ → Bool) → ((t : ℕ) → t < tran_bound → f t ≡ h t) → (x : BlockBytes) → end_slots take f x ≡ end_slots take h x
unfolding end_slots ended_byte
end_same take f h e x = ap block_of_bytes (fun_ext (λ j.
    ap (λ (p : Bool). cond (ltb 0 j && p) (byte_of (word_of (freed_slot take (slot_at x ((j - 1) / slot_size)))) (j - slot_start ((j - 1) / slot_size))) (byte_in x j))
    (e (slot_at x ((j - 1) / slot_size)).lock (slot-in-range (word_at x ((j - 1) / slot_size))).lock-fits)))

pub ends_same : (working : Byte) (take : Bool) (f h : ℕ → Bool) → ((t : ℕ) → t < tran_bound → f t ≡ h t) → (g : Image)
    → laid (end_writes working take f g) g ≡ laid (end_writes working take h g) g
unfolding end_writes
ends_same working take f h e g = laid_same (end_writes working take f g) g (end_writes working take h g) (λ c b hc hb.
    ap (λ (x : BlockBytes). updated (cond (has_card working c && is_held (block_in g c b)) (some x) none) (block_in g c b)) (end_same take f h e (block_in g c b)))

-- ---- the rules: what f picks ends on the working cards, and on those but one
module _ (g : Image) (f : ℕ → Bool) where
  abbrev seen : ℕ → ℕ → BlockBytes
  seen = look cabinet (state_in g)

  abbrev working : Byte
  working = (control_in g).working

  -- a working card shows its block, another an empty one
  shown-end : (take on : Bool) (x : BlockBytes) → cond (is_held (cond on x empty_block)) (some (end_slots take f (cond on x empty_block))) none
      ≡ cond (on && is_held x) (some (end_slots take f x)) none
  shown-end take true x = refl
  shown-end take false x = rw held-empty

  shown-drop : (on other : Bool) (x : BlockBytes) → cond (is_held (cond on x empty_block) && other) (some (end_slots false f (cond on x empty_block))) none
      ≡ cond ((on && other) && is_held x) (some (end_slots false f x)) none
  shown-drop true other x = ap (λ (t : Bool). cond t (some (end_slots false f x)) none) (swap (is_held x) other)
    where
      swap : (a b : Bool) → (a && b) ≡ (b && a)
      swap true true = refl
      swap true false = refl
      swap false true = refl
      swap false false = refl
  shown-drop false other x = rw held-empty

  -- commit, rollback
  pub ends_held : (take : Bool) → laid (end_writes working take f g) g ≡ laid (end_held cabinet take f seen) g
  unfolding end_writes end_held
  ends_held take = laid_same (end_writes working take f g) g (end_held cabinet take f seen) (λ c b hc hb.
      ap (λ (o : Option BlockBytes). updated o (block_in g c b))
      (sym (ap (λ (x : BlockBytes). cond (is_held x) (some (end_slots take f x)) none) (look_is g c b hb) ∙ shown-end take (has_card working c) (block_in g c b))))

  -- fail
  pub drops-held : (out : ℕ) → laid (end_writes (without_card working out) false f g) g ≡ laid (drop_held cabinet f out seen) g
  unfolding end_writes drop_held
  drops-held out = laid_same (end_writes (without_card working out) false f g) g (drop_held cabinet f out seen) (λ c b hc hb.
      ap (λ (o : Option BlockBytes). updated o (block_in g c b))
      (ap (λ (t : Bool). cond (t && is_held (block_in g c b)) (some (end_slots false f (block_in g c b))) none) (has-without working out c)
      ∙ sym (ap (λ (x : BlockBytes). cond (is_held x && not (eqb c out)) (some (end_slots false f x)) none) (look_is g c b hb) ∙ shown-drop (has_card working c) (not (eqb c out)) (block_in g c b))))

  -- the same with the set of what f picks
  pub ends_set : (take : Bool) → laid (end_writes working take (in_set (set_of f)) g) g ≡ laid (end_held cabinet take f seen) g
  ends_set take = ends_same working take (in_set (set_of f)) f (in-set-of f) g ∙ ends_held take

  pub drops-set : (out : ℕ) → laid (end_writes (without_card working out) false (in_set (set_of f)) g) g ≡ laid (drop_held cabinet f out seen) g
  drops-set out = ends_same (without_card working out) false (in_set (set_of f)) f (in-set-of f) g ∙ drops-held out
