-- The promise of a move: the image that it leaves is that of the rules' write, and the copies are those that were written. Assumes nothing.
use Prim.Native.Nat.{◌<◌, ℕ}
use mathlib.Core.Bool.{Bool, ◌&&◌, cond, not}
use mathlib.Core.List.{List}
use mathlib.Core.Option.{Option}
use mathlib.Core.Path.{◌∙◌, ◌≡◌, ap, ap₂, fun_ext, refl, sym}
use Rattle.lists.specs.Tests.{count_not, elem}
use Rattle.lists.proofs.Bools.{and_in, and_l, and_r, same_test}
use Rattle.lists.proofs.Lists.{elem-keep, keep-elem}
use Rattle.image.specs.Layout.{block_count, block_size, card_count}
use Rattle.image.specs.Parts.{block_at, put_block, zeros}
use Rattle.mask.specs.Masks.{AreMembers, byte, has_card, members}
use Rattle.mask.specs.Placements.{is_site}
use Rattle.mask.proofs.Masks.{elem-members, has-card}
use Rattle.mask.proofs.SiteLaws.{site-distinct}
use Rattle.mask.proofs.SiteMasks.{count-members}
use Rattle.slot.specs.Blocks.{BlockBytes, empty_block, is_held}
use Rattle.slot.proofs.Blocks.{zeros-empty}
use Rattle.method.specs.Rules.{act, copied, move, move_writes, newest_sites, updated, writing}
use Rattle.control.specs.declared.Control.{Control}
use Rattle.cabinet_rules.specs.Cabinet.{cabinet}
use Rattle.cabinet_rules.specs.Images.{Image, Writes, block_in, control_in}
use Rattle.promise.specs.Given.{Given, rows_on, view_of}
use Rattle.std.specs.Prelude.{Ok}
use Rattle.promise.specs.Promise.{Done}
use Rattle.promise.specs.declared.Answer.TheVariants.{Copied}
use Rattle.promise.proofs.Finish.{by_blocks, form-good, given-whole}
use Rattle.promise.specs.Laid.{laid}
use Rattle.promise.proofs.Laid.{block-is, laid_same}
use Rattle.promise.proofs.PutEach.{put-cards, put_each}
use Rattle.promise.proofs.View.{look-on, newest-usable}
use Rattle.trail.specs.Trail.{holds_at}
use Rattle.trail.proofs.Holding.{holds-seen}
use Rattle.reorganise.proofs.MoveRows.{accepted}
use Rattle.reorganise.proofs.MoveWrites.{all_filled, fill-laid, filled_is, lacking, sites_filled}

module _ (k : Control) (g : Image) (is : Given k g) (c b : ℕ) (ok : 0 ≡ rows_on (move c b) g) (m : ℕ) (at : AreMembers m (is_site (control_in g).newest b)) where
  hc : c < card_count
  hc = (accepted g c b ok).0

  hb : b < block_count
  hb = (accepted g c b ok).1

  seen-origin : view_of g c b ≡ block_in g c b
  seen-origin = look-on g c b (accepted g c b ok).2 hb

  abbrev sites : List ℕ
  sites = newest_sites cabinet (control_in g) b

  site-is : (d : ℕ) → has_card (byte m) d ≡ elem d sites
  site-is d = at d

  abbrev holds : ℕ → Bool
  holds d = is_held (view_of g d b)

  -- a card is a site that lacks the block
  lacks : (d : ℕ) → elem d (lacking holds (members (byte m))) ≡ (elem d sites && not (holds d))
  lacks d = same_test _ _
      (λ h. let p = elem-keep (λ e. not (holds e)) d (members (byte m)) h in and_in (elem d sites) (not (holds d)) (sym (elem-members (byte m) d ∙ site-is d) ∙ p.1) p.0)
      (λ h. keep-elem (λ e. not (holds e)) d (members (byte m)) (and_r (elem d sites) _ h) (elem-members (byte m) d ∙ site-is d ∙ and_l (elem d sites) _ h))

  filled-laid : (stays : Bool) → stays ≡ elem c sites → let l = put_each b (block_in g c b).0 (lacking holds (members (byte m))) g in
      cond stays l (put_block l c b (zeros block_size)) ≡ laid (move_writes cabinet (control_in g) (view_of g) c b) g
  filled-laid stays e =
      ap₂ (λ (t : Bool) (l : Image). cond t l (put_block l c b (zeros block_size))) e
      (put-cards g (given-whole is) b hb (block_in g c b) (lacking holds (members (byte m))) (λ d h. has-card (byte m) d (site-is d ∙ and_l (elem d sites) _ (sym (lacks d) ∙ h))) _ lacks)
      ∙ ap (λ (z : List ℕ). cond (elem c sites) (laid w g) (put_block (laid w g) c b z)) zeros-empty
      ∙ fill-laid (elem c sites) w g c b hc hb empty_block
      ∙ laid_same (all_filled g (control_in g) (view_of g) c b seen-origin) g (move_writes cabinet (control_in g) (view_of g) c b)
      (λ d e hd he. ap (λ (o : Option BlockBytes). updated o (block_in g d e)) (filled_is g (control_in g) (view_of g) c b seen-origin d e))
    where
      w : Writes
      w = sites_filled g (control_in g) (view_of g) c b seen-origin

  -- the call, from the code's tests and what it left
  pub move-done : (stays : Bool) (x : List ℕ) (n : ℕ) (out : Image) → stays ≡ has_card (byte m) c → x ≡ block_at g c b
      → n ≡ count_not (holds_at g (byte k.working) b) (members (byte m))
      → (let l = put_each b x (lacking (holds_at g (byte k.working) b) (members (byte m))) g in out ≡ cond stays l (put_block l c b (zeros block_size)))
      → Done (move c b) g (Ok (Copied n)) out
  unfolding act
  move-done stays x n out s e count o =
      by_blocks (move c b) refl g is.formed (Copied n) (move_writes cabinet (control_in g) (view_of g) c b) out ok
      (ap (λ (j : ℕ). writing cabinet (copied j) (control_in g) (move_writes cabinet (control_in g) (view_of g) c b)) (sym copies))
      (o ∙ ap₂ (λ (f : ℕ → Bool) (y : List ℕ). let l = put_each b y (lacking f (members (byte m))) g in cond stays l (put_block l c b (zeros block_size))) same bytes
      ∙ filled-laid stays (s ∙ site-is c))
    where
      same : holds_at g (byte k.working) b ≡ holds
      same = fun_ext (λ d. holds-seen k g is b d hb)

      bytes : x ≡ (block_in g c b).0
      bytes = e ∙ sym (block-is g (given-whole is) c b hc hb)

      copies : n ≡ count_not holds sites
      copies = count ∙ ap (λ (f : ℕ → Bool). count_not f (members (byte m))) same
          ∙ count-members m sites holds (site-distinct (control_in g).newest b (newest-usable g (form-good g is.formed)) hb) site-is
