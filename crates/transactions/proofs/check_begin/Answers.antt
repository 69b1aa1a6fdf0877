-- Each return is the row that its test and the tests before it leave. Assumes nothing.
use Prim.Native.Nat.{ℕ}
use mathlib.Core.Bool.{Bool}
use mathlib.Core.Path.{◌∙◌, ◌≡◌, ap, sym}
use borrow.Author.Tests.{le-ltb, lt-ltb}
use Rattle.mask.specs.Masks.{byte, has_card}
use Rattle.method.specs.Rules.{refusal}
use Rattle.control.specs.Meaning.{meaning, newest_mask}
use Rattle.control.specs.declared.Control.{Control}
use Rattle.promise.proofs.SharedRows.{tran-range}
use Rattle.transactions.specs.Transactions.{begin_rows}
use Rattle.transactions.proofs.check_begin.Goals as goal

-- Whether the newest placement has card h, by its mask.
has-newest : (k : Control) (h : ℕ) {m : ℕ} (on : Bool) → m ≡ newest_mask k → on ≡ has_card (byte m) h → has_card (byte (newest_mask k)) h ≡ on
has-newest k h on e f = sym (f ∙ ap (λ (x : ℕ). has_card (byte x) h) e)

pub returns-then-not-is_tran : goal.returns-then-not-is_tran
unfolding begin_rows refusal
returns-then-not-is_tran c = rw (sym c.is_tran.ensures ∙ c.if-not-is_tran.true)

pub returns-then-home-ge-CARD_COUNT : goal.returns-then-home-ge-CARD_COUNT
unfolding begin_rows refusal
returns-then-home-ge-CARD_COUNT c =
    rw (sym c.is_tran.ensures ∙ c.if-not-is_tran.false, le-ltb _ _ c.if-home-ge-CARD_COUNT.true)

pub returns-then-k : goal.returns-then-k
unfolding begin_rows refusal meaning
returns-then-k c =
    rw (sym c.is_tran.ensures ∙ c.if-not-is_tran.false, lt-ltb _ _ c.if-home-ge-CARD_COUNT.false, c.if-k.true)

pub is_open-requires : goal.is_open-requires
is_open-requires c =
    tran-range _ (sym c.is_tran.ensures ∙ c.if-not-is_tran.false)

pub returns-then-is_open : goal.returns-then-is_open
unfolding begin_rows refusal meaning
returns-then-is_open c =
    rw (
      sym c.is_open.ensures ∙ c.if-is_open.true,
      sym c.is_tran.ensures ∙ c.if-not-is_tran.false,
      lt-ltb _ _ c.if-home-ge-CARD_COUNT.false,
      c.if-k.false,
    )

pub returns-then-not-has : goal.returns-then-not-has
unfolding begin_rows refusal meaning
returns-then-not-has c =
    rw (
      sym c.is_open.ensures ∙ c.if-is_open.false,
      sym c.is_tran.ensures ∙ c.if-not-is_tran.false,
      lt-ltb _ _ c.if-home-ge-CARD_COUNT.false,
      c.if-k.false,
      has-newest c.args.k _ _ c.newest_mask.ensures c.has.ensures ∙ c.if-not-has.true,
    )

pub returns : goal.returns
unfolding begin_rows refusal meaning
returns c =
    rw (
      sym c.is_open.ensures ∙ c.if-is_open.false,
      sym c.is_tran.ensures ∙ c.if-not-is_tran.false,
      lt-ltb _ _ c.if-home-ge-CARD_COUNT.false,
      c.if-k.false,
      has-newest c.args.k _ _ c.newest_mask.ensures c.has.ensures ∙ c.if-not-has.false,
    )
