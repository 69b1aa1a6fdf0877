-- Each return is the number that its test and the tests before it give. Assumes nothing.
use borrow.Author.Tests.{le-ltb, lt-ltb}
use lib.Dec.{ltb}
use native.Mathlib.Omega.{arith}
use Prim.Native.Nat.{ℕ, ◌<◌, ◌≤◌}
use mathlib.Core.Bool.{false, true}
use mathlib.Core.Path.{◌∙◌, ◌≡◌, sym}
use Rattle.image.specs.Layout.{least_members}
use Rattle.mask.specs.Masks.{byte, size}
use Rattle.cards.proofs.Rows.{again-says-9, few-says-9, full-says-10, idle-says-9, room-says-0, spent-says-20, says-4}
use Rattle.cards.proofs.check_place.Goals as goal

-- fewer members than copies, and not
few-at : (m : ℕ) {n : ℕ} → n ≡ size (byte m) → n < least_members → ltb (size (byte m)) least_members ≡ true
few-at m e h = lt-ltb (size (byte m)) least_members (omega (arith, e))

enough-at : (m : ℕ) {n : ℕ} → n ≡ size (byte m) → least_members ≤ n → ltb (size (byte m)) least_members ≡ false
enough-at m e h = le-ltb (size (byte m)) least_members (omega (arith, e))

pub returns-then-k : goal.returns-then-k
returns-then-k c = says-4 c.args.k c.requires c.args.mask c.if-k.true

pub returns-then-members-lt-LEAST_MEMBERS : goal.returns-then-members-lt-LEAST_MEMBERS
returns-then-members-lt-LEAST_MEMBERS c =
    few-says-9 c.args.k c.requires c.args.mask c.if-k.false (few-at c.args.mask c.members.ensures c.if-members-lt-LEAST_MEMBERS.true)

pub returns-then-not-within : goal.returns-then-not-within
returns-then-not-within c =
    -- the mask has members enough
    let usable_at = enough-at c.args.mask c.members.ensures c.if-members-lt-LEAST_MEMBERS.false in
    idle-says-9 c.args.k c.requires c.args.mask c.if-k.false usable_at (sym c.within.ensures ∙ c.if-not-within.true)

pub returns-then-is_again : goal.returns-then-is_again
returns-then-is_again c =
    -- the mask has members enough
    let usable_at = enough-at c.args.mask c.members.ensures c.if-members-lt-LEAST_MEMBERS.false in
    -- all members work
    let works_at = sym c.within.ensures ∙ c.if-not-within.false in
    again-says-9 c.args.k c.requires c.args.mask c.if-k.false usable_at works_at
    (sym c.is_again.ensures ∙ c.if-is_again.true)

pub returns-then-k-ge-MOST_PLACED : goal.returns-then-k-ge-MOST_PLACED
returns-then-k-ge-MOST_PLACED c =
    -- the mask has members enough
    let usable_at = enough-at c.args.mask c.members.ensures c.if-members-lt-LEAST_MEMBERS.false in
    -- all members work
    let works_at = sym c.within.ensures ∙ c.if-not-within.false in
    full-says-10 c.args.k c.requires c.args.mask c.if-k.false usable_at works_at
    (sym c.is_again.ensures ∙ c.if-is_again.false) c.if-k-ge-MOST_PLACED.true

pub returns-then-k-ge-LIMIT : goal.returns-then-k-ge-LIMIT
returns-then-k-ge-LIMIT c =
    -- the mask has members enough
    let usable_at = enough-at c.args.mask c.members.ensures c.if-members-lt-LEAST_MEMBERS.false in
    -- all members work
    let works_at = sym c.within.ensures ∙ c.if-not-within.false in
    spent-says-20 c.args.k c.requires c.args.mask c.if-k.false usable_at works_at
    (sym c.is_again.ensures ∙ c.if-is_again.false) c.if-k-ge-MOST_PLACED.false c.if-k-ge-LIMIT.true

pub returns : goal.returns
returns c =
    -- the mask has members enough
    let usable_at = enough-at c.args.mask c.members.ensures c.if-members-lt-LEAST_MEMBERS.false in
    -- all members work
    let works_at = sym c.within.ensures ∙ c.if-not-within.false in
    room-says-0 c.args.k c.requires c.args.mask c.if-k.false usable_at works_at
    (sym c.is_again.ensures ∙ c.if-is_again.false) c.if-k-ge-MOST_PLACED.false c.if-k-ge-LIMIT.false
