-- `run` meets its contract: a turn puts one line more. Assumes nothing.
use mathlib.Core.Path.{◌∙◌, ◌≡◌, ap, refl, subst, sym}
use Prim.Native.Nat.{◌*◌, ◌+◌, ◌-◌, ◌≤◌, min, zero-le, ℕ}
use native.Mathlib.Omega.{arith}
use lib.ListN.{drop, length, length-drop}
use borrow.Author.Rules.{rules}
use Rattle.std.specs.Iterator.Adapters.{enumerate_count, enumerate_source}
use Rattle.std.specs.Slice.Iter.{chunks_rest}
use borrow.Rule.Slice.PartMut.{mid_of, put_mid}
use Rattle.lines.specs.Lines.{longest_line}
use Rattle.lines.specs.Text.{Puts}
use Rattle.command.specs.Commands.{command_size}
use Rattle.listing.specs.Listing.{Stepped, command_count, image_behind, listing}
use Rattle.lines.proofs.Puts.{puts_none}
use Rattle.listing.proofs.Steps.{chunk-is, image-more, listing-more, no_run, room_out, turned, whole_run}
use Rattle.listing.proofs.run.Goals as goal

pub returns-then-not-has_room_for_all : goal.returns-then-not-has_room_for_all
returns-then-not-has_room_for_all c = (no_run _ _ _ _ (sym c.if-not-has_room_for_all.true ∙ c.has_room_for_all.ensures), zero-le)

pub loop-i-init : goal.loop-i-init
unfolding image_behind listing
loop-i-init c =
    let a = c.args in
    let it = c.into_iter-i-iterator.result in
    let none : enumerate_count it ≡ 0 = cc in
    let rest : chunks_rest (enumerate_source it) ≡ a.input.now = cc in (
      search rules,
      search rules,
      cc,
      rest ∙ ap (λ (n : ℕ). drop (n * command_size) a.input.now) (sym none),
      omega arith,
      refl,
      refl,
      zero-le,
      ap (image_behind a.input.now a.image.now) (sym none),
      subst (λ (n : ℕ). Puts (listing a.number a.input.now a.image.now n) a.out.now 0 0 a.out.now) (sym none) (puts_none _ 0 zero-le),
    )

pub loop-i-preserved : goal.loop-i-preserved
loop-i-preserved c =
    let a = c.args in
    let l = c.loop-i in
    let v = l.invariant in
    let it = l.i-iterator in
    let n : ℕ = enumerate_count it in
    let s = c.in-Some.ensures.steps in
    let p = c.step-at in
    let w : command_count a.input.now * longest_line command_size ≤ length a.out.now =
    (room_out a.number a.input.now a.out.now (sym c.has_room_for_all.ensures ∙ c.if-not-has_room_for_all.false)).0 in
    let left : length (chunks_rest (enumerate_source it)) ≡ length a.input.now - n * command_size = ap length v.3 ∙ length-drop (n * command_size) a.input.now in
    let some : n + 1 ≤ command_count a.input.now = omega (arith, left, s.0.1.2) in
    let b = chunk-is a.input.now _ c.in-Some.bytes.now _ n v.3 s.0.1.0 (s.0.1.1 ∙ ap (λ (k : ℕ). min k (length (chunks_rest (enumerate_source it)))) v.2) in
    let t = turned (a.number + n) l.at p.result _ n a.input.now c.in-Some.bytes.now l.out p.new.out l.image p.new.image b.0 refl (omega (arith, some, v.6, v.7, w))
    (subst (λ (k : ℕ). Stepped (a.number + k) c.in-Some.bytes.now (mid_of l.at (length l.out - l.at) l.out) l.image p.result p.new.out p.new.image) s.1 p.ensures.0) p.ensures.1 in
    let next : enumerate_count c.next.new.self ≡ n + 1 = s.2 in (
      search rules,
      search rules,
      s.0.0 ∙ v.2,
      b.1 ∙ ap (λ (k : ℕ). drop (k * command_size) a.input.now) (sym next),
      omega (arith, some, next),
      p.auto.image ∙ v.5,
      search rules ∙ v.6,
      omega (arith, t.1, v.7, next),
      image-more n a.input.now a.image.now l.image _ v.8 t.2 ∙ ap (image_behind a.input.now a.image.now) (sym next),
      subst (λ (k : ℕ). Puts (listing a.number a.input.now a.image.now k) a.out.now 0 (l.at + p.result) (put_mid l.at (length l.out - l.at) l.out p.new.out)) (sym next)
          (listing-more a.number n l.at (l.at + p.result) a.input.now a.out.now l.out _ a.image.now l.image v.8 v.9 t.0 (omega (arith, t.1, v.7, some, w))),
    )

pub returns : goal.returns
returns c =
    let a = c.args in
    let l = c.loop-i in
    let v = l.invariant in
    let n : ℕ = enumerate_count l.i-iterator in
    let w : command_count a.input.now * longest_line command_size ≤ length a.out.now = (room_out a.number a.input.now a.out.now (sym c.has_room_for_all.ensures ∙ c.if-not-has_room_for_all.false)).0 in
    let left : length (chunks_rest (enumerate_source l.i-iterator)) ≡ length a.input.now - n * command_size = ap length v.3 ∙ length-drop (n * command_size) a.input.now in
    let done : n ≡ command_count a.input.now = omega (arith, left, c.in-None.ensures.steps.0.1.0, v.4) in
    (whole_run a.number n l.at a.input.now a.out.now l.out a.image.now l.image (sym c.if-not-has_room_for_all.false ∙ c.has_room_for_all.ensures) done v.9 v.8, omega (arith, v.7, w, done))
