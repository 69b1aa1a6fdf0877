-- The delivery of A.5 meets what is asked of a delivery; A.6 retired it, its memory is written over that of A.6, and a converter carries its stores over:
-- an older image at the length of A.6 has the same bytes, and nothing behind the tables, as A.6 writes for placements without a table. Assumes nothing.
use Prim.Native.Nat.{◌%◌, ◌+◌, ◌/◌, ◌<◌, suc, zero, ℕ}
use borrow.Author.Tests.{le-ltb, lt-ltb}
use lib.ListN.{get_or, length}
use mathlib.Core.Bool.{Bool, false, true}
use mathlib.Core.List.{List, [], ◌∷◌, ◌++◌, map}
use mathlib.Core.Path.{◌∙◌, ◌≡◌, refl, sym}
use native.Mathlib.Omega.{arith}
use Rattle.lists.proofs.Bools.{tf}
use Rattle.lists.proofs.Tabulate.{at-tabulate, length-tabulate}
use Rattle.image.specs.Layout.{block_address_of, pairs_size, tail_size, tail_start_of}
use Rattle.mask.specs.Placements.{Masked, choice_of, is_by_rails, is_by_table, placed}
use Rattle.mask.proofs.SiteLaws.{placed-sites, placed-usable}
use Rattle.slot.proofs.Blocks.{block-ext, byte-in}
use Rattle.control.specs.ControlBytes.{kept_of, tail_of}
use Rattle.control.proofs.Tail.{kept-bare}
use Rattle.cabinet_rules.specs.Converting.{longer, longer_byte, older_size, pairs_image_size}
use Rattle.cabinet_rules.specs.Delivery.{PartOf, storable}
use Rattle.cabinet_rules.specs.GoesOn.{from_wire, part_now}
use Rattle.cabinet_rules.specs.Images.{Image, block_by}
use Rattle.cabinet_rules.specs.Retired.{bare, before_tables, below_wire, by_tables, pairs_behind}
use Rattle.cabinet_rules.proofs.Tables.{table_laws}
use Rattle.cabinet_rules.proofs.GoesOn.{Carries}
use Rattle.cabinet_rules.proofs.Lawful.{DeliveryLaws, RuleLaws, no-stamps, railed_rules}
use Rattle.cabinet_rules.proofs.PlacingLaws.{storable-fits}
use Rattle.cabinet_rules.proofs.Retired.{Retired, retired-control, retired-over}

pub wire_rules : RuleLaws below_wire
wire_rules = railed_rules storable storable-fits

-- ---- placements that their masks give
placed-back : (q : Masked) → ◌≡◌ {A = Masked} (record { mask = q.mask; by_rails = is_by_rails (choice_of q.by_rails) }) q
placed-back q = go q.by_rails
  where
    go : (r : Bool) → ◌≡◌ {A = Masked} (record { mask = q.mask; by_rails = is_by_rails (choice_of r) }) (record { mask = q.mask; by_rails = r })
    go true = refl
    go false = refl

not-by-table : (r : Bool) → is_by_table (choice_of r) ≡ false
not-by-table true = refl
not-by-table false = refl

-- nothing is kept for them
none_kept : (l : List Masked) (q : Masked) (i j : ℕ) → kept_of (map (λ p. p) (map placed l) ++ (placed q ∷ [])) i j ≡ 0
none_kept [] q zero j = kept-bare (choice_of q.by_rails) j (not-by-table q.by_rails)
none_kept [] q (suc i) j = refl
none_kept (p ∷ l) q zero j = kept-bare (choice_of p.by_rails) j (not-by-table p.by_rails)
none_kept (p ∷ l) q (suc i) j = none_kept l q i j

no-tail : (k : PartOf below_wire) (n : ℕ) → 0 ≡ by_tables.memory.tail (part_now below_wire by_tables from_wire k) n
unfolding tail_of
no-tail k n = sym (none_kept k.older k.newest (n / pairs_size) (n % pairs_size))

pub wire-retired : Retired below_wire by_tables from_wire
wire-retired = retired-over below_wire by_tables from_wire before_tables (record {
  follows = record { same-mask = λ q. refl; same-sites = placed-sites; still-usable = placed-usable; still-numbered = λ k h n. tt };
  bytes-are = λ k n. refl;
  part-is = λ g t. refl;
  form-is = λ g t. refl;
  told = λ k. refl;
  back-placement = placed-back;
  back-serial = λ ν. refl;
  fills = λ k n e. tf false e refl;
  tails = λ k g t w n h. no-tail k n;
})

abbrev pub wire_laws : DeliveryLaws below_wire
wire_laws = record {
  rules = wire_rules;
  control = retired-control below_wire by_tables from_wire wire-retired wire_rules table_laws;
  stamps = no-stamps below_wire wire_rules (λ m n. refl);
}

-- ---- the converter
pub longer-at : (g : Image) (n : ℕ) → n < older_size → get_or (longer g) n 0 ≡ get_or g n 0
unfolding longer
longer-at g n h = at-tabulate pairs_image_size (longer_byte g) n (omega arith) ∙ rw (lt-ltb n older_size h)

pub longer-behind : (g : Image) (n : ℕ) → n < tail_size → get_or (longer g) (tail_start_of pairs_behind + n) 0 ≡ 0
unfolding longer
longer-behind g n h = at-tabulate pairs_image_size (longer_byte g) (tail_start_of pairs_behind + n) (omega arith) ∙ rw (le-ltb (tail_start_of pairs_behind + n) older_size (omega arith))

pub length-longer : (g : Image) → length (longer g) ≡ pairs_image_size
unfolding longer
length-longer g = length-tabulate pairs_image_size (longer_byte g)

pub wire-carried : Carries below_wire by_tables from_wire table_laws
wire-carried = record {
  long = λ g l. length-longer g;
  wrote = λ g k l r w. record {
    front = λ n h. longer-at g n (omega arith) ∙ w.front n h;
    behind = λ n h. longer-behind g n h ∙ no-tail k n;
  };
  blocks = λ g c b hc hb. block-ext (block_by by_tables.memory.layout (longer g) c b) (block_by bare g c b) (λ j h.
      byte-in (λ j. get_or (longer g) (block_address_of by_tables.memory.layout c b + j) 0) j h
      ∙ longer-at g (block_address_of by_tables.memory.layout c b + j) (omega arith)
      ∙ sym (byte-in (λ j. get_or g (block_address_of bare c b + j) 0) j h));
  stamps = λ g k c h. refl;
  outside = λ g c h. refl;
}
