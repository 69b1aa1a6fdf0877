-- The tables are carried, the pairs and the control bytes written, and the stamps of the cards that work, as the control bytes tell them. Assumes nothing.
use mathlib.Core.List.{List}
use mathlib.Core.Path.{◌∙◌, ap, refl}
use Prim.Native.Nat.{ℕ}
use lib.ListN.{get_or}
use Rattle.lists.specs.Segments.{splice}
use Rattle.image.specs.Layout.{card_count, tail_size, tail_start}
use Rattle.image.proofs.Parts.{part-is}
use Rattle.mask.specs.Masks.{byte}
use Rattle.control.specs.ControlBytes.{count_in, last_mask_at, working_at}
use Rattle.control.specs.Stamps.{put_stamps}
use Rattle.cabinet_rules.specs.Converting.{older_size}
use Rattle.cabinet_rules.specs.Retired.{converted_serial}
use Rattle.converter.proofs.Stamped.{carried-is}
use Rattle.converter.proofs.carry.Goals as goal

pub returns : goal.returns
returns c =
    let older = c.args.older.now in
    let l = c.carry_tables.new.image in
    let f = c.numbered-front.result in
    c.put_all.ensures
    ∙ ap (λ (g : List ℕ). put_stamps g (byte (get_or f working_at 0)) (record { serial = converted_serial; mask = get_or f (last_mask_at (count_in (get_or f 0 0))) 0 }) card_count)
    (c.write_at-2.ensures ∙ ap (λ (g : List ℕ). splice g 0 f) (c.write_at.ensures ∙ ap (splice l tail_start) (part-is older_size tail_size older tail_size refl)))
    ∙ carried-is older l c.requires.0 c.requires.1 (λ n. (c.type_inv.older n).fits) c.carry_tables.ensures f c.numbered-front.ensures
