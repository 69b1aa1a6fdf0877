-- Refused by the length or the number of members; else all bytes are zeroed, the first control part is written, and its cards get its stamp.
-- Assumes nothing.
use Rattle.cards.proofs.Starts.{long-zeros, start-1, start-9, start-done, whole-zeros}
use Rattle.cards.proofs.start.Goals as goal

pub returns-then-image-ne-IMAGE_SIZE : goal.returns-then-image-ne-IMAGE_SIZE
returns-then-image-ne-IMAGE_SIZE c = let a = c.args in start-1 a.image.now a.mask c.if-image-ne-IMAGE_SIZE.true

pub returns-then-members-lt-LEAST_MEMBERS : goal.returns-then-members-lt-LEAST_MEMBERS
returns-then-members-lt-LEAST_MEMBERS c =
    let a = c.args in
    start-9 a.image.now a.mask c.if-image-ne-IMAGE_SIZE.false c.members.ensures c.if-members-lt-LEAST_MEMBERS.true

pub write-requires : goal.write-requires
write-requires c =
    record { control_size_in_bounds = long-zeros c.args.image.now _ c.if-image-ne-IMAGE_SIZE.false c.clear.ensures; counted = c.started-k.ensures.counted }

pub put_all-requires : goal.put_all-requires
put_all-requires c =
    whole-zeros c.args.image.now _ _ c.started-k.result c.if-image-ne-IMAGE_SIZE.false c.clear.ensures c.write.ensures

pub returns : goal.returns
returns c =
    start-done c.args.image.now c.args.mask c.if-image-ne-IMAGE_SIZE.false c.members.ensures c.if-members-lt-LEAST_MEMBERS.false
    _ _ _ _ c.started-k.ensures c.clear.ensures c.write.ensures c.stamp.ensures c.put_all.ensures
