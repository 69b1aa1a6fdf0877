-- Two halves. Assumes nothing.
use Rattle.lists.proofs.Bytes.{eight-bytes}
use Rattle.control_form.proofs.words.word.Goals as goal

pub returns : goal.returns
returns c =
    let a = c.args in
    eight-bytes a.s.now a.at _ _ c.half.ensures.0 c.half-2.ensures.0
