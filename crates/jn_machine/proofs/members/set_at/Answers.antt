use Rattle.std.proofs.Common.{ap, ◌∙◌, arith}
use Rattle.std.proofs.lemmas.Option.{slice_get-get_or}
use Rattle.jn_machine.specs.Parts.{store_as}
use Rattle.jn_machine.proofs.Pieces.{put_is}
use Rattle.jn_machine.proofs.members.set_at.Goals as goal

pub returns : goal.returns
returns c =
    let there = slice_get-get_or c.args.heap.now c.args.place c.index-heap-place.result (omega (c.if-place-heap.false, arith)) in
    λ st h. put_is c.args.heap.now c.args.place _ c.set_element.new.self _ c.set_element.result there (ap (λ x. store_as x c.args.at c.args.value c.args.may) there ∙ c.set_element.ensures.put) c.set_element.ensures.kept st h
