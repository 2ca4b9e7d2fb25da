use Rattle.nullcheck_lsp_top.proofs.Reading.{spaces_are}
use Rattle.nullcheck_lsp_top.proofs.texts.spaces_of.Goals as goal

pub returns : goal.returns
returns c = spaces_are c.args.count c.in_ok-vec.field-0.items (c.in_ok-vec.ensures.items_if_clones_equal (λ y is. is))
