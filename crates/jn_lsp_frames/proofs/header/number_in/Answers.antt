use Rattle.std.proofs.Common.{sym, ◌∙◌}
use Rattle.jn_lsp_frames.proofs.Numbers.{cut, cut_number, cut_none, cut_digits}
use Rattle.jn_lsp_frames.proofs.header.number_in.Goals as goal

pub number_of-requires-clause-digits : goal.number_of-requires-clause-digits
number_of-requires-clause-digits c =
    let parts = cut c.args.value.now c.split_at.result.0.now c.split_at.result.1.now c.blanks_in.result c.digits_in.result c.blanks_in.ensures.is c.digits_in.ensures.is c.split_at.ensures.front c.split_at.ensures.back in
    cut_digits c.args.value.now c.split_at.result.0.now c.split_at.result.1.now parts

pub returns-then-is_number : goal.returns-then-is_number
returns-then-is_number c =
    let parts = cut c.args.value.now c.split_at.result.0.now c.split_at.result.1.now c.blanks_in.result c.digits_in.result c.blanks_in.ensures.is c.digits_in.ensures.is c.split_at.ensures.front c.split_at.ensures.back in
    cut_number c.args.value.now c.split_at.result.0.now c.split_at.result.1.now c.number_of.result parts (sym c.is_number.ensures ∙ c.if-is_number.true) c.number_of.ensures

pub returns-else-is_number : goal.returns-else-is_number
returns-else-is_number c =
    let parts = cut c.args.value.now c.split_at.result.0.now c.split_at.result.1.now c.blanks_in.result c.digits_in.result c.blanks_in.ensures.is c.digits_in.ensures.is c.split_at.ensures.front c.split_at.ensures.back in
    cut_none c.args.value.now c.split_at.result.0.now c.split_at.result.1.now parts (sym c.is_number.ensures ∙ c.if-is_number.false)
