use Rattle.std.proofs.Common.{subst}
use Rattle.jn_trees.specs.Refused.{IfRefused}
use Rattle.jn_lexer.specs.Faults.{LexicalFault}
use Rattle.jn_follow.proofs.Noted.{beside_all, none_beside}
use Rattle.jn_follow.proofs.noting.note_beside.Goals as goal

pub returns-in-Ok : goal.returns-in-Ok
returns-in-Ok c = beside_all c.texts_have_one_reading.ensures.one c.args.file c.args.text.now _ c.in-Ok.tokens.items c.deref.result.now _ c.args.row.now c.note_among.result c.new-names.ensures c.deref.ensures.value c.in-Ok.ensures.ok c.note_among.ensures

pub returns-in-Err-Refused : goal.returns-in-Err-Refused
returns-in-Err-Refused c =
    let file = c.args.file in
    let text = c.args.text.now in
    let fault = subst (λ f. IfRefused f (λ row. LexicalFault file text row)) c.in-Err-Refused.field-0-is c.in-Err-Refused.ensures.refused in
    none_beside c.texts_have_one_reading.ensures.faultless file text c.args.row.now c.in-Err-Refused.field-0-0 fault
