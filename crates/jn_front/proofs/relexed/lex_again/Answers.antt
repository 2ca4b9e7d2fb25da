use Rattle.std.proofs.Common.{subst}
use Rattle.jn_base.specs.declared.number.FileNo.{FileNo}
use Rattle.jn_trees.specs.Refused.{IfRefused}
use Rattle.jn_lexer.specs.Faults.{LexicalFault}
use Rattle.jn_front.proofs.relexed.lex_again.Goals as goal

pub unreachable-requires : goal.unreachable-requires
unreachable-requires c =
    let file : FileNo = record { 0 = c.args.file } in
    let text = c.args.text.now in
    let fault = subst (λ f. IfRefused f (λ row. LexicalFault file text row)) c.in-Err-Refused.field-0-is c.in-Err-Refused.ensures.refused in
    let lexed = c.requires.lexes in
    c.texts_have_one_reading.ensures.faultless file text c.args.names.now lexed.0 lexed.1 c.in-Err-Refused.field-0-0 lexed.2 fault
