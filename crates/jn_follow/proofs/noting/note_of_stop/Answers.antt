use Rattle.std.proofs.Common.{◌∙◌, ap}
use Rattle.jn_follow.specs.StopNotes.{stop_note, token_before}
use Rattle.jn_follow.proofs.Noted.{some_among}
use Rattle.jn_follow.proofs.noting.note_of_stop.Goals as goal

pub returns : goal.returns
returns c =
    let file = c.args.file in
    let text = c.args.text.now in
    let tokens = c.args.tokens.now in
    let number = c.args.number in
    let is = c.in_ok-note.ensures ∙ ap (λ before. stop_note file text before c.tokens_from-left.result.now) c.token_before-before.ensures ∙ ap (stop_note file text (token_before tokens number)) c.tokens_from-left.ensures in
    some_among file text tokens c.args.row.now number c.in_ok-note.note c.apart.result c.requires.stops is c.apart.ensures
