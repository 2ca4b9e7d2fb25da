use Rattle.std.proofs.Common.{◌++◌, ◌∙◌, [], ◌∷◌, List, ap, append_assoc, map, sym, take}
use Rattle.std.proofs.lemmas.List.{map_more}
use Rattle.jn_lsp_text.specs.declared.reply.Reply.{Reply}
use Rattle.jn_lsp.specs.Unknown.{doubt}
use Rattle.jn_lsp.proofs.unknown.put_doubts.Goals as goal

pub loop-name-preserved : goal.loop-name-preserved
loop-name-preserved c =
    let names = c.args.names.now in
    let i = c.loop-name.name-index in
    let start = c.args.replies.now in
    let reply = c.in_ok-doubt.field-0 in
    c.in_ok-push.ensures.ok
    ∙ ap (λ (l : List Reply). l ++ reply ∷ []) c.loop-name.invariant
    ∙ append_assoc start (map doubt (take i names)) (reply ∷ [])
    ∙ ap (λ (r : Reply). start ++ (map doubt (take i names) ++ r ∷ [])) (c.in_ok-doubt.ensures ∙ ap doubt c.name-item.is)
    ∙ ap (λ (l : List Reply). start ++ l) (sym (map_more doubt names i c.name-item.result c.loop-name-test.true))
