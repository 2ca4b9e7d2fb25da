use Rattle.std.proofs.Common.{◌≡◌, ◌++◌, ◌∙◌, [], ◌∷◌, List, ℕ, ap, subst, sym}
use Rattle.std.specs.Prelude.{OnOk}
use Rattle.jn_lsp_text.specs.declared.reply.Reply.{Reply}
use Rattle.jn_lsp_text.specs.declared.reply.Reply.TheVariants.{Show}
use Rattle.jn_lsp.specs.Unknown.{misread}
use Rattle.jn_lsp.proofs.unknown.put_misread.Goals as goal

pub returns-in_ok-words-in-Wrong : goal.returns-in_ok-words-in-Wrong
returns-in_ok-words-in-Wrong c =
    subst (λ (more : List Reply). OnOk c.push.result (c.push.new.self ≡ c.args.replies.now ++ more)) (ap (λ (words : List ℕ). Show words ∷ []) c.in_ok-words-in-Wrong.ensures ∙ ap misread (sym c.in-Wrong.is)) c.push.ensures.ok
