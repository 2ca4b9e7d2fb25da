use Rattle.std.proofs.Common.{◌++◌, ◌∷◌, [], ◌∙◌, ap}
use Rattle.std.proofs.lemmas.List.{append_assoc}
use Rattle.std.proofs.lemmas.Result.{IfOk-weaker}
use Rattle.jn_diff.specs.Diff.{signed}
use Rattle.jn_diff.proofs.texts.put_both.Goals as goal

pub returns : goal.returns
returns c = IfOk-weaker c.put_signed-2.result _ _ (λ u h. h ∙ ap (λ x. c.put_signed.new.text.items ++ signed (43 ∷ []) x) c.as_slice-2.ensures ∙ ap (λ x. x ++ signed (43 ∷ []) c.args.line.now.new) (c.in_ok-put_signed.ensures ∙ ap (λ x. c.args.text.now.items ++ signed (45 ∷ []) x) c.as_slice.ensures) ∙ append_assoc c.args.text.now.items (signed (45 ∷ []) c.args.line.now.old) (signed (43 ∷ []) c.args.line.now.new)) c.put_signed-2.ensures
