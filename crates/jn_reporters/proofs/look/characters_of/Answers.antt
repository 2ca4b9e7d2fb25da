use Rattle.std.proofs.Common.{◌≡◌, IfOk, subst, ◌∙◌}
use Rattle.std.specs.Prelude.{chars}
use Rattle.jn_reporters.proofs.look.characters_of.Goals as goal

pub returns : goal.returns
returns c = subst (λ text. IfOk c.decoded.result (λ cs. cs.items ≡ chars text)) (c.as_str.ensures.value ∙ c.in_ok-text.ensures.lossy) c.decoded.ensures
