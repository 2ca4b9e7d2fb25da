use Rattle.std.proofs.Common.{[], ◌∙◌, ap}
use Rattle.jn_lex_shared.specs.Interned.{interned}
use Rattle.jn_lex_shared.proofs.Known.{as_they_stand}
use Rattle.jn_lex_shared.proofs.names.names_of.Goals as goal

pub returns : goal.returns
returns c = c.in_ok-intern_all.ensures ∙ ap (λ ns. interned ns c.args.texts.now) c.new-names.ensures ∙ as_they_stand [] c.args.texts.now c.requires.new
