use Rattle.std.proofs.Common.{sym, ◌∙◌, ap}
use Rattle.std.specs.Prelude.{bytes_eq, string_bytes, position}
use Rattle.jn_trees.proofs.Texts.{position-map}
use Rattle.jn_trees.proofs.names.Names.number.Goals as goal

pub returns-in-Some : goal.returns-in-Some
returns-in-Some c = sym (ap (position (bytes_eq c.args.text.now)) (sym c.self.view_is) ∙ position-map string_bytes (bytes_eq c.args.text.now) c.self.inside.texts.keys ∙ sym c.get_index_of.ensures.index ∙ c.in-Some.is)

pub returns-in-None : goal.returns-in-None
returns-in-None c = sym (ap (position (bytes_eq c.args.text.now)) (sym c.self.view_is) ∙ position-map string_bytes (bytes_eq c.args.text.now) c.self.inside.texts.keys ∙ sym c.get_index_of.ensures.index ∙ c.in-None.is)
