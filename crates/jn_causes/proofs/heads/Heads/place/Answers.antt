use Rattle.std.proofs.Common.{sym, ◌∙◌, ap, position, bytes_eq}
use Rattle.std.specs.Prelude.{vec_items}
use Rattle.jn_causes.proofs.Places.{place_at}
use Rattle.jn_causes.proofs.heads.Heads.place.Goals as goal

pub returns : goal.returns
returns c = c.get_index_of.ensures.index ∙ sym (place_at vec_items (bytes_eq c.args.text.now) c.self.inside.texts.keys) ∙ ap (position (bytes_eq c.args.text.now)) c.self.view_is
