use Rattle.std.proofs.Common.{◌∙◌, ◌∷◌, [], ◌++◌, ap, map, position, bytes_eq}
use Rattle.std.specs.Prelude.{vec_items}
use Rattle.jn_causes.proofs.Places.{pushed}
use Rattle.jn_causes.proofs.heads.Heads.push.Goals as goal

pub returns-in-Ok : goal.returns-in-Ok
returns-in-Ok c =
    let text = c.args.text.now in
    let none = ap (position (bytes_eq text)) c.self.view_is ∙ c.requires in
    ap (map vec_items) c.in-Ok.ensures.keys ∙ pushed vec_items text c.self.inside.texts.keys c.in_ok-owned.owned c.in_ok-owned.ensures.items none ∙ ap (λ l. l ++ text ∷ []) c.self.view_is
