use Rattle.std.proofs.Common.{◌++◌, Option, sym, ap, ◌∙◌}
use Rattle.jn_notes.specs.declared.pairs.Part.{Part}
use Rattle.jn_lsp_actions.specs.Own.{pair_wants}
use Rattle.jn_lsp_actions.proofs.Wanting.{pairs_want}
use Rattle.jn_lsp_actions.proofs.wants.put_pair.Goals as goal

pub returns-in_ok-put_overriders-in-Some : goal.returns-in_ok-put_overriders-in-Some
returns-in_ok-put_overriders-in-Some c =
    let s = c.args.sig.now in
    let P = c.args.program.now in
    let old = c.args.slots.now.items in
    pairs_want s P c.args.span c.in-Some.part c.args.overriders.now old c.put_overriders.new.slots.items c.requires.overriders c.in_ok-put_overriders-in-Some.ensures
    ∙ ap (λ (part : Option Part). old ++ pair_wants s P c.args.span part) (sym c.in-Some.is)
