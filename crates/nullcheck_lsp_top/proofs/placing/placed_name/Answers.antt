use Rattle.std.proofs.Common.{ap, ◌∙◌}
use Rattle.jn_folder.specs.Plain.{plain}
use Rattle.nullcheck_lsp_top.specs.Placing.{placed_path}
use Rattle.nullcheck_lsp_top.proofs.placing.placed_name.Goals as goal

pub returns : goal.returns
returns c = c.in_ok-placed.ensures ∙ ap (placed_path c.args.root.now c.args.documents.now) (c.as_str-2.ensures ∙ c.in_ok-stands.ensures ∙ ap plain c.as_str.ensures)
