use Rattle.std.proofs.Common.{◌∙◌, ap}
use Rattle.nullcheck_lsp_top.specs.Reading.{unnamed_words}
use Rattle.nullcheck_lsp_top.proofs.Reading.{warned_more}
use Rattle.nullcheck_lsp_top.proofs.warning.warn_unnamed.Goals as goal

pub loop-path-preserved : goal.loop-path-preserved
loop-path-preserved c = warned_more unnamed_words c.args.paths.now c.loop-path.path-index c.path-item.result c.in_ok-words.words c.args.warnings.now c.loop-path.warnings c.push.new.self c.loop-path-test.true c.path-item.is c.loop-path.invariant c.in_ok-push.ensures.ok (c.in_ok-words.ensures ∙ ap unnamed_words c.as_str.ensures)
