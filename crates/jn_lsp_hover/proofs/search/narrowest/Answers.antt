use Rattle.jn_lsp_hover.specs.Spots.{spots_of}
use Rattle.jn_lsp_hover.proofs.Searching.{found_is}
use Rattle.jn_lsp_hover.proofs.search.narrowest.Goals as goal

pub returns : goal.returns
returns c = found_is c.args.sought.now (spots_of c.args.sought.now.program.now) c.over_bodies.result c.over_bodies.ensures
