use Rattle.std.proofs.Common.{arith}
use Rattle.jn_renumber.proofs.Forgotten.{view_kept}
use Rattle.jn_renumber.proofs.files.renumber_file.Goals as goal

pub returns-clause-view : goal.returns-clause-view
returns-clause-view c = view_kept c.args.numbers.now c.args.tree.now (record { «package» = c.renumber_package.new.line; imports = c.renumber_imports.new.imports; types = c.renumber_types.new.types }) (grind arith)
