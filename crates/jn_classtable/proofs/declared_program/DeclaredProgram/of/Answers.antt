use Rattle.std.proofs.Common.{sym, subst, arith}
use Rattle.jn_index.specs.Sizes.{Few}
use Rattle.jn_classtable.proofs.Classes.{size_is}
use Rattle.jn_classtable.proofs.declared_program.DeclaredProgram.of.Goals as goal

pub of-requires-clause-few : goal.of-requires-clause-few
of-requires-clause-few c =
    let table = c.requires.table in
    let few = table.small.heads in
    let size = size_is c.args.declared in
    subst Few (sym table.program) (record { classes = omega (few, size, arith); fields = table.small.fields; methods = table.small.methods; parameters = table.small.params })
