-- What a class table hands on has the premises of the law.
use Rattle.std.proofs.Common.{◌≡◌, ◌<◌, ◌^◌, List, [], length, subst}
use Rattle.jn_heads.specs.declared.head.ClassHead.{ClassHead}
use Rattle.jn_classtable.specs.Table.{table}
use Rattle.jn_classtable.specs.Rows.{t_rows}
use Rattle.jn_program_law.proofs.Program.{program_regular, together}
use Rattle.jn_program_law.proofs.law.programs_of_tables_are_regular.Goals as goal

pub returns : goal.returns
returns c = λ files is none.
    let f = c.facts.ensures in
    program_regular files
    (together files (subst (λ (hs : List ClassHead). t_rows hs ≡ []) is f.rows) none)
    (subst (λ (hs : List ClassHead). length (table hs).fields < 2 ^ 32) is f.fields)
    (subst (λ (hs : List ClassHead). length (table hs).methods < 2 ^ 32) is f.methods)
