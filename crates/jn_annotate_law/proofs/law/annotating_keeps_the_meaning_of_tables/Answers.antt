-- What a class table hands on has the premises of the theorem.
use Rattle.std.proofs.Common.{◌≡◌, ◌<◌, ◌^◌, List, [], length, subst}
use Rattle.jn_heads.specs.declared.head.ClassHead.{ClassHead}
use Rattle.jn_classtable.specs.Table.{table}
use Rattle.jn_classtable.specs.Rows.{t_rows}
use Rattle.jn_program_law.proofs.Program.{together}
use Rattle.jn_annotate_law.proofs.Saying.{kept_rowless}
use Rattle.jn_annotate_law.proofs.law.annotating_keeps_the_meaning_of_tables.Goals as goal

pub returns : goal.returns
returns c = λ terse imports infer texts names new tokens trees s is none lexed placed least annotated.
    let f = c.facts.ensures in
    kept_rowless terse imports infer texts names new tokens trees s lexed placed
    (together trees (subst (λ (hs : List ClassHead). t_rows hs ≡ []) is f.rows) none)
    (subst (λ (hs : List ClassHead). length (table hs).fields < 2 ^ 32) is f.fields)
    (subst (λ (hs : List ClassHead). length (table hs).methods < 2 ^ 32) is f.methods) least annotated
