use Rattle.std.proofs.Common.{◌≡◌, ◌<◌, ◌^◌, List, length, subst, arith}
use Rattle.jn_points.specs.declared.program.Body.{Body}
use Rattle.jn_heads.specs.Inferred.{Tabled}
use Rattle.jn_heads.specs.Heads.{all_heads}
use Rattle.jn_classtable.specs.Table.{bodies_of_all, program_with, table}
use Rattle.jn_classtable.specs.Rows.{called}
use Rattle.jn_index.specs.Sizes.{ParamsFit}
use Rattle.jn_classtable.specs.RegularTable.{RegularTable}
use Rattle.jn_classtable.proofs.Classes.{size_is}
use Rattle.jn_classtable.proofs.Whole.{table_regular}
use Rattle.jn_classtable.proofs.class_table.ClassTable.facts.Goals as goal

pub returns-clause-regular : goal.returns-clause-regular
returns-clause-regular c =
    let i = c.self.invariant in
    subst (λ (t : Tabled). (bodies : List Body) → length bodies ≡ bodies_of_all (all_heads t.heads) → RegularTable (program_with t.heads bodies) (called t.heads)) c.self.view_is
    (λ bodies many. table_regular c.self.inside.declared bodies i.fit i.rows many c.facts.ensures.fields c.facts.ensures.methods)

pub returns-clause-classes : goal.returns-clause-classes
returns-clause-classes c =
    let few = c.facts.ensures.heads in
    let size = size_is c.self.inside.declared in
    subst (λ (t : Tabled). length (table t.heads).classes < 2 ^ 32) c.self.view_is (omega (few, size, arith))

pub returns-clause-parameters : goal.returns-clause-parameters
returns-clause-parameters c =
    subst (λ (t : Tabled). ParamsFit (table t.heads)) c.self.view_is c.facts.ensures.params
