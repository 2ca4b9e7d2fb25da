-- Files without rows have a regular program.
use Rattle.std.proofs.Common.{◌≡◌, ◌<◌, ◌^◌, ℕ, cond, List, [], ◌∷◌, length, Some, refl, sym, ◌∙◌, subst}
use Rattle.std.specs.Prelude.{slice_get}
use Rattle.jn_base.specs.declared.place.Row.{Row}
use Rattle.jn_points.specs.declared.program.Body.{Body}
use Rattle.jn_points.specs.declared.program.Program.{Program}
use Rattle.jn_points.specs.Regular.{Regular, RegularBody}
use Rattle.jn_places.specs.Placed.{PlacedFile}
use Rattle.jn_heads.specs.declared.head.ClassHead.{ClassHead}
use Rattle.jn_heads.specs.Extract.{heads}
use Rattle.jn_classtable.specs.Table.{program_with, table}
use Rattle.jn_declaration_rules.specs.Rows.{no_rows}
use Rattle.jn_classtable.specs.Rows.{called, t_rows}
use Rattle.jn_classtable.specs.RegularTable.{RegularTable}
use Rattle.jn_classtable.proofs.Fits.{heads_fit}
use Rattle.jn_declaration_rules.proofs.Lists.{append_empty}
use Rattle.jn_classtable.proofs.Whole.{table_regular}
use Rattle.jn_lowering.specs.Bodies.{Source, bodies_of}
use Rattle.jn_lowering.specs.BodyRows.{rows_of_bodies}
use Rattle.jn_lowering.specs.FileRows.{outside_rows}
use Rattle.jn_program_law.specs.FileSources.{sources}
use Rattle.jn_program_law.specs.FileProgram.{j_rows, program_of_files, rows_of_files}
use Rattle.jn_program_law.proofs.Sourced.{source_rank, is_source, as_many}
use Rattle.jn_program_law.proofs.Allowed.{fields_allowed}
use Rattle.jn_lowering.specs.Sources.{RegularHeads}
use Rattle.jn_lowering.proofs.HeadsFacts.{bodies_regular, heads_of, length_bodies, object_parent}
use Rattle.jn_lowering.proofs.SameHeads.{heads_same}

-- no row of the class table, and none of lowering
both_empty : (ts js : List Row) → cond (no_rows ts) js ts ≡ [] → (ts ≡ []) × (js ≡ [])
both_empty [] js h = (refl, h)
both_empty (t ∷ ts) js h = cc

pub together : (files : List PlacedFile) → t_rows (heads files) ≡ [] → j_rows files ≡ [] → rows_of_files files ≡ []
together files t j = subst (λ ts. cond (no_rows ts) (j_rows files) ts ≡ []) (sym t) j

module _ (files : List PlacedFile) (none : rows_of_files files ≡ []) (few_fields : length (table (heads files)).fields < 2 ^ 32) (few_methods : length (table (heads files)).methods < 2 ^ 32) where
  abbrev hs : List ClassHead
  hs = heads files

  abbrev P : Program
  P = table hs

  abbrev ss : List Source
  ss = sources files

  abbrev B : List Body
  B = bodies_of P ss

  no_t : t_rows hs ≡ []
  no_t = (both_empty (t_rows hs) (j_rows files) none).0

  no_outside : outside_rows files ≡ []
  no_outside = (append_empty (outside_rows files) (rows_of_bodies P ss) (both_empty (t_rows hs) (j_rows files) none).1).0

  no_inside : rows_of_bodies P ss ≡ []
  no_inside = (append_empty (outside_rows files) (rows_of_bodies P ss) (both_empty (t_rows hs) (j_rows files) none).1).1

  regular : RegularTable (program_with hs B) (called hs)
  regular = table_regular hs B (heads_fit files) no_t (length_bodies P ss ∙ as_many files) few_fields few_methods

  regular_heads : RegularHeads (program_with hs B)
  regular_heads = record {
    few = regular.few;
    classes = regular.classes;
    fields = regular.fields (fields_allowed files B no_outside);
    methods = regular.methods;
    pairs = regular.pairs;
    implements = regular.implements;
  }

  bodies_are : (b : ℕ) (x : Body) → slice_get B b ≡ Some x → RegularBody (program_with hs B) (source_rank files B regular) b x
  bodies_are = bodies_regular P (heads_same (program_with hs B) [] (heads_of (program_with hs B) regular_heads)) (object_parent (program_with hs B) regular_heads) ss (source_rank files B regular) (is_source files B regular) no_inside

  pub program_regular : Regular (program_of_files files)
  program_regular = record {
    few = regular_heads.few;
    classes = regular_heads.classes;
    fields = regular_heads.fields;
    methods = regular_heads.methods;
    pairs = regular_heads.pairs;
    implements = regular_heads.implements;
    ctor_rank = source_rank files B regular;
    bodies = bodies_are;
  }
