-- The bodies of a program of files are those of its sources, which have no row, by either choice of members that are inferred.
use Rattle.std.proofs.Common.{◌≡◌, ◌<◌, ◌≤◌, ◌⊎◌, inl, inr, ℕ, cond, List, [], ◌∷◌, length, Option, Some, None, refl, sym, ◌∙◌, subst, arith}
use Rattle.std.specs.Prelude.{get_or, slice_get}
use Rattle.std.proofs.lemmas.Option.{slice_get_cases}
use Rattle.jn_base.specs.declared.infer.Infer.{Infer}
use Rattle.jn_base.specs.declared.place.Row.{Row}
use Rattle.jn_base.specs.declared.number.BodyNo.{BodyNo}
use Rattle.jn_points.specs.declared.program.Body.{Body}
use Rattle.jn_points.specs.declared.program.Method.{Method}
use Rattle.jn_points.specs.declared.program.Program.{Program}
use Rattle.jn_points.specs.Lookup.{body_no, body_of, method_at}
use Rattle.jn_points.specs.Regular.{BodyBelow, Regular}
use Rattle.jn_places.specs.Placed.{PlacedFile}
use Rattle.jn_heads.specs.declared.head.ClassHead.{ClassHead}
use Rattle.jn_heads.specs.Extract.{heads}
use Rattle.jn_heads.specs.Inferred.{slots_by}
use Rattle.jn_classtable.specs.Table.{program_with, table}
use Rattle.jn_declaration_rules.specs.Rows.{no_rows}
use Rattle.jn_classtable.specs.Rows.{called, t_rows}
use Rattle.jn_classtable.specs.RegularTable.{RegularTable}
use Rattle.jn_classtable.proofs.Fits.{heads_fit}
use Rattle.jn_declaration_rules.proofs.Lists.{append_empty}
use Rattle.jn_classtable.proofs.Whole.{table_regular}
use Rattle.jn_lowering.specs.Bodies.{Source, bodies_of}
use Rattle.jn_lowering.specs.BodyRows.{rows_of_bodies, rows_of_source}
use Rattle.jn_lowering.specs.FileRows.{outside_rows}
use Rattle.jn_lowering.proofs.HeadsFacts.{length_bodies}
use Rattle.jn_program_law.specs.FileProgram.{inferring, j_rows, rows_of_files}
use Rattle.jn_program_law.specs.FileSources.{sources}
use Rattle.jn_program_law.proofs.Sourced.{as_many, is_source}
use Rattle.jn_meaning.specs.Agreement.{Sourced}
use Rattle.jn_meaning.proofs.SameRows.{source_rows_same}
use Rattle.jn_meaning.proofs.Unrowed.{none_of}
use Rattle.jn_meaning.proofs.SameBodies.{HasSources, with_bodies_sourced}

no_body_rows : (ts js : List Row) → cond (no_rows ts) js ts ≡ [] → js ≡ []
no_body_rows [] js h = h
no_body_rows (t ∷ ts) js h = cc

no_table_rows : (ts js : List Row) → cond (no_rows ts) js ts ≡ [] → ts ≡ []
no_table_rows [] js h = refl
no_table_rows (t ∷ ts) js h = cc

module _ (infer : Infer) (files : List PlacedFile) (none : rows_of_files files ≡ []) (whole : Regular (inferring infer files)) where
  abbrev hs : List ClassHead
  hs = heads files

  abbrev P : Program
  P = table hs

  abbrev ss : List Source
  ss = sources files

  abbrev B : List Body
  B = bodies_of P ss

  regular : RegularTable (program_with hs B) (called hs)
  regular = table_regular hs B (heads_fit files) (no_table_rows (t_rows hs) (j_rows files) none) (length_bodies P ss ∙ as_many files) whole.few.fields whole.few.methods

  below : (m b : ℕ) → body_of (method_at P m) ≡ Some b → b < length ss
  below m b e = by (method_at P m) refl e
    where
      numbered : (o : Option BodyNo) → BodyBelow (program_with hs B) o → body_no o ≡ Some b → b < length ss
      numbered None h e = cc
      numbered (Some k) h e = let same : k.0 ≡ b = cc in subst (λ n. n < length ss) same (subst (λ n. k.0 < n) (length_bodies P ss) h)

      by : (o : Option Method) → method_at P m ≡ o → body_of o ≡ Some b → b < length ss
      by None i e = cc
      by (Some x) i e = (let r = regular.methods m x i in numbered x.body r.body e)

  has : HasSources P ss
  has m b e = by (slice_get_cases ss b).1
    where
      by : ((s : Source) × (b < length ss) × (slice_get ss b ≡ Some s) × (get_or ss b s ≡ s)) ⊎ ((length ss ≤ b) × (slice_get ss b ≡ None)) → (s : Source) × (slice_get ss b ≡ Some s) × (s.method ≡ m)
      by (inl h) = (h.0, h.2, (let r = is_source files B regular b h.0 h.2 in sym (r.its_own m e)))
      by (inr h) = absurd (let a = h.0 in let d = below m b e in omega (a, d, arith))

  pub files_sourced : Sourced (inferring infer files) (sources files)
  files_sourced = with_bodies_sourced P ss (slots_by infer files) has

  -- and they have no rows
  pub files_unrowed : (b : ℕ) (s : Source) → slice_get (sources files) b ≡ Some s → rows_of_source (inferring infer files) s ≡ []
  files_unrowed b s there = source_rows_same P (inferring infer files) s ∙ none_of P ss b s there (append_empty (outside_rows files) (rows_of_bodies P ss) (no_body_rows (t_rows hs) (j_rows files) none)).1
