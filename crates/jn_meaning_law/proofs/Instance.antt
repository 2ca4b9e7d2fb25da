-- The laws' premises are met by a file: `class A { public static void main(String[] args) { int x = 1; System.out.println(x + (x = 3) * x); } }`.
use Rattle.std.proofs.Common.{◌≡◌, ◌<◌, ◌^◌, ℕ, Bool, true, List, [], ◌∷◌, length, Some, None, refl, lit<}
use Rattle.jn_base.specs.declared.infer.Infer.TheVariants.{Private}
use Rattle.jn_base.specs.declared.place.Span.{Span}
use Rattle.jn_trees.specs.declared.expression.Identifier.{Identifier}
use Rattle.jn_trees.specs.declared.expression.Base.TheVariants.{Class as ClassUse}
use Rattle.jn_trees.specs.declared.declaration.Modifier.TheVariants.{Public, Static}
use Rattle.jn_points.specs.declared.point.Point.{Point}
use Rattle.jn_points.specs.declared.program.Program.{Program}
use Rattle.jn_points.specs.BaseRows.{NoBaseRows, result_rows, type_rows}
use Rattle.jn_points.specs.Lookup.{point_at}
use Rattle.jn_points.specs.Operands.{operands}
use Rattle.jn_places.specs.Placed.{PlacedFile, PlacedClass, PlacedMethod, PlacedVoid}
use Rattle.jn_program_law.specs.FileProgram.{inferring, rows_of_files}
use Rattle.jn_program_law.specs.FileSources.{sources as sources_of}
use Rattle.jn_soundness.proofs.Finite.{points_each}
use Rattle.jn_regular_law.proofs.Given.{EachAssigned, no_base_rows, written_before}
use Rattle.jn_heap.specs.Values.{usual_limits}
use Rattle.jn_heap.specs.Runs.{MainForm}
use Rattle.jn_meaning.specs.Bodies.{Returned, tree}
use Rattle.jn_meaning.proofs.Rows.{order}
use Rattle.std.specs.Fmt.{signed_decimal}
use Rattle.std.specs.Prelude.{◌++◌, pos}

abbrev here : Span
here = record { file = record { 0 = 0 }; from = 0; to = 0 }

abbrev named : ℕ → Identifier
named n = record { name = record { 0 = n }; span = here }

abbrev files : List PlacedFile
files = record {
  package_line = None;
  imports = [];
  types = PlacedClass [] (named 100) None [] (PlacedMethod (Public here ∷ Static here ∷ []) (PlacedVoid here) (named 5) None (record { marks = []; type_use = record { base = ClassUse (named 0); array = Some []; span = here }; name = named 103 } ∷ []) (Some order) here ∷ []) here ∷ [];
} ∷ []

abbrev P : Program
P = inferring Private files

no_rows : rows_of_files files ≡ []
no_rows = refl

few_fields : length P.fields < 2 ^ 32
few_fields = lit< tt

few_methods : length P.methods < 2 ^ 32
few_methods = lit< tt

types : (b p : ℕ) (pt : Point) → point_at P b p ≡ Some pt → type_rows P b pt.kind ≡ []
types = points_each P (λ b p pt. type_rows P b pt.kind ≡ []) ((refl, tt), ((refl, (refl, (refl, (refl, (refl, (refl, (refl, (refl, (refl, tt))))))))), ((refl, tt), tt)))

results : (b p : ℕ) (pt : Point) → point_at P b p ≡ Some pt → result_rows P b pt.kind ≡ []
results = points_each P (λ b p pt. result_rows P b pt.kind ≡ []) ((refl, tt), ((refl, (refl, (refl, (refl, (refl, (refl, (refl, (refl, (refl, tt))))))))), ((refl, tt), tt)))

abbrev first_value : List Bool
first_value = true ∷ []

abbrev first_local : List Bool
first_local = true ∷ true ∷ []

assigned : (b p : ℕ) (pt : Point) → point_at P b p ≡ Some pt → EachAssigned P b p (operands pt.kind)
assigned = points_each P (λ b p pt. EachAssigned P b p (operands pt.kind)) (
  (tt, tt),
  (
    (
      tt,
      (
        (written_before P 1 1 _ first_value refl refl refl, tt),
        (
          (written_before P 1 2 _ first_local refl refl refl, tt),
          (
            tt,
            (
              (written_before P 1 4 _ (true ∷ true ∷ true ∷ true ∷ []) refl refl refl, tt),
              (
                (written_before P 1 5 _ first_local refl refl refl, (written_before P 1 5 _ first_local refl refl refl, tt)),
                (
                  (written_before P 1 6 _ first_value refl refl refl, (written_before P 1 6 _ (true ∷ true ∷ true ∷ true ∷ true ∷ true ∷ []) refl refl refl, tt)),
                  (
                    (written_before P 1 7 _ (true ∷ true ∷ true ∷ true ∷ true ∷ true ∷ true ∷ []) refl refl refl, tt),
                    (tt, tt),
                  ),
                ),
              ),
            ),
          ),
        ),
      ),
    ),
    ((tt, tt), tt),
  ),
)

typed : NoBaseRows P
typed = no_base_rows P types (λ b p pt is r. results b p pt is) assigned

main : MainForm P 1 1
main = record { method = _; there = refl; is_main = refl; body = refl; slot = record { 0 = 0 }; info = _; param = refl; start = refl; written = refl; committed = refl }

-- and its trees print 10
prints_10 : tree P (sources_of files) [] usual_limits 1 [] 1 ≡ record { end = Returned; text = signed_decimal (pos 10) ++ 10 ∷ [] }
prints_10 = refl
