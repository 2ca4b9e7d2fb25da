-- Files that meet the law's premise, by computation, and one whose row is lowering's.
use Rattle.std.proofs.Common.{◌≡◌, ◌<◌, ◌^◌, ℕ, List, [], ◌∷◌, length, Option, Some, None, refl, lit<}
use Rattle.jn_base.specs.declared.code.Code.TheVariants.{J1}
use Rattle.jn_base.specs.declared.place.Span.{Span}
use Rattle.jn_trees.specs.declared.expression.Identifier.{Identifier}
use Rattle.jn_trees.specs.declared.expression.Base.TheVariants.{Class as ClassUse, Int as IntUse}
use Rattle.jn_trees.specs.declared.expression.Literal.TheVariants.{Number}
use Rattle.jn_trees.specs.declared.declaration.Modifier.TheVariants.{Public, Static}
use Rattle.jn_points.specs.Regular.{Regular}
use Rattle.jn_places.specs.Placed.{PlacedLiteral, PlacedName, NoPlacedTrees, PlacedTypeUse, PlacedThisCall, MorePlacedTrees, PlacedReturn, NoPlacedStatements, MorePlacedStatements, PlacedStatements, PlacedVoid, PlacedValue, PlacedFieldMember, PlacedMember, PlacedMethod, PlacedConstructor, PlacedClass, PlacedFile}
use Rattle.jn_program_law.specs.FileProgram.{program_of_files, rows_of_files}
use Rattle.jn_program_law.proofs.Program.{program_regular}

abbrev at : ℕ → ℕ → Span
at from to = record { file = record { 0 = 0 }; from = from; to = to }

abbrev here : Span
here = at 0 0

abbrev named : ℕ → Identifier
named n = record { name = record { 0 = n }; span = here }

abbrev use_of : Identifier → PlacedTypeUse
use_of n = record { base = ClassUse n; array = None; span = here }

abbrev int : PlacedTypeUse
int = record { base = IntUse here; array = None; span = here }

abbrev one_class : List PlacedMember → List PlacedFile
one_class members = record { package_line = None; imports = []; types = PlacedClass [] (named 100) None [] members here ∷ [] } ∷ []

abbrev returning : Identifier → PlacedStatements
returning n = MorePlacedStatements (PlacedReturn (Some (PlacedName n)) here) NoPlacedStatements

--   class A {
--     static int count = 1;
--     A next;
--     A(int args) { }
--     A() { this(1); }
--     A get() { return next; }
--     public static void main(String[] args) { }
--   }
abbrev members : Identifier → List PlacedMember
members n =
    PlacedFieldMember (Static here ∷ []) int (record { name = named 104; value = Some (PlacedLiteral (Number 1) here) }) [] here
    ∷ PlacedFieldMember [] (use_of (named 100)) (record { name = named 101; value = None }) [] here
    ∷ PlacedConstructor [] (named 100) (record { marks = []; type_use = int; name = named 103 } ∷ []) NoPlacedStatements here
    ∷ PlacedConstructor [] (named 100) [] (MorePlacedStatements (PlacedThisCall (MorePlacedTrees (PlacedLiteral (Number 1) here) NoPlacedTrees) here) NoPlacedStatements) here
    ∷ PlacedMethod [] (PlacedValue (use_of (named 100))) (named 102) None [] (Some (returning n)) here
    ∷ PlacedMethod (Public here ∷ Static here ∷ []) (PlacedVoid here) (named 5) None (record { marks = []; type_use = record { base = ClassUse (named 0); array = Some []; span = here }; name = named 103 } ∷ []) (Some NoPlacedStatements) here
    ∷ []

no_row : rows_of_files (one_class (members (named 101))) ≡ []
no_row = refl

-- the law's premises are met
regular : Regular (program_of_files (one_class (members (named 101))))
regular = program_regular (one_class (members (named 101))) no_row (lit< tt) (lit< tt)

-- a name that nothing has, at its place
unknown_name : rows_of_files (one_class (members (record { name = record { 0 = 109 }; span = at 7 8 }))) ≡ record { span = at 7 8; code = J1 } ∷ []
unknown_name = refl
