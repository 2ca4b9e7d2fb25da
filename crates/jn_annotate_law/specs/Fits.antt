-- Methods of a program that fit the trees which declare them: no static method has an inferred receiver.
use Rattle.std.specs.Prelude.{◌≡◌, true, List, [], ◌∷◌, drop, None}
use Rattle.jn_quals.specs.Qualifier.{Qualifier}
use Rattle.jn_points.specs.declared.program.Method.{Method}
use Rattle.jn_points.specs.declared.program.SlotInfo.{SlotInfo}
use Rattle.jn_trees.specs.Trees.{MemberTree, MethodMember, TypeDeclaration, ClassType, InterfaceType, SourceTree}
use Rattle.jn_trees.specs.WellFormed.{has_static}
use Rattle.jn_annotate.specs.Insertions.{methods_in, type_methods, file_methods, inferred_qual}

module _ (slots : List SlotInfo) (s : List Qualifier) where
  abbrev pub MemberFits : MemberTree → List Method → Type 0
  MemberFits (MethodMember ms u n r ps body) (m ∷ methods) = has_static ms ≡ true → inferred_qual slots s m.receiver ≡ None
  MemberFits m methods = Unit {0}

  abbrev pub MembersFit : List MemberTree → List Method → Type 0
  MembersFit [] methods = Unit {0}
  MembersFit (m ∷ ms) methods = MemberFits m methods × MembersFit ms (drop (methods_in m) methods)

  abbrev pub TypeFits : TypeDeclaration → List Method → Type 0
  TypeFits (ClassType ms n parent interfaces members) methods = MembersFit members methods
  TypeFits (InterfaceType ms n parents members) methods = MembersFit members methods

  abbrev pub TypesFit : List TypeDeclaration → List Method → Type 0
  TypesFit [] methods = Unit {0}
  TypesFit (t ∷ ts) methods = TypeFits t methods × TypesFit ts (drop (type_methods t) methods)

  abbrev pub FilesFit : List SourceTree → List Method → Type 0
  FilesFit [] methods = Unit {0}
  FilesFit (f ∷ trees) methods = TypesFit f.types methods × FilesFit trees (drop (file_methods f.types) methods)
