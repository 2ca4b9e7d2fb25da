-- The source of each body of files, in the order of bodies: Object's constructor, then the bodies of each class by file and text, a constructor that isn't written after the methods.
use Rattle.std.specs.Prelude.{ℕ, suc, Bool, true, false, cond, List, [], ◌∷◌, ◌++◌, flat_map, Option, Some, None}
use Rattle.jn_places.specs.Placed.{PlacedStatements, NoPlacedStatements, PlacedParameter, PlacedMember, PlacedMethod, PlacedConstructor, PlacedType, PlacedClass, PlacedInterface, PlacedFile}
use Rattle.jn_heads.specs.Extract.{has_constructor, method_heads}
use Rattle.jn_lowering.specs.Bodies.{Source}

-- the trees of a body: its parameters and statements, and the members of its class
pub record BodyTree : Type 0 where
  pub parameters : List PlacedParameter
  pub body : PlacedStatements
  pub members : List PlacedMember

-- the trees of a body, by all members of its class; a method without a body has none (JLS 8, 8.4.7)
abbrev pub tree_of : List PlacedMember → List PlacedParameter → Option PlacedStatements → Option BodyTree
tree_of all parameters None = None
tree_of all parameters (Some body) = Some (record { parameters = parameters; body = body; members = all })

-- for each method or constructor that the member declares, its body, if it has one; an interface has no constructor
abbrev pub member_trees : Bool → List PlacedMember → PlacedMember → List (Option BodyTree)
member_trees interface all (PlacedMethod marks result name receiver parameters body span) = tree_of all parameters body ∷ []
member_trees false all (PlacedConstructor marks name parameters body span) = tree_of all parameters (Some body) ∷ []
member_trees interface all member = []

-- the same for all members of a class or interface, in the order of the text
abbrev pub members_trees : Bool → List PlacedMember → List PlacedMember → List (Option BodyTree)
members_trees interface all members = flat_map (member_trees interface all) members

-- a constructor that isn't written has no parameter and no statement (JLS 8, 8.8.9)
abbrev pub unwritten_tree : List PlacedMember → Option BodyTree
unwritten_tree all = Some (record { parameters = []; body = NoPlacedStatements; members = all })

-- the same for a class or interface as a whole, with the constructor that a class has where none is written (JLS 8, 8.8.9)
abbrev pub type_trees : PlacedType → List (Option BodyTree)
type_trees (PlacedClass marks name parent interfaces members span) =
    cond (has_constructor (flat_map (method_heads false) members))
    (members_trees false members members)
    (members_trees false members members ++ unwritten_tree members ∷ [])
type_trees (PlacedInterface marks name parents members span) = members_trees true members members

-- all classes and interfaces that the files declare, by file and text
abbrev pub types_of : List PlacedFile → List PlacedType
types_of files = flat_map (λ (f : PlacedFile). f.types) files

-- for each method of the program, in the order of their numbers, its body, if it has one
abbrev pub body_trees : List PlacedFile → List (Option BodyTree)
body_trees files = unwritten_tree [] ∷ flat_map type_trees (types_of files)

-- the bodies that there are, each with the number of its method; the methods are numbered from m on
abbrev pub numbered : ℕ → List (Option BodyTree) → List Source
numbered m [] = []
numbered m (None ∷ ts) = numbered (suc m) ts
numbered m (Some t ∷ ts) = record { method = m; parameters = t.parameters; body = t.body; members = t.members } ∷ numbered (suc m) ts

-- the source of each body, in the order of the bodies' numbers
abbrev pub sources : List PlacedFile → List Source
sources files = numbered 0 (body_trees files)
