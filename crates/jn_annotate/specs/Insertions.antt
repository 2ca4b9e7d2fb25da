-- Where a file's text gets the words of its inferred slots: at the types of fields, parameters and results, and at receivers.
-- Tokens are those after which nothing was looked at yet, as in the places of trees; fields and methods are those of the program
-- that were not declared before.
use Rattle.std.specs.Prelude.{ℕ, zero, suc, ◌+◌, cond, List, [], ◌∷◌, ◌++◌, length, drop, codes, Option, Some, None, slice_get, slice_index_or}
use Rattle.jn_base.specs.declared.number.NameNo.{NameNo}
use Rattle.jn_base.specs.declared.number.SlotNo.{SlotNo}
use Rattle.jn_quals.specs.Qualifier.{Qualifier}
use Rattle.jn_quals.specs.Order.{no_qual}
use Rattle.jn_points.specs.declared.program.Field.{Field}
use Rattle.jn_points.specs.declared.program.Method.{Method}
use Rattle.jn_points.specs.declared.program.SlotInfo.{SlotInfo}
use Rattle.jn_trees.specs.declared.token.Token.{Token}
use Rattle.jn_trees.specs.declared.token.TokenKind.TheVariants.{Id, LeftParen, LeftBrace, Class, Interface, Implements, Extends}
use Rattle.jn_trees.specs.Trees.{BaseTree, TypeUseTree, ParameterTree, ReceiverTree, MemberTree, FieldMember, MethodMember, ConstructorMember, TypeDeclaration, ClassType, InterfaceType, SourceTree}
use Rattle.jn_trees.specs.Spelling.{base_token, spell_annotations, spell_marks, spell_all_marks, spell_result, spell_member, spell_parent, spell_names, spell_type, spell_package_line, spell_imports}
use Rattle.jn_places.specs.Places.{behind, front, spell_parameter_through, spell_receiver}
use Rattle.jn_annotate.specs.Words.{nullity_text, initialization_text, both_texts}
use Rattle.jn_splice_law.specs.Inserted.{Insertion}
use Rattle.jn_splice_law.specs.Woven.{piece}

-- how many fields and methods a member declares
abbrev pub fields_in : MemberTree → ℕ
fields_in (FieldMember ms u d ds) = 1 + length ds
fields_in m = 0

abbrev pub methods_in : MemberTree → ℕ
methods_in (FieldMember ms u d ds) = 0
methods_in m = 1

abbrev pub constructors_in : MemberTree → ℕ
constructors_in (ConstructorMember ms n ps ss) = 1
constructors_in m = 0

abbrev pub in_all : (MemberTree → ℕ) → List MemberTree → ℕ
in_all f [] = 0
in_all f (m ∷ ms) = f m + in_all f ms

-- where no constructor is written, one stands after the methods (JLS 8, 8.8.9)
abbrev pub unwritten : ℕ → ℕ
unwritten zero = 1
unwritten (suc n) = 0

abbrev pub type_fields : TypeDeclaration → ℕ
type_fields (ClassType ms n parent interfaces members) = in_all fields_in members
type_fields (InterfaceType ms n parents members) = in_all fields_in members

abbrev pub type_methods : TypeDeclaration → ℕ
type_methods (ClassType ms n parent interfaces members) = in_all methods_in members + unwritten (in_all constructors_in members)
type_methods (InterfaceType ms n parents members) = in_all methods_in members

-- the fields and methods of a file's types
abbrev pub file_fields : List TypeDeclaration → ℕ
file_fields [] = 0
file_fields (t ∷ ts) = type_fields t + file_fields ts

abbrev pub file_methods : List TypeDeclaration → ℕ
file_methods [] = 0
file_methods (t ∷ ts) = type_methods t + file_methods ts

-- the place of the type's first token, or, of an array's type, that of its `[` (JLS 8, 9.7.4)
abbrev pub type_at : List Token → BaseTree → Option (List NameNo) → ℕ
type_at ts base None = (front ts).from
type_at ts base (Some notes) = (front (behind ts (base_token base ∷ spell_annotations notes))).from

-- before `[` with a space before the words
abbrev pub type_words : List ℕ → Option (List NameNo) → List ℕ
type_words words None = words
type_words words (Some notes) = codes " " ++ words

abbrev pub at_type : (Qualifier → List ℕ) → List Token → TypeUseTree → Option Qualifier → List Insertion
at_type text ts u None = []
at_type text ts u (Some q) = record { at = type_at ts u.base u.array; words = type_words (text q) u.array } ∷ []

abbrev pub comma : List ParameterTree → List ℕ
comma [] = []
comma (p ∷ ps) = codes ", "

-- a receiver that is named gets the word before its class's name; one that isn't is named, after the parenthesis
abbrev pub at_receiver : List ℕ → List Token → Option ReceiverTree → List ParameterTree → Option Qualifier → List Insertion
at_receiver class paren r ps None = []
at_receiver class paren None ps (Some q) = record { at = (front paren).to; words = initialization_text q ++ (class ++ (codes " this" ++ comma ps)) } ∷ []
at_receiver class paren (Some r) ps (Some q) = record { at = (front (behind (drop 1 paren) (spell_annotations r.annotations))).from; words = initialization_text q } ∷ []

abbrev pub first_slot : List Field → Option SlotNo
first_slot [] = None
first_slot (f ∷ fs) = f.slot

module _ (slots : List SlotInfo) (s : List Qualifier) where
  abbrev pub qual_where : Option SlotInfo → ℕ → Option Qualifier
  qual_where None i = None
  qual_where (Some info) i = cond info.inferred (Some (slice_index_or s i no_qual)) None

  -- the qualifier of a slot that is inferred
  abbrev pub inferred_qual : Option SlotNo → Option Qualifier
  inferred_qual None = None
  inferred_qual (Some i) = qual_where (slice_get slots i.0) i.0

  abbrev pub at_parameters : List Token → List ParameterTree → List (Option SlotNo) → List Insertion
  at_parameters ts [] xs = []
  at_parameters ts (p ∷ ps) [] = []
  at_parameters ts (p ∷ ps) (x ∷ xs) = at_type both_texts (behind ts (spell_marks p.marks)) p.type_use (inferred_qual x) ++ at_parameters (behind ts (spell_parameter_through p)) ps xs

  abbrev pub at_result : List Token → Option TypeUseTree → Option SlotNo → List Insertion
  at_result ts None x = []
  at_result ts (Some u) x = at_type both_texts ts u (inferred_qual x)

  -- `paren` are the tokens from the parenthesis on
  abbrev pub at_head : List ℕ → List Token → Option ReceiverTree → List ParameterTree → Method → List Insertion
  at_head class paren r ps m = at_receiver class paren r ps (inferred_qual m.receiver) ++ at_parameters (behind (drop 1 paren) (spell_receiver r)) ps m.param_slots

  -- one for all fields of a declaration, by the first
  abbrev pub at_member : List ℕ → List Token → MemberTree → List Field → List Method → List Insertion
  at_member class ts (FieldMember ms u d ds) fs methods = at_type nullity_text (behind ts (spell_all_marks ms)) u (inferred_qual (first_slot fs))
  at_member class ts m fs [] = []
  at_member class ts (MethodMember ms u n r ps body) fs (m ∷ methods) =
      let result = behind ts (spell_all_marks ms) in
      at_result result u m.result_slot ++ at_head class (behind result (spell_result u ++ Id n ∷ [])) r ps m
  at_member class ts (ConstructorMember ms n ps ss) fs (m ∷ methods) = at_parameters (behind ts (spell_all_marks ms ++ Id n ∷ LeftParen ∷ [])) ps m.param_slots

  abbrev pub at_members : List ℕ → List Token → List MemberTree → List Field → List Method → List Insertion
  at_members class ts [] fs methods = []
  at_members class ts (m ∷ ms) fs methods = at_member class ts m fs methods ++ at_members class (behind ts (spell_member m)) ms (drop (fields_in m) fs) (drop (methods_in m) methods)

  module _ (text : List ℕ) where
    abbrev pub in_type : List Token → TypeDeclaration → List Field → List Method → List Insertion
    in_type ts (ClassType ms n parent interfaces members) fs methods =
        let name = behind ts (spell_all_marks ms ++ Class ∷ []) in
        let inside = behind (drop 1 name) (spell_parent parent ++ (spell_names Implements interfaces ++ LeftBrace ∷ [])) in
        at_members (piece text (front name)) inside members fs methods
    in_type ts (InterfaceType ms n parents members) fs methods =
        let name = behind ts (spell_all_marks ms ++ Interface ∷ []) in
        let inside = behind (drop 1 name) (spell_names Extends parents ++ LeftBrace ∷ []) in
        at_members (piece text (front name)) inside members fs methods

    abbrev pub in_types : List Token → List TypeDeclaration → List Field → List Method → List Insertion
    in_types ts [] fs methods = []
    in_types ts (t ∷ rest) fs methods = in_type ts t fs methods ++ in_types (behind ts (spell_type t)) rest (drop (type_fields t) fs) (drop (type_methods t) methods)

    -- those of a file, in the order of their places
    abbrev pub in_file : List Token → SourceTree → List Field → List Method → List Insertion
    in_file ts f fs methods = in_types (behind ts (spell_package_line f.package_line ++ spell_imports f.imports)) f.types fs methods
