-- The methods of a class table fit the trees that declare them: a static one has no receiver.
use Rattle.std.proofs.Common.{◌≡◌, ℕ, suc, ◌+◌, Bool, true, false, not, ◌||◌, List, [], ◌∷◌, ◌++◌, length, refl, sym, ap, ◌∙◌, subst, append_assoc}
use Rattle.std.specs.Prelude.{drop, map, flat_map}
use Rattle.std.proofs.lemmas.Bool.{false≢true}
use Rattle.std.proofs.lemmas.List.{append-nil, drop_at}
use Rattle.jn_quals.specs.Qualifier.{Qualifier}
use Rattle.jn_points.specs.declared.program.Method.{Method}
use Rattle.jn_points.specs.declared.program.SlotInfo.{SlotInfo}
use Rattle.jn_trees.specs.declared.context.Owner.{Owner}
use Rattle.jn_trees.specs.declared.token.Token.{Token}
use Rattle.jn_trees.specs.declared.token.TokenKind.TheVariants.{Class, Interface, LeftBrace, Implements, Extends}
use Rattle.jn_trees.specs.Trees.{Mark, NoteMark, PublicMark, ProtectedMark, PrivateMark, StaticMark, ConstantMark, AbstractMark, MemberTree, FieldMember, MethodMember, ConstructorMember, TypeDeclaration, ClassType, InterfaceType, SourceTree}
use Rattle.jn_trees.specs.WellFormed.{has_static, GoodMembers, GoodType, GoodTypes}
use Rattle.jn_trees.specs.Spelling.{spell_mark, spell_all_marks, spell_parent, spell_names, spell_member, spell_type, spell_package_line, spell_imports}
use Rattle.jn_places.specs.Placed.{PlacedFile}
use Rattle.jn_places.specs.Places.{behind, place_name, place_marks, place_member, place_members, place_type}
use Rattle.jn_places.specs.Forget.{forget_file}
use Rattle.jn_heads.specs.declared.notes.Word.TheVariants.{Static as StaticWord}
use Rattle.jn_heads.specs.declared.head.MethodHead.{MethodHead}
use Rattle.jn_heads.specs.declared.head.ClassHead.{ClassHead}
use Rattle.jn_heads.specs.Types.{fields_slots, method_slots, class_slots, slots_of_all}
use Rattle.jn_classtable.specs.Table.{slot_at, methods_of, methods_from, bodies_of, bodies_of_all, count, table}
use Rattle.jn_heads.specs.Extract.{has_word, method_heads, class_head, heads}
use Rattle.jn_annotate.specs.Insertions.{type_methods, file_methods, inferred_qual}
use Rattle.jn_annotate_law.specs.Fits.{MembersFit, TypeFits, TypesFit, FilesFit}
use Rattle.jn_annotate_law.specs.Meaning.{AllPlaced}
use Rattle.jn_heads.specs.Heads.{unplaced, unwritten_constructor}
use Rattle.jn_annotate_law.proofs.Classes.{with_methods, type_methods_long}
use Rattle.jn_annotate_law.proofs.Written.{heads_at, methods_from_append, methods_from_long}

abbrev head_of : List MethodHead → MethodHead
head_of [] = unwritten_constructor (unplaced (record { 0 = 0 }))
head_of (x ∷ xs) = x

abbrev at_members : Bool → List Token → List MemberTree → List MethodHead
at_members interface ts ms = flat_map (method_heads interface) (place_members ts ms)

static_word : (ts : List Token) (ms : List Mark) → has_static ms ≡ has_word StaticWord (place_marks ts ms)
static_word ts [] = refl
static_word ts (NoteMark n ∷ ms) = static_word (behind ts (spell_mark (NoteMark n))) ms
static_word ts (PublicMark ∷ ms) = static_word (drop 1 ts) ms
static_word ts (ProtectedMark ∷ ms) = static_word (drop 1 ts) ms
static_word ts (PrivateMark ∷ ms) = static_word (drop 1 ts) ms
static_word ts (StaticMark ∷ ms) = refl
static_word ts (ConstantMark ∷ ms) = static_word (drop 1 ts) ms
static_word ts (AbstractMark ∷ ms) = static_word (drop 1 ts) ms

module _ (slots : List SlotInfo) (s : List Qualifier) (hs : List ClassHead) where
  members_fit : (o : Owner) (interface : Bool) → o.interface ≡ interface → (ms : List MemberTree) (c k b : ℕ) (rest : List Method) (ts : List Token) → GoodMembers o ms → MembersFit slots s ms (methods_of hs c k b (at_members interface ts ms) ++ rest)
  members_fit o interface io [] c k b rest ts g = tt
  members_fit o true io (FieldMember marks u d ds ∷ ms) c k b rest ts g = (tt, members_fit o true io ms c k b rest (behind ts (spell_member (FieldMember marks u d ds))) g.1)
  members_fit o false io (FieldMember marks u d ds ∷ ms) c k b rest ts g = (tt, members_fit o false io ms c k b rest (behind ts (spell_member (FieldMember marks u d ds))) g.1)
  members_fit o true io (ConstructorMember marks n ps ss ∷ ms) c k b rest ts g = absurd (false≢true (sym g.0.0.1 ∙ io))
  members_fit o false io (ConstructorMember marks n ps ss ∷ ms) c k b rest ts g =
      let old : MethodHead = head_of (method_heads false (place_member ts (ConstructorMember marks n ps ss))) in
      (tt, members_fit o false io ms c (k + length (method_slots hs old)) (b + 1) rest (behind ts (spell_member (ConstructorMember marks n ps ss))) g.1)
  members_fit o interface io (MethodMember marks u n r ps body ∷ ms) c k b rest ts g =
      let old : MethodHead = head_of (method_heads interface (place_member ts (MethodMember marks u n r ps body))) in (
        λ e. ap (λ x. inferred_qual slots s (slot_at (not (x || false)) k)) (sym (static_word ts marks) ∙ e),
        members_fit o interface io ms c (k + length (method_slots hs old)) (b + count old.has_body) rest (behind ts (spell_member (MethodMember marks u n r ps body))) g.1,
      )

  type_fit : (t : TypeDeclaration) (c k b : ℕ) (rest : List Method) (ts : List Token) → GoodType t → TypeFits slots s t (methods_of hs c k b (class_head (place_type ts t)).methods ++ rest)
  type_fit (ClassType marks n parent interfaces members) c k b rest ts g =
      let at : List Token = behind ts (spell_all_marks marks ++ Class ∷ []) in
      let inside : List Token = behind (behind (drop 1 at) (spell_parent parent)) (spell_names Implements interfaces ++ LeftBrace ∷ []) in
      let w = with_methods hs c k b (place_name at n) (at_members false inside members) rest in
      subst (MembersFit slots s members) (sym w.1) (members_fit (record { interface = false; name = n }) false refl members c k b w.0 inside g.1)
  type_fit (InterfaceType marks n parents members) c k b rest ts g =
      let inside : List Token = behind (drop 1 (behind ts (spell_all_marks marks ++ Interface ∷ []))) (spell_names Extends parents ++ LeftBrace ∷ []) in
      members_fit (record { interface = true; name = n }) true refl members c k b rest inside g.1

  types_fit : (types : List TypeDeclaration) (c k b : ℕ) (ms rest : List Method) (ts : List Token) → ms ≡ methods_from hs c k b (heads_at ts types) ++ rest → GoodTypes types → TypesFit slots s types ms
  types_fit [] c k b ms rest ts e g = tt
  types_fit (t ∷ types) c k b ms rest ts e g =
      let x : ClassHead = class_head (place_type ts t) in
      let later : List Token = behind ts (spell_type t) in
      let n : ℕ = k + length (fields_slots hs x.fields) in
      let D : List Method = methods_of hs c n b x.methods in
      let F : List Method = methods_from hs (suc c) (k + length (class_slots hs x)) (b + bodies_of x.methods) (heads_at later types) in
      let cut : ms ≡ D ++ (F ++ rest) = e ∙ append_assoc D F rest in
      let dropped : drop (type_methods t) ms ≡ F ++ rest = ap (drop (type_methods t)) cut ∙ drop_at D (F ++ rest) (type_methods t) (type_methods_long hs c n b t ts g.0) in
      (subst (TypeFits slots s t) (sym cut) (type_fit t c n b (F ++ rest) ts g.0), types_fit types (suc c) (k + length (class_slots hs x)) (b + bodies_of x.methods) (drop (type_methods t) ms) rest later dropped g.1)

  files_fit : (tokens : List (List Token)) (trees : List PlacedFile) (c k b : ℕ) (ms rest : List Method) → AllPlaced tokens trees → ms ≡ methods_from hs c k b (heads trees) ++ rest → FilesFit slots s (map forget_file trees) ms
  files_fit [] [] c k b ms rest p e = tt
  files_fit [] (tree ∷ trees) c k b ms rest p e = absurd p
  files_fit (ts ∷ tokens) [] c k b ms rest p e = absurd p
  files_fit (ts ∷ tokens) (tree ∷ trees) c k b ms rest p e =
      let bare : SourceTree = forget_file tree in
      let at : List Token = behind (behind ts (spell_package_line bare.package_line)) (spell_imports bare.imports) in
      let xs : List ClassHead = heads_at at bare.types in
      let ys : List ClassHead = heads trees in
      let head_is : heads (tree ∷ trees) ≡ xs ++ ys = ap (λ (x : PlacedFile). map class_head x.types ++ ys) p.0.1 in
      let c' : ℕ = c + length xs in
      let k' : ℕ = k + length (slots_of_all hs xs) in
      let b' : ℕ = b + bodies_of_all xs in
      let D : List Method = methods_from hs c k b xs in
      let F : List Method = methods_from hs c' k' b' ys in
      let cut : ms ≡ D ++ (F ++ rest) = e ∙ ap (λ x. methods_from hs c k b x ++ rest) head_is ∙ ap (λ x. x ++ rest) (methods_from_append hs c k b xs ys) ∙ append_assoc D F rest in
      let dropped : drop (file_methods bare.types) ms ≡ F ++ rest = ap (drop (file_methods bare.types)) cut ∙ drop_at D (F ++ rest) (file_methods bare.types) (methods_from_long hs c k b bare.types at p.0.0.0) in
      (types_fit bare.types c k b ms (F ++ rest) at cut p.0.0.0, files_fit tokens trees c' k' b' (drop (file_methods bare.types) ms) rest p.1 dropped)

pub all_fit : (tokens : List (List Token)) (trees : List PlacedFile) (slots : List SlotInfo) (s : List Qualifier) → AllPlaced tokens trees → FilesFit slots s (map forget_file trees) (drop 1 (table (heads trees)).methods)
all_fit tokens trees slots s p =
    let hs : List ClassHead = heads trees in
    files_fit slots s hs tokens trees 2 0 1 (methods_from hs 2 0 1 hs) [] p (sym (append-nil (methods_from hs 2 0 1 hs)))
