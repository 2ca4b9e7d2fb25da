-- All slots of annotated types are written as they were inferred.
use Rattle.std.proofs.Common.{◌≡◌, ℕ, suc, ◌+◌, Bool, true, false, cond, List, [], ◌∷◌, ◌++◌, length, refl, sym, ap, ◌∙◌, subst, arith, append_assoc, length-append}
use Rattle.std.specs.Prelude.{drop, map, flat_map}
use Rattle.std.proofs.lemmas.Bool.{false≢true}
use Rattle.std.proofs.lemmas.List.{append-nil, drop_at}
use Rattle.jn_base.specs.declared.infer.Infer.{Infer}
use Rattle.jn_heads.specs.Inferred.{class_marks}
use Rattle.jn_annotate_law.proofs.Marked.{constructors_same, fields_at, fields_long, marks_at, methods_at, methods_long}
use Rattle.jn_quals.specs.Qualifier.{Qualifier}
use Rattle.jn_points.specs.declared.program.Field.{Field}
use Rattle.jn_points.specs.declared.program.Method.{Method}
use Rattle.jn_points.specs.declared.program.SlotInfo.{SlotInfo}
use Rattle.jn_trees.specs.declared.context.Owner.{Owner}
use Rattle.jn_trees.specs.declared.token.Token.{Token}
use Rattle.jn_trees.specs.declared.token.TokenKind.TheVariants.{Class, Interface, LeftBrace, Implements, Extends}
use Rattle.jn_trees.specs.declared.expression.Identifier.{Identifier}
use Rattle.jn_trees.specs.Trees.{MemberTree, FieldMember, MethodMember, ConstructorMember, TypeDeclaration, ClassType, InterfaceType}
use Rattle.jn_trees.specs.WellFormed.{GoodMembers, GoodType, GoodTypes}
use Rattle.jn_trees.specs.Spelling.{spell_all_marks, spell_type_use, spell_declarator, spell_parent, spell_names, spell_member, spell_type}
use Rattle.jn_places.specs.Places.{behind, place_name, place_member, place_members, place_type, place_marks, place_type_use}
use Rattle.jn_heads.specs.declared.head.FieldHead.{FieldHead}
use Rattle.jn_heads.specs.declared.head.MethodHead.{MethodHead}
use Rattle.jn_heads.specs.declared.head.ClassHead.{ClassHead}
use Rattle.jn_heads.specs.Heads.{unwritten_constructor}
use Rattle.jn_heads.specs.Types.{fields_slots, method_slots, methods_slots, class_slots, slots_of_all}
use Rattle.jn_classtable.specs.Table.{fields_of, fields_from, method_of, methods_of, methods_from, bodies_of, count}
use Rattle.jn_heads.specs.Extract.{field_heads, method_heads, has_constructor, with_constructor, class_head}
use Rattle.jn_annotate.specs.Insertions.{fields_in, methods_in, constructors_in, in_all, unwritten, type_fields, type_methods}
use Rattle.jn_annotate_law.specs.Trees.{noted_members, noted_type, noted_types}
use Rattle.jn_heads_law.specs.Plain.{plain_head}
use Rattle.jn_annotate_law.specs.Worded.{worded_from}
use Rattle.jn_annotate_law.specs.Says.{AllSpelled, MembersSay, TypeSays, TypesSay}
use Rattle.jn_annotate_law.proofs.Positions.{Stands, stands_left, stands_right, slots_append}
use Rattle.jn_annotate_law.proofs.Walks.{methods_walk}
use Rattle.jn_annotate_law.proofs.Fields.{fields_walk, fields_of_long, declarators_long}

-- ---- lists of methods

methods_slots_append : (hs : List ClassHead) (xs ys : List MethodHead) → methods_slots hs (xs ++ ys) ≡ methods_slots hs xs ++ methods_slots hs ys
methods_slots_append hs [] ys = refl
methods_slots_append hs (x ∷ xs) ys = ap (λ t. method_slots hs x ++ t) (methods_slots_append hs xs ys) ∙ sym (append_assoc (method_slots hs x) (methods_slots hs xs) (methods_slots hs ys))

methods_of_append : (hs : List ClassHead) (c k b : ℕ) (xs ys : List MethodHead) → methods_of hs c k b (xs ++ ys) ≡ methods_of hs c k b xs ++ methods_of hs c (k + length (methods_slots hs xs)) (b + bodies_of xs) ys
methods_of_append hs c k b [] ys = ap (λ n. methods_of hs c n b ys) (omega arith) ∙ ap (λ n. methods_of hs c (k + 0) n ys) (omega arith)
methods_of_append hs c k b (x ∷ xs) ys =
    let k1 : ℕ = k + length (method_slots hs x) in
    let b1 : ℕ = b + count x.has_body in
    let e : k1 + length (methods_slots hs xs) ≡ k + length (method_slots hs x ++ methods_slots hs xs) = (let l = length-append (method_slots hs x) (methods_slots hs xs) in omega (arith, l)) in
    let f : b1 + bodies_of xs ≡ b + (count x.has_body + bodies_of xs) = omega arith in
    ap (λ t. method_of hs c k b x ∷ t)
    (methods_of_append hs c k1 b1 xs ys
    ∙ ap (λ n. methods_of hs c k1 b1 xs ++ methods_of hs c n (b1 + bodies_of xs) ys) e
    ∙ ap (λ n. methods_of hs c k1 b1 xs ++ methods_of hs c (k + length (method_slots hs x ++ methods_slots hs xs)) n ys) f)

methods_of_long : (hs : List ClassHead) (c k b : ℕ) (xs : List MethodHead) → length (methods_of hs c k b xs) ≡ length xs
methods_of_long hs c k b [] = refl
methods_of_long hs c k b (x ∷ xs) = ap suc (methods_of_long hs c (k + length (method_slots hs x)) (b + count x.has_body) xs)

-- ---- the constructor that isn't written has no slot

pub with_slots : (hs : List ClassHead) (n : Identifier) (ms : List MethodHead) → methods_slots hs (with_constructor n ms) ≡ methods_slots hs ms
with_slots hs n ms = here (has_constructor ms)
  where
    here : (c : Bool) → methods_slots hs (cond c ms (ms ++ unwritten_constructor n ∷ [])) ≡ methods_slots hs ms
    here true = refl
    here false = methods_slots_append hs ms (unwritten_constructor n ∷ []) ∙ append-nil (methods_slots hs ms)

pub with_methods : (hs : List ClassHead) (c k b : ℕ) (n : Identifier) (ms : List MethodHead) (rest : List Method) → (more : List Method) × (methods_of hs c k b (with_constructor n ms) ++ rest ≡ methods_of hs c k b ms ++ more)
with_methods hs c k b n ms rest = here (has_constructor ms)
  where
    here : (d : Bool) → (more : List Method) × (methods_of hs c k b (cond d ms (ms ++ unwritten_constructor n ∷ [])) ++ rest ≡ methods_of hs c k b ms ++ more)
    here true = (rest, refl)
    here false =
        let last : List Method = methods_of hs c (k + length (methods_slots hs ms)) (b + bodies_of ms) (unwritten_constructor n ∷ []) in
        (last ++ rest, ap (λ x. x ++ rest) (methods_of_append hs c k b ms (unwritten_constructor n ∷ [])) ∙ append_assoc (methods_of hs c k b ms) last rest)

-- ---- how many fields and methods a type declares

length_two : {A : Type 0} (xs ys : List A) (m n : ℕ) → length xs ≡ m → length ys ≡ n → length (xs ++ ys) ≡ m + n
length_two xs ys m n e f = length-append xs ys ∙ ap (λ x. x + length ys) e ∙ ap (λ x. m + x) f

fields_count : (ms : List MemberTree) (ts : List Token) → length (flat_map field_heads (place_members ts ms)) ≡ in_all fields_in ms
fields_count [] ts = refl
fields_count (FieldMember marks u d ds ∷ ms) ts =
    let m : MemberTree = FieldMember marks u d ds in
    let t1 : List Token = behind ts (spell_all_marks marks) in
    let t3 : List Token = behind (behind t1 (spell_type_use u)) (spell_declarator d) in
    let rest = fields_count ms (behind ts (spell_member m)) in
    let l = declarators_long (place_marks ts marks) (place_type_use t1 u) t3 ds in
    let long : length (field_heads (place_member ts m)) ≡ 1 + length ds = omega (arith, l) in
    length_two (field_heads (place_member ts m)) (flat_map field_heads (place_members (behind ts (spell_member m)) ms)) (1 + length ds) (in_all fields_in ms) long rest
fields_count (MethodMember marks u n r ps body ∷ ms) ts = fields_count ms (behind ts (spell_member (MethodMember marks u n r ps body))) ∙ omega arith
fields_count (ConstructorMember marks n ps ss ∷ ms) ts = fields_count ms (behind ts (spell_member (ConstructorMember marks n ps ss))) ∙ omega arith

methods_count : (o : Owner) (interface : Bool) → o.interface ≡ interface → (ms : List MemberTree) (ts : List Token) → GoodMembers o ms → length (flat_map (method_heads interface) (place_members ts ms)) ≡ in_all methods_in ms
methods_count o interface io [] ts g = refl
methods_count o false io (FieldMember marks u d ds ∷ ms) ts g = methods_count o false io ms (behind ts (spell_member (FieldMember marks u d ds))) g.1 ∙ omega arith
methods_count o true io (FieldMember marks u d ds ∷ ms) ts g = methods_count o true io ms (behind ts (spell_member (FieldMember marks u d ds))) g.1 ∙ omega arith
methods_count o interface io (MethodMember marks u n r ps body ∷ ms) ts g = ap suc (methods_count o interface io ms (behind ts (spell_member (MethodMember marks u n r ps body))) g.1) ∙ omega arith
methods_count o true io (ConstructorMember marks n ps ss ∷ ms) ts g = absurd (false≢true (sym g.0.0.1 ∙ io))
methods_count o false io (ConstructorMember marks n ps ss ∷ ms) ts g = ap suc (methods_count o false io ms (behind ts (spell_member (ConstructorMember marks n ps ss))) g.1) ∙ omega arith

constructor_count : (ms : List MemberTree) (ts : List Token) → unwritten (in_all constructors_in ms) ≡ cond (has_constructor (flat_map (method_heads false) (place_members ts ms))) 0 1
constructor_count [] ts = refl
constructor_count (FieldMember marks u d ds ∷ ms) ts = ap unwritten (omega arith) ∙ constructor_count ms (behind ts (spell_member (FieldMember marks u d ds)))
constructor_count (MethodMember marks u n r ps body ∷ ms) ts = ap unwritten (omega arith) ∙ constructor_count ms (behind ts (spell_member (MethodMember marks u n r ps body)))
constructor_count (ConstructorMember marks n ps ss ∷ ms) ts = let e : 1 + in_all constructors_in ms ≡ suc (in_all constructors_in ms) = omega arith in ap unwritten e

with_count : (n : Identifier) (ms : List MethodHead) → length (with_constructor n ms) ≡ length ms + cond (has_constructor ms) 0 1
with_count n ms = here (has_constructor ms)
  where
    here : (c : Bool) → length (cond c ms (ms ++ unwritten_constructor n ∷ [])) ≡ length ms + cond c 0 1
    here true = omega arith
    here false = length-append ms (unwritten_constructor n ∷ [])

pub type_methods_long : (hs : List ClassHead) (c k b : ℕ) (t : TypeDeclaration) (ts : List Token) → GoodType t → length (methods_of hs c k b (class_head (place_type ts t)).methods) ≡ type_methods t
type_methods_long hs c k b (ClassType marks n parent interfaces members) ts g =
    let at : List Token = behind ts (spell_all_marks marks ++ Class ∷ []) in
    let inside : List Token = behind (behind (drop 1 at) (spell_parent parent)) (spell_names Implements interfaces ++ LeftBrace ∷ []) in
    let M : List MethodHead = flat_map (method_heads false) (place_members inside members) in
    methods_of_long hs c k b (with_constructor (place_name at n) M) ∙ with_count (place_name at n) M
    ∙ ap (λ x. x + cond (has_constructor M) 0 1) (methods_count (record { interface = false; name = n }) false refl members inside g.1) ∙ ap (λ x. in_all methods_in members + x) (sym (constructor_count members inside))
type_methods_long hs c k b (InterfaceType marks n parents members) ts g =
    let at : List Token = behind ts (spell_all_marks marks ++ Interface ∷ []) in
    let inside : List Token = behind (drop 1 at) (spell_names Extends parents ++ LeftBrace ∷ []) in
    methods_of_long hs c k b (flat_map (method_heads true) (place_members inside members)) ∙ methods_count (record { interface = true; name = n }) true refl members inside g.1

-- the same where members count as private that are inferred

pub marked_fields_long : (infer : Infer) (hs : List ClassHead) (c k : ℕ) (t : TypeDeclaration) (ts : List Token) → length (fields_of hs c k (class_marks infer (place_type ts t)).fields) ≡ type_fields t
marked_fields_long infer hs c k (ClassType marks n parent interfaces members) ts =
    let inside : List Token = behind (behind (drop 1 (behind ts (spell_all_marks marks ++ Class ∷ []))) (spell_parent parent)) (spell_names Implements interfaces ++ LeftBrace ∷ []) in
    fields_of_long hs c k (fields_at infer false inside members) ∙ fields_long infer false (place_members inside members) ∙ fields_count members inside
marked_fields_long infer hs c k (InterfaceType marks n parents members) ts =
    let inside : List Token = behind (drop 1 (behind ts (spell_all_marks marks ++ Interface ∷ []))) (spell_names Extends parents ++ LeftBrace ∷ []) in
    fields_of_long hs c k (fields_at infer true inside members) ∙ fields_long infer true (place_members inside members) ∙ fields_count members inside

pub marked_methods_long : (infer : Infer) (hs : List ClassHead) (c k b : ℕ) (t : TypeDeclaration) (ts : List Token) → GoodType t → length (methods_of hs c k b (class_marks infer (place_type ts t)).methods) ≡ type_methods t
marked_methods_long infer hs c k b (ClassType marks n parent interfaces members) ts g =
    let at : List Token = behind ts (spell_all_marks marks ++ Class ∷ []) in
    let inside : List Token = behind (behind (drop 1 at) (spell_parent parent)) (spell_names Implements interfaces ++ LeftBrace ∷ []) in
    let M : List MethodHead = methods_at infer false inside members in
    methods_of_long hs c k b (with_constructor (place_name at n) M) ∙ with_count (place_name at n) M
    ∙ ap (λ x. x + cond (has_constructor M) 0 1) (methods_long infer false (place_members inside members) ∙ methods_count (record { interface = false; name = n }) false refl members inside g.1)
    ∙ ap (λ x. in_all methods_in members + cond x 0 1) (constructors_same infer false (place_members inside members))
    ∙ ap (λ x. in_all methods_in members + x) (sym (constructor_count members inside))
marked_methods_long infer hs c k b (InterfaceType marks n parents members) ts g =
    let inside : List Token = behind (drop 1 (behind ts (spell_all_marks marks ++ Interface ∷ []))) (spell_names Extends parents ++ LeftBrace ∷ []) in
    methods_of_long hs c k b (methods_at infer true inside members) ∙ methods_long infer true (place_members inside members) ∙ methods_count (record { interface = true; name = n }) true refl members inside g.1

-- fields and methods that begin with those of one declaration, and what is after them
pub record Parts (fs A B : List Field) (ms D E : List Method) (fields methods : ℕ) : Type 0 where
  pub cut_f : fs ≡ A ++ B
  pub cut_m : ms ≡ D ++ E
  pub rest_f : drop fields fs ≡ B
  pub rest_m : drop methods ms ≡ E

pub parts : (fs A B : List Field) (ms D E : List Method) (fields methods : ℕ) → fs ≡ A ++ B → ms ≡ D ++ E → length A ≡ fields → length D ≡ methods → Parts fs A B ms D E fields methods
parts fs A B ms D E fields methods f m a d = record { cut_f = f; cut_m = m; rest_f = ap (drop fields) f ∙ drop_at A B fields a; rest_m = ap (drop methods) m ∙ drop_at D E methods d }

-- of the first of types
pub type_parts : (infer : Infer) (hs : List ClassHead) (t : TypeDeclaration) (types : List TypeDeclaration) (c k b : ℕ) (fs restf : List Field) (ms restm : List Method) (ts : List Token) → let x : ClassHead = class_marks infer (place_type ts t) in let xs : List ClassHead = marks_at infer (behind ts (spell_type t)) types in let k' : ℕ = k + length (class_slots hs x) in
    fs ≡ fields_from hs c k (marks_at infer ts (t ∷ types)) ++ restf → ms ≡ methods_from hs c k b (marks_at infer ts (t ∷ types)) ++ restm → GoodType t →
    Parts fs (fields_of hs c k x.fields) (fields_from hs (suc c) k' xs ++ restf) ms (methods_of hs c (k + length (fields_slots hs x.fields)) b x.methods) (methods_from hs (suc c) k' (b + bodies_of x.methods) xs ++ restm) (type_fields t) (type_methods t)
type_parts infer hs t types c k b fs restf ms restm ts f m g =
    let x : ClassHead = class_marks infer (place_type ts t) in
    let xs : List ClassHead = marks_at infer (behind ts (spell_type t)) types in
    let k' : ℕ = k + length (class_slots hs x) in
    let b' : ℕ = b + bodies_of x.methods in
    let n : ℕ = k + length (fields_slots hs x.fields) in
    let A : List Field = fields_of hs c k x.fields in
    let D : List Method = methods_of hs c n b x.methods in
    parts fs A (fields_from hs (suc c) k' xs ++ restf) ms D (methods_from hs (suc c) k' b' xs ++ restm) (type_fields t) (type_methods t)
    (f ∙ append_assoc A (fields_from hs (suc c) k' xs) restf) (m ∙ append_assoc D (methods_from hs (suc c) k' b' xs) restm)
    (marked_fields_long infer hs c k t ts) (marked_methods_long infer hs c n b t ts g)

-- ---- types

module _ (slots : List SlotInfo) (s : List Qualifier) (hs gs : List ClassHead) (same : map plain_head hs ≡ map plain_head gs) (sp : AllSpelled slots s) (infer : Infer) where
  type_walk : (t : TypeDeclaration) (c k b : ℕ) (restf : List Field) (restm : List Method) (ts us : List Token) → let h : ClassHead = class_marks infer (place_type ts t) in let fs : List Field = fields_of hs c k h.fields ++ restf in let ms : List Method = methods_of hs c (k + length (fields_slots hs h.fields)) b h.methods ++ restm in GoodType t → TypeSays slots s t fs ms → Stands slots s k (class_slots hs h) → class_slots gs (class_marks infer (place_type us (noted_type slots s t fs ms))) ≡ worded_from slots s k (class_slots hs h)
  type_walk (ClassType marks n parent interfaces members) c k b restf restm ts us g say h =
      let at : List Token → List Token = λ x. behind x (spell_all_marks marks ++ Class ∷ []) in
      let inside : List Token → List Token = λ x. behind (behind (drop 1 (at x)) (spell_parent parent)) (spell_names Implements interfaces ++ LeftBrace ∷ []) in
      let F : List FieldHead = fields_at infer false (inside ts) members in
      let M : List MethodHead = methods_at infer false (inside ts) members in
      let k' : ℕ = k + length (fields_slots hs F) in
      let fs : List Field = fields_of hs c k F ++ restf in
      let ms : List Method = methods_of hs c k' b (with_constructor (place_name (at ts) n) M) ++ restm in
      let w = with_methods hs c k' b (place_name (at ts) n) M restm in
      let M' : List Method → List MethodHead = λ x. methods_at infer false (inside us) (noted_members slots s n members fs x) in
      let S : List SlotInfo = methods_slots hs (with_constructor (place_name (at ts) n) M) in
      let stands = subst (Stands slots s k') (with_slots hs (place_name (at ts) n) M) (stands_right slots s k (fields_slots hs F) S h) in
      let one = fields_walk slots s hs gs same sp infer false n members ms c k restf (inside ts) (inside us) say (stands_left slots s k (fields_slots hs F) S h) in
      let two = methods_walk slots s hs gs same sp infer (record { interface = false; name = n }) false refl n members fs c k' b w.0 (inside ts) (inside us) g.1 (subst (MembersSay slots s members fs) w.1 say) stands in
      let three : methods_slots gs (with_constructor (place_name (at us) n) (M' ms)) ≡ worded_from slots s k' S =
      with_slots gs (place_name (at us) n) (M' ms) ∙ ap (λ x. methods_slots gs (M' x)) w.1 ∙ two ∙ ap (λ x. worded_from slots s k' x) (sym (with_slots hs (place_name (at ts) n) M)) in
      slots_append slots s k (fields_slots hs F) S (fields_slots gs (fields_at infer false (inside us) (noted_members slots s n members fs ms))) (methods_slots gs (with_constructor (place_name (at us) n) (M' ms))) one three
  type_walk (InterfaceType marks n parents members) c k b restf restm ts us g say h =
      let inside : List Token → List Token = λ x. behind (drop 1 (behind x (spell_all_marks marks ++ Interface ∷ []))) (spell_names Extends parents ++ LeftBrace ∷ []) in
      let F : List FieldHead = fields_at infer true (inside ts) members in
      let M : List MethodHead = methods_at infer true (inside ts) members in
      let k' : ℕ = k + length (fields_slots hs F) in
      let fs : List Field = fields_of hs c k F ++ restf in
      let ms : List Method = methods_of hs c k' b M ++ restm in
      let N : List MemberTree = noted_members slots s n members fs ms in
      slots_append slots s k (fields_slots hs F) (methods_slots hs M) (fields_slots gs (fields_at infer true (inside us) N)) (methods_slots gs (methods_at infer true (inside us) N))
      (fields_walk slots s hs gs same sp infer true n members ms c k restf (inside ts) (inside us) say (stands_left slots s k (fields_slots hs F) (methods_slots hs M) h))
      (methods_walk slots s hs gs same sp infer (record { interface = true; name = n }) true refl n members fs c k' b restm (inside ts) (inside us) g.1 say (stands_right slots s k (fields_slots hs F) (methods_slots hs M) h))

  pub types_walk : (types : List TypeDeclaration) (c k b : ℕ) (fs restf : List Field) (ms restm : List Method) (ts us : List Token) → fs ≡ fields_from hs c k (marks_at infer ts types) ++ restf → ms ≡ methods_from hs c k b (marks_at infer ts types) ++ restm → GoodTypes types → TypesSay slots s types fs ms → Stands slots s k (slots_of_all hs (marks_at infer ts types)) → slots_of_all gs (marks_at infer us (noted_types slots s types fs ms)) ≡ worded_from slots s k (slots_of_all hs (marks_at infer ts types))
  types_walk [] c k b fs restf ms restm ts us ef em g say h = refl
  types_walk (t ∷ types) c k b fs restf ms restm ts us ef em g say h =
      let x : ClassHead = class_marks infer (place_type ts t) in
      let later : List Token = behind ts (spell_type t) in
      let xs : List ClassHead = marks_at infer later types in
      let k' : ℕ = k + length (class_slots hs x) in
      let b' : ℕ = b + bodies_of x.methods in
      let A : List Field = fields_of hs c k x.fields in
      let B : List Field = fields_from hs (suc c) k' xs ++ restf in
      let D : List Method = methods_of hs c (k + length (fields_slots hs x.fields)) b x.methods in
      let E : List Method = methods_from hs (suc c) k' b' xs ++ restm in
      let p = type_parts infer hs t types c k b fs restf ms restm ts ef em g.0 in
      let new : TypeDeclaration = noted_type slots s t fs ms in
      let later' : List Token = behind us (spell_type new) in
      let say' = subst (λ y. TypeSays slots s t (A ++ B) y) p.cut_m (subst (λ y. TypeSays slots s t y ms) p.cut_f say.0) in
      let one = ap (λ y. class_slots gs (class_marks infer (place_type us (noted_type slots s t y ms)))) p.cut_f ∙ ap (λ y. class_slots gs (class_marks infer (place_type us (noted_type slots s t (A ++ B) y)))) p.cut_m ∙ type_walk t c k b B E ts us g.0 say' (stands_left slots s k (class_slots hs x) (slots_of_all hs xs) h) in
      let two = types_walk types (suc c) k' b' (drop (type_fields t) fs) restf (drop (type_methods t) ms) restm later later' p.rest_f p.rest_m g.1 say.1 (stands_right slots s k (class_slots hs x) (slots_of_all hs xs) h) in
      slots_append slots s k (class_slots hs x) (slots_of_all hs xs) (class_slots gs (class_marks infer (place_type us new))) (slots_of_all gs (marks_at infer later' (noted_types slots s types (drop (type_fields t) fs) (drop (type_methods t) ms)))) one two
