-- Bodies of annotated files are those of the files but for places, and so is the program.
use Rattle.std.proofs.Common.{◌≡◌, ℕ, suc, ◌+◌, Bool, true, false, cond, List, [], ◌∷◌, ◌++◌, Option, Some, None, refl, sym, ap, ◌∙◌, subst}
use Rattle.std.specs.Prelude.{drop, map, flat_map}
use Rattle.std.proofs.lemmas.Grind.{flat_map-append}
use Rattle.jn_base.specs.declared.number.NameNo.{NameNo}
use Rattle.jn_base.specs.declared.number.SlotNo.{SlotNo}
use Rattle.jn_quals.specs.Qualifier.{Qualifier}
use Rattle.jn_points.specs.declared.point.BaseType.{BaseType}
use Rattle.jn_points.specs.declared.program.Body.{Body}
use Rattle.jn_points.specs.declared.program.Field.{Field}
use Rattle.jn_points.specs.declared.program.Method.{Method}
use Rattle.jn_points.specs.declared.program.Program.{Program}
use Rattle.jn_points.specs.declared.program.SlotInfo.{SlotInfo}
use Rattle.jn_trees.specs.declared.token.Token.{Token}
use Rattle.jn_trees.specs.declared.token.TokenKind.TheVariants.{Id, LeftParen, LeftBrace, Class, Interface, Implements, Extends}
use Rattle.jn_trees.specs.Trees.{Statements, NoStatements, LocalMark, AnnotationMark, FinalMark, ParameterTree, MemberTree, FieldMember, MethodMember, ConstructorMember, TypeDeclaration, ClassType, InterfaceType, SourceTree}
use Rattle.jn_trees.specs.Spelling.{spell_type_use, spell_declarator, spell_all_marks, spell_parameters, spell_result, spell_member, spell_parent, spell_names, spell_type, spell_package_line, spell_imports}
use Rattle.jn_places.specs.Placed.{PlacedMember, PlacedParameter, PlacedFile}
use Rattle.jn_places.specs.Forget.{forget_file}
use Rattle.jn_places.specs.Places.{behind, place_each, spell_local_mark, place_local_marks, spell_parameter_through, place_parameters, spell_receiver, place_body, place_method_body, place_member, place_members, place_type, place_file}
use Rattle.jn_heads.specs.Extract.{has_constructor, method_heads, heads}
use Rattle.jn_classtable.specs.Table.{table}
use Rattle.jn_lowering.specs.Locals.{State, has_final, parameters_from}
use Rattle.jn_lowering.specs.Scopes.{Scope}
use Rattle.jn_lowering.specs.Statements.{Step, no_step}
use Rattle.jn_lowering.specs.BodyRows.{initializers_rows, member_rows, rows_of_bodies, rows_of_body}
use Rattle.jn_lowering.specs.Bodies.{Source, declarators_of, initializers_of, initializers, body_of_source, bodies_of, with_bodies}
use Rattle.jn_program_law.specs.FileSources.{BodyTree, tree_of, member_trees, members_trees, unwritten_tree, type_trees, types_of, body_trees, numbered, sources}
use Rattle.jn_program_law.specs.FileProgram.{program_of_files}
use Rattle.jn_places_law.specs.Bare.{bare, Alike, bare_body}
use Rattle.jn_places_law.specs.Erased.{bare_state, bare_step}
use Rattle.jn_places_law.proofs.Statements.{both_alike, final_same}
use Rattle.jn_places_law.proofs.Bodies.{fields_alike, body_alike}
use Rattle.jn_places_law.proofs.BodyRows.{body_rows_same, fields_same, source_rows_same}
use Rattle.jn_places_law.proofs.RowForms.{Same}
use Rattle.jn_places_law.proofs.RowForms.{both as both_rows}
use Rattle.jn_annotate.specs.Insertions.{fields_in, methods_in, type_fields, type_methods, file_fields, file_methods, first_slot, inferred_qual}
use Rattle.jn_annotate_law.specs.Trees.{nullity_names, names_of, leading, noted_use, noted_marks, noted_parameter, noted_receiver, noted_result, noted_result_marks, both_at, noted_parameters, noted_member, noted_members, noted_type, noted_types, noted_file, noted_files}
use Rattle.jn_annotate_law.specs.Meaning.{AllPlaced}
use Rattle.jn_annotate_law.proofs.Extracting.{members_methods, has_constructor_plain}

-- ---- parameters

no_final : (us : List Token) (ns : List NameNo) → has_final (place_local_marks us (map AnnotationMark ns)) ≡ false
no_final us [] = refl
no_final us (n ∷ ns) = no_final (behind us (spell_local_mark (AnnotationMark n))) ns

final_more : (ts us : List Token) (ms : List LocalMark) (ns : List NameNo) → has_final (place_local_marks ts ms) ≡ has_final (place_local_marks us (ms ++ map AnnotationMark ns))
final_more ts us [] ns = sym (no_final us ns)
final_more ts us (AnnotationMark n ∷ ms) ns = final_more (behind ts (spell_local_mark (AnnotationMark n))) (behind us (spell_local_mark (AnnotationMark n))) ms ns
final_more ts us (FinalMark ∷ ms) ns = refl

one_param : (n r : ℕ) (b : BaseType) (f g : Bool) (xs ys : Scope) → f ≡ g → xs ≡ ys → ◌≡◌ {A = Scope} (record { name = n; reg = r; base = b; bound = None; fixed = f; faults = [] } ∷ xs) (record { name = n; reg = r; base = b; bound = None; fixed = g; faults = [] } ∷ ys)
one_param n r b f g xs ys h k = ap {B = Scope} (λ (z : Bool). record { name = n; reg = r; base = b; bound = None; fixed = z; faults = [] } ∷ xs) h ∙ ap {B = Scope} (λ (z : Scope). record { name = n; reg = r; base = b; bound = None; fixed = g; faults = [] } ∷ z) k

plain_params : (r : ℕ) (bases : List BaseType) (ps : List ParameterTree) (ts us : List Token) → parameters_from r (place_parameters ts ps) bases ≡ parameters_from r (place_parameters us ps) bases
plain_params r bases [] ts us = refl
plain_params r [] (p ∷ ps) ts us = refl
plain_params r (b ∷ bases) (p ∷ ps) ts us = one_param p.name.0 r b (has_final (place_local_marks ts p.marks)) (has_final (place_local_marks us p.marks)) (parameters_from (r + 1) (place_parameters (behind ts (spell_parameter_through p)) ps) bases) (parameters_from (r + 1) (place_parameters (behind us (spell_parameter_through p)) ps) bases) (final_same ts us p.marks) (plain_params (r + 1) bases ps (behind ts (spell_parameter_through p)) (behind us (spell_parameter_through p)))

module _ (slots : List SlotInfo) (s : List Qualifier) where
  params_same : (r : ℕ) (bases : List BaseType) (ps : List ParameterTree) (xs : List (Option SlotNo)) (ts us : List Token) → parameters_from r (place_parameters ts ps) bases ≡ parameters_from r (place_parameters us (noted_parameters slots s ps xs)) bases
  params_same r bases [] xs ts us = refl
  params_same r bases (p ∷ ps) [] ts us = plain_params r bases (p ∷ ps) ts us
  params_same r [] (p ∷ ps) (x ∷ xs) ts us = refl
  params_same r (b ∷ bases) (p ∷ ps) (x ∷ xs) ts us =
      one_param p.name.0 r b (has_final (place_local_marks ts p.marks)) (has_final (place_local_marks us (p.marks ++ map AnnotationMark (leading (both_at slots s x) p.type_use.array))))
      (parameters_from (r + 1) (place_parameters (behind ts (spell_parameter_through p)) ps) bases) (parameters_from (r + 1) (place_parameters (behind us (spell_parameter_through (noted_parameter (both_at slots s x) p))) (noted_parameters slots s ps xs)) bases)
      (final_more ts us p.marks (leading (both_at slots s x) p.type_use.array))
      (params_same (r + 1) bases ps xs (behind ts (spell_parameter_through p)) (behind us (spell_parameter_through (noted_parameter (both_at slots s x) p))))

  module _ (P Q : Program) (h : Alike P Q) where
    -- ---- the bodies of lists of trees

    abbrev body_of : Program → ℕ → BodyTree → Body
    body_of R m t = bare_body (body_of_source R (record { method = m; parameters = t.parameters; body = t.body; members = t.members }))

    abbrev source_of : ℕ → BodyTree → Source
    source_of m t = record { method = m; parameters = t.parameters; body = t.body; members = t.members }

    -- as the body of any method, one differs from the other in places alone, and has rows of the same codes
    abbrev BodiesAlike : BodyTree → BodyTree → Type 0
    BodiesAlike x y = (m : ℕ) → (body_of P m x ≡ body_of Q m y) × Same (rows_of_body P (source_of m x)) (rows_of_body Q (source_of m y))

    abbrev TreesAlike : List (Option BodyTree) → List (Option BodyTree) → Type 0
    TreesAlike [] [] = Unit {0}
    TreesAlike [] (y ∷ ys) = ⊥
    TreesAlike (x ∷ xs) [] = ⊥
    TreesAlike (None ∷ xs) (None ∷ ys) = TreesAlike xs ys
    TreesAlike (None ∷ xs) (Some y ∷ ys) = ⊥
    TreesAlike (Some x ∷ xs) (None ∷ ys) = ⊥
    TreesAlike (Some x ∷ xs) (Some y ∷ ys) = BodiesAlike x y × TreesAlike xs ys

    numbered_alike : (m : ℕ) (xs ys : List (Option BodyTree)) → TreesAlike xs ys → map bare_body (bodies_of P (numbered m xs)) ≡ map bare_body (bodies_of Q (numbered m ys))
    numbered_alike m [] [] a = refl
    numbered_alike m [] (y ∷ ys) a = absurd a
    numbered_alike m (x ∷ xs) [] a = absurd a
    numbered_alike m (None ∷ xs) (None ∷ ys) a = numbered_alike (suc m) xs ys a
    numbered_alike m (None ∷ xs) (Some y ∷ ys) a = absurd a
    numbered_alike m (Some x ∷ xs) (None ∷ ys) a = absurd a
    numbered_alike m (Some x ∷ xs) (Some y ∷ ys) a = ap (λ z. z ∷ map bare_body (bodies_of P (numbered (suc m) xs))) (a.0 m).0 ∙ ap (λ z. body_of Q m y ∷ z) (numbered_alike (suc m) xs ys a.1)

    numbered_rows : (m : ℕ) (xs ys : List (Option BodyTree)) → TreesAlike xs ys → Same (rows_of_bodies P (numbered m xs)) (rows_of_bodies Q (numbered m ys))
    numbered_rows m [] [] a = refl
    numbered_rows m [] (y ∷ ys) a = absurd a
    numbered_rows m (x ∷ xs) [] a = absurd a
    numbered_rows m (None ∷ xs) (None ∷ ys) a = numbered_rows (suc m) xs ys a
    numbered_rows m (None ∷ xs) (Some y ∷ ys) a = absurd a
    numbered_rows m (Some x ∷ xs) (None ∷ ys) a = absurd a
    numbered_rows m (Some x ∷ xs) (Some y ∷ ys) a = both_rows (rows_of_body P (source_of m x)) (rows_of_bodies P (numbered (suc m) xs)) (rows_of_body Q (source_of m y)) (rows_of_bodies Q (numbered (suc m) ys)) (a.0 m).1 (numbered_rows (suc m) xs ys a.1)

    appended : (a b c d : List (Option BodyTree)) → TreesAlike a b → TreesAlike c d → TreesAlike (a ++ c) (b ++ d)
    appended [] [] c d h k = k
    appended [] (y ∷ ys) c d h k = absurd h
    appended (x ∷ xs) [] c d h k = absurd h
    appended (None ∷ xs) (None ∷ ys) c d h k = appended xs ys c d h k
    appended (None ∷ xs) (Some y ∷ ys) c d h k = absurd h
    appended (Some x ∷ xs) (None ∷ ys) c d h k = absurd h
    appended (Some x ∷ xs) (Some y ∷ ys) c d h k = (h.0, appended xs ys c d h.1 k)

    chosen : (b d : Bool) (x y z w : List (Option BodyTree)) → b ≡ d → TreesAlike x y → TreesAlike z w → TreesAlike (cond b x z) (cond d y w)
    chosen b d x y z w e k g = subst (λ t. TreesAlike (cond b x z) (cond t y w)) e (cases b)
      where
        cases : (b : Bool) → TreesAlike (cond b x z) (cond b y w)
        cases true = k
        cases false = g

    -- members whose initializers are alike
    abbrev MembersAlike : List PlacedMember → List PlacedMember → Type 0
    MembersAlike all others = (m : ℕ) → ((first : ℕ) (a b : State) → bare_state a ≡ bare_state b → bare_step (initializers P m first a all) ≡ bare_step (initializers Q m first b others)) × Same (member_rows P m all) (member_rows Q m others)

    one_member : (c : NameNo) (x : MemberTree) (fs : List Field) (methods : List Method) (ts us : List Token) (m first : ℕ) (a b : State) → bare_state a ≡ bare_state b → bare_step (initializers_of P m first a (declarators_of (place_member ts x))) ≡ bare_step (initializers_of Q m first b (declarators_of (place_member us (noted_member slots s c x fs methods))))
    one_member c (FieldMember ms u d ds) fs methods ts us m first a b k =
        let names : List NameNo = names_of nullity_names (inferred_qual slots s (first_slot fs)) in
        fields_alike P Q h m first a b (behind (behind ts (spell_all_marks ms)) (spell_type_use u)) (behind (behind us (spell_all_marks (noted_marks names u ms))) (spell_type_use (noted_use names u)))
        (behind (behind (behind ts (spell_all_marks ms)) (spell_type_use u)) (spell_declarator d)) (behind (behind (behind us (spell_all_marks (noted_marks names u ms))) (spell_type_use (noted_use names u))) (spell_declarator d)) d ds k
    one_member c (MethodMember ms u n r ps body) fs [] ts us m first a b k = ap no_step k
    one_member c (MethodMember ms u n r ps body) fs (x ∷ methods) ts us m first a b k = ap no_step k
    one_member c (ConstructorMember ms n ps ss) fs [] ts us m first a b k = ap no_step k
    one_member c (ConstructorMember ms n ps ss) fs (x ∷ methods) ts us m first a b k = ap no_step k

    members_steps : (c : NameNo) (xs : List MemberTree) (fs : List Field) (methods : List Method) (ts us : List Token) (m first : ℕ) (a b : State) → bare_state a ≡ bare_state b → bare_step (initializers P m first a (place_members ts xs)) ≡ bare_step (initializers Q m first b (place_members us (noted_members slots s c xs fs methods)))
    members_steps c [] fs methods ts us m first a b k = ap no_step k
    members_steps c (x ∷ xs) fs methods ts us m first a b k =
        let new : MemberTree = noted_member slots s c x fs methods in
        both_alike (initializers_of P m first a (declarators_of (place_member ts x))) (initializers P m first (initializers_of P m first a (declarators_of (place_member ts x))).behind (place_members (behind ts (spell_member x)) xs))
        (initializers_of Q m first b (declarators_of (place_member us new))) (initializers Q m first (initializers_of Q m first b (declarators_of (place_member us new))).behind (place_members (behind us (spell_member new)) (noted_members slots s c xs (drop (fields_in x) fs) (drop (methods_in x) methods))))
        (one_member c x fs methods ts us m first a b k)
        (members_steps c xs (drop (fields_in x) fs) (drop (methods_in x) methods) (behind ts (spell_member x)) (behind us (spell_member new)) m first (initializers_of P m first a (declarators_of (place_member ts x))).behind (initializers_of Q m first b (declarators_of (place_member us new))).behind
        (ap (λ (z : Step). z.behind) (one_member c x fs methods ts us m first a b k)))

    one_member_rows : (c : NameNo) (x : MemberTree) (fs : List Field) (methods : List Method) (ts us : List Token) (m : ℕ) → Same (initializers_rows P m (declarators_of (place_member ts x))) (initializers_rows Q m (declarators_of (place_member us (noted_member slots s c x fs methods))))
    one_member_rows c (FieldMember ms u d ds) fs methods ts us m =
        let names : List NameNo = names_of nullity_names (inferred_qual slots s (first_slot fs)) in
        let a = behind (behind ts (spell_all_marks ms)) (spell_type_use u) in
        let b = behind (behind us (spell_all_marks (noted_marks names u ms))) (spell_type_use (noted_use names u)) in
        fields_same P Q h m a b (behind a (spell_declarator d)) (behind b (spell_declarator d)) d ds
    one_member_rows c (MethodMember ms u n r ps body) fs [] ts us m = refl
    one_member_rows c (MethodMember ms u n r ps body) fs (x ∷ methods) ts us m = refl
    one_member_rows c (ConstructorMember ms n ps ss) fs [] ts us m = refl
    one_member_rows c (ConstructorMember ms n ps ss) fs (x ∷ methods) ts us m = refl

    members_rows : (c : NameNo) (xs : List MemberTree) (fs : List Field) (methods : List Method) (ts us : List Token) (m : ℕ) → Same (member_rows P m (place_members ts xs)) (member_rows Q m (place_members us (noted_members slots s c xs fs methods)))
    members_rows c [] fs methods ts us m = refl
    members_rows c (x ∷ xs) fs methods ts us m =
        let new : MemberTree = noted_member slots s c x fs methods in
        let a = behind ts (spell_member x) in
        let b = behind us (spell_member new) in
        both_rows (initializers_rows P m (declarators_of (place_member ts x))) (member_rows P m (place_members a xs)) (initializers_rows Q m (declarators_of (place_member us new))) (member_rows Q m (place_members b (noted_members slots s c xs (drop (fields_in x) fs) (drop (methods_in x) methods))))
        (one_member_rows c x fs methods ts us m) (members_rows c xs (drop (fields_in x) fs) (drop (methods_in x) methods) a b m)

    members_alike : (c : NameNo) (xs : List MemberTree) (fs : List Field) (methods : List Method) (ts us : List Token) → MembersAlike (place_members ts xs) (place_members us (noted_members slots s c xs fs methods))
    members_alike c xs fs methods ts us m = (members_steps c xs fs methods ts us m, members_rows c xs fs methods ts us m)

    -- ---- the bodies of members

    bodies_alike : (all others : List PlacedMember) (ps qs : List PlacedParameter) (ts us : List Token) (ss : Statements) → MembersAlike all others → ((r : ℕ) (bases : List BaseType) → parameters_from r ps bases ≡ parameters_from r qs bases) → BodiesAlike (record { parameters = ps; body = place_body ts ss; members = all }) (record { parameters = qs; body = place_body us ss; members = others })
    bodies_alike all others ps qs ts us ss g k m =
        let x : Source = record { method = m; parameters = ps; body = place_body ts ss; members = all } in
        let y : Source = record { method = m; parameters = qs; body = place_body us ss; members = others } in
        let same : bare_body (body_of_source P x) ≡ bare_body (body_of_source Q y) = body_alike P Q h m ps qs ts us ss all others k (g m).0 in
        (same, body_rows_same P Q x y h (source_rows_same P Q h m ps qs ts us ss all others k (g m).0 (g m).1) same)

    tree_alike : (all others : List PlacedMember) (ps qs : List PlacedParameter) (ts us : List Token) (body : Option Statements) → MembersAlike all others → ((r : ℕ) (bases : List BaseType) → parameters_from r ps bases ≡ parameters_from r qs bases) → TreesAlike (tree_of all ps (place_method_body ts body) ∷ []) (tree_of others qs (place_method_body us body) ∷ [])
    tree_alike all others ps qs ts us None g k = tt
    tree_alike all others ps qs ts us (Some ss) g k = (bodies_alike all others ps qs (drop 1 ts) (drop 1 us) ss g k, tt)

    written_alike : (all others : List PlacedMember) (ps qs : List PlacedParameter) (ts us : List Token) (ss : Statements) → MembersAlike all others → ((r : ℕ) (bases : List BaseType) → parameters_from r ps bases ≡ parameters_from r qs bases) → TreesAlike (tree_of all ps (Some (place_body ts ss)) ∷ []) (tree_of others qs (Some (place_body us ss)) ∷ [])
    written_alike all others ps qs ts us ss g k = (bodies_alike all others ps qs ts us ss g k, tt)

    member_alike : (interface : Bool) (c : NameNo) (x : MemberTree) (fs : List Field) (methods : List Method) (all others : List PlacedMember) (ts us : List Token) → MembersAlike all others → TreesAlike (member_trees interface all (place_member ts x)) (member_trees interface others (place_member us (noted_member slots s c x fs methods)))
    member_alike true c (FieldMember ms u d ds) fs methods all others ts us g = tt
    member_alike false c (FieldMember ms u d ds) fs methods all others ts us g = tt
    member_alike true c (MethodMember ms u n r ps body) fs [] all others ts us g =
        tree_alike all others (place_parameters (behind (behind (behind (behind ts (spell_all_marks ms)) (spell_result u)) (Id n ∷ LeftParen ∷ [])) (spell_receiver r)) ps) (place_parameters (behind (behind (behind (behind us (spell_all_marks ms)) (spell_result u)) (Id n ∷ LeftParen ∷ [])) (spell_receiver r)) ps) (behind (behind (behind (behind ts (spell_all_marks ms)) (spell_result u)) (Id n ∷ LeftParen ∷ [])) (spell_parameters r ps)) (behind (behind (behind (behind us (spell_all_marks ms)) (spell_result u)) (Id n ∷ LeftParen ∷ [])) (spell_parameters r ps)) body g (λ k bases. plain_params k bases ps (behind (behind (behind (behind ts (spell_all_marks ms)) (spell_result u)) (Id n ∷ LeftParen ∷ [])) (spell_receiver r)) (behind (behind (behind (behind us (spell_all_marks ms)) (spell_result u)) (Id n ∷ LeftParen ∷ [])) (spell_receiver r)))
    member_alike true c (MethodMember ms u n r ps body) fs (m ∷ methods) all others ts us g =
        let new = noted_result_marks (both_at slots s m.result_slot) u ms in
        let use' = noted_result (both_at slots s m.result_slot) u in
        let receiver = noted_receiver c r (inferred_qual slots s m.receiver) in
        let qs : List ParameterTree = noted_parameters slots s ps m.param_slots in
        tree_alike all others (place_parameters (behind (behind (behind (behind ts (spell_all_marks ms)) (spell_result u)) (Id n ∷ LeftParen ∷ [])) (spell_receiver r)) ps) (place_parameters (behind (behind (behind (behind us (spell_all_marks new)) (spell_result use')) (Id n ∷ LeftParen ∷ [])) (spell_receiver receiver)) qs) (behind (behind (behind (behind ts (spell_all_marks ms)) (spell_result u)) (Id n ∷ LeftParen ∷ [])) (spell_parameters r ps)) (behind (behind (behind (behind us (spell_all_marks new)) (spell_result use')) (Id n ∷ LeftParen ∷ [])) (spell_parameters receiver qs)) body g (λ k bases. params_same k bases ps m.param_slots (behind (behind (behind (behind ts (spell_all_marks ms)) (spell_result u)) (Id n ∷ LeftParen ∷ [])) (spell_receiver r)) (behind (behind (behind (behind us (spell_all_marks new)) (spell_result use')) (Id n ∷ LeftParen ∷ [])) (spell_receiver receiver)))
    member_alike false c (MethodMember ms u n r ps body) fs [] all others ts us g =
        tree_alike all others (place_parameters (behind (behind (behind (behind ts (spell_all_marks ms)) (spell_result u)) (Id n ∷ LeftParen ∷ [])) (spell_receiver r)) ps) (place_parameters (behind (behind (behind (behind us (spell_all_marks ms)) (spell_result u)) (Id n ∷ LeftParen ∷ [])) (spell_receiver r)) ps) (behind (behind (behind (behind ts (spell_all_marks ms)) (spell_result u)) (Id n ∷ LeftParen ∷ [])) (spell_parameters r ps)) (behind (behind (behind (behind us (spell_all_marks ms)) (spell_result u)) (Id n ∷ LeftParen ∷ [])) (spell_parameters r ps)) body g (λ k bases. plain_params k bases ps (behind (behind (behind (behind ts (spell_all_marks ms)) (spell_result u)) (Id n ∷ LeftParen ∷ [])) (spell_receiver r)) (behind (behind (behind (behind us (spell_all_marks ms)) (spell_result u)) (Id n ∷ LeftParen ∷ [])) (spell_receiver r)))
    member_alike false c (MethodMember ms u n r ps body) fs (m ∷ methods) all others ts us g =
        let new = noted_result_marks (both_at slots s m.result_slot) u ms in
        let use' = noted_result (both_at slots s m.result_slot) u in
        let receiver = noted_receiver c r (inferred_qual slots s m.receiver) in
        let qs : List ParameterTree = noted_parameters slots s ps m.param_slots in
        tree_alike all others (place_parameters (behind (behind (behind (behind ts (spell_all_marks ms)) (spell_result u)) (Id n ∷ LeftParen ∷ [])) (spell_receiver r)) ps) (place_parameters (behind (behind (behind (behind us (spell_all_marks new)) (spell_result use')) (Id n ∷ LeftParen ∷ [])) (spell_receiver receiver)) qs) (behind (behind (behind (behind ts (spell_all_marks ms)) (spell_result u)) (Id n ∷ LeftParen ∷ [])) (spell_parameters r ps)) (behind (behind (behind (behind us (spell_all_marks new)) (spell_result use')) (Id n ∷ LeftParen ∷ [])) (spell_parameters receiver qs)) body g (λ k bases. params_same k bases ps m.param_slots (behind (behind (behind (behind ts (spell_all_marks ms)) (spell_result u)) (Id n ∷ LeftParen ∷ [])) (spell_receiver r)) (behind (behind (behind (behind us (spell_all_marks new)) (spell_result use')) (Id n ∷ LeftParen ∷ [])) (spell_receiver receiver)))
    member_alike true c (ConstructorMember ms n ps ss) fs [] all others ts us g = tt
    member_alike true c (ConstructorMember ms n ps ss) fs (m ∷ methods) all others ts us g = tt
    member_alike false c (ConstructorMember ms n ps ss) fs [] all others ts us g =
        written_alike all others (place_parameters (behind (behind ts (spell_all_marks ms)) (Id n ∷ LeftParen ∷ [])) ps) (place_parameters (behind (behind us (spell_all_marks ms)) (Id n ∷ LeftParen ∷ [])) ps) (behind (behind (behind ts (spell_all_marks ms)) (Id n ∷ LeftParen ∷ [])) (spell_parameters None ps ++ LeftBrace ∷ [])) (behind (behind (behind us (spell_all_marks ms)) (Id n ∷ LeftParen ∷ [])) (spell_parameters None ps ++ LeftBrace ∷ [])) ss g (λ r bases. plain_params r bases ps (behind (behind ts (spell_all_marks ms)) (Id n ∷ LeftParen ∷ [])) (behind (behind us (spell_all_marks ms)) (Id n ∷ LeftParen ∷ [])))
    member_alike false c (ConstructorMember ms n ps ss) fs (m ∷ methods) all others ts us g =
        let qs : List ParameterTree = noted_parameters slots s ps m.param_slots in
        written_alike all others (place_parameters (behind (behind ts (spell_all_marks ms)) (Id n ∷ LeftParen ∷ [])) ps) (place_parameters (behind (behind us (spell_all_marks ms)) (Id n ∷ LeftParen ∷ [])) qs) (behind (behind (behind ts (spell_all_marks ms)) (Id n ∷ LeftParen ∷ [])) (spell_parameters None ps ++ LeftBrace ∷ [])) (behind (behind (behind us (spell_all_marks ms)) (Id n ∷ LeftParen ∷ [])) (spell_parameters None qs ++ LeftBrace ∷ [])) ss g (λ r bases. params_same r bases ps m.param_slots (behind (behind ts (spell_all_marks ms)) (Id n ∷ LeftParen ∷ [])) (behind (behind us (spell_all_marks ms)) (Id n ∷ LeftParen ∷ [])))

    all_alike : (interface : Bool) (c : NameNo) (xs : List MemberTree) (fs : List Field) (methods : List Method) (all others : List PlacedMember) (ts us : List Token) → MembersAlike all others → TreesAlike (members_trees interface all (place_members ts xs)) (members_trees interface others (place_members us (noted_members slots s c xs fs methods)))
    all_alike interface c [] fs methods all others ts us g = tt
    all_alike interface c (x ∷ xs) fs methods all others ts us g =
        let new : MemberTree = noted_member slots s c x fs methods in
        appended (member_trees interface all (place_member ts x)) (member_trees interface others (place_member us new)) (members_trees interface all (place_members (behind ts (spell_member x)) xs)) (members_trees interface others (place_members (behind us (spell_member new)) (noted_members slots s c xs (drop (fields_in x) fs) (drop (methods_in x) methods))))
        (member_alike interface c x fs methods all others ts us g)
        (all_alike interface c xs (drop (fields_in x) fs) (drop (methods_in x) methods) all others (behind ts (spell_member x)) (behind us (spell_member new)) g)

    unwritten_alike : (all others : List PlacedMember) → MembersAlike all others → TreesAlike (unwritten_tree all ∷ []) (unwritten_tree others ∷ [])
    unwritten_alike all others g = (bodies_alike all others [] [] [] [] NoStatements g (λ r bases. refl), tt)

    -- ---- types and files

    type_alike : (t : TypeDeclaration) (fs : List Field) (methods : List Method) (ts us : List Token) → TreesAlike (type_trees (place_type ts t)) (type_trees (place_type us (noted_type slots s t fs methods)))
    type_alike (ClassType ms n parent interfaces xs) fs methods ts us =
        let inside : List Token → List Token = λ x. behind (behind (drop 1 (behind x (spell_all_marks ms ++ Class ∷ []))) (spell_parent parent)) (spell_names Implements interfaces ++ LeftBrace ∷ []) in
        let all : List PlacedMember = place_members (inside ts) xs in
        let others : List PlacedMember = place_members (inside us) (noted_members slots s n xs fs methods) in
        let g : MembersAlike all others = members_alike n xs fs methods (inside ts) (inside us) in
        chosen (has_constructor (flat_map (method_heads false) all)) (has_constructor (flat_map (method_heads false) others))
        (members_trees false all all) (members_trees false others others) (members_trees false all all ++ unwritten_tree all ∷ []) (members_trees false others others ++ unwritten_tree others ∷ [])
        (sym (has_constructor_plain slots s (flat_map (method_heads false) all)) ∙ ap has_constructor (members_methods slots s false n xs fs methods (inside ts) (inside us)) ∙ has_constructor_plain slots s (flat_map (method_heads false) others))
        (all_alike false n xs fs methods all others (inside ts) (inside us) g)
        (appended (members_trees false all all) (members_trees false others others) (unwritten_tree all ∷ []) (unwritten_tree others ∷ []) (all_alike false n xs fs methods all others (inside ts) (inside us) g) (unwritten_alike all others g))
    type_alike (InterfaceType ms n parents xs) fs methods ts us =
        let inside : List Token → List Token = λ x. behind (drop 1 (behind x (spell_all_marks ms ++ Interface ∷ []))) (spell_names Extends parents ++ LeftBrace ∷ []) in
        all_alike true n xs fs methods (place_members (inside ts) xs) (place_members (inside us) (noted_members slots s n xs fs methods)) (inside ts) (inside us) (members_alike n xs fs methods (inside ts) (inside us))

    types_alike : (types : List TypeDeclaration) (fs : List Field) (methods : List Method) (ts us : List Token) → TreesAlike (flat_map type_trees (place_each place_type spell_type ts types)) (flat_map type_trees (place_each place_type spell_type us (noted_types slots s types fs methods)))
    types_alike [] fs methods ts us = tt
    types_alike (t ∷ types) fs methods ts us =
        let new : TypeDeclaration = noted_type slots s t fs methods in
        appended (type_trees (place_type ts t)) (type_trees (place_type us new)) (flat_map type_trees (place_each place_type spell_type (behind ts (spell_type t)) types)) (flat_map type_trees (place_each place_type spell_type (behind us (spell_type new)) (noted_types slots s types (drop (type_fields t) fs) (drop (type_methods t) methods))))
        (type_alike t fs methods ts us)
        (types_alike types (drop (type_fields t) fs) (drop (type_methods t) methods) (behind ts (spell_type t)) (behind us (spell_type new)))

    file_alike : (f : SourceTree) (fs : List Field) (methods : List Method) (ts us : List Token) → TreesAlike (flat_map type_trees (place_file ts f).types) (flat_map type_trees (place_file us (noted_file slots s f fs methods)).types)
    file_alike f fs methods ts us = types_alike f.types fs methods (behind (behind ts (spell_package_line f.package_line)) (spell_imports f.imports)) (behind (behind us (spell_package_line f.package_line)) (spell_imports f.imports))

    files_alike : (tokens others : List (List Token)) (trees places : List PlacedFile) (fs : List Field) (methods : List Method) → AllPlaced tokens trees → AllPlaced others places → map forget_file places ≡ noted_files slots s (map forget_file trees) fs methods → TreesAlike (flat_map type_trees (types_of trees)) (flat_map type_trees (types_of places))
    files_alike [] others [] [] fs methods p q e = tt
    files_alike [] others [] (place ∷ places) fs methods p q e = cc
    files_alike [] others (tree ∷ trees) places fs methods p q e = absurd p
    files_alike (ts ∷ tokens) others [] places fs methods p q e = absurd p
    files_alike (ts ∷ tokens) [] (tree ∷ trees) [] fs methods p q e = cc
    files_alike (ts ∷ tokens) [] (tree ∷ trees) (place ∷ places) fs methods p q e = absurd q
    files_alike (ts ∷ tokens) (us ∷ others) (tree ∷ trees) [] fs methods p q e = cc
    files_alike (ts ∷ tokens) (us ∷ others) (tree ∷ trees) (place ∷ places) fs methods p q e =
        let bare : SourceTree = forget_file tree in
        let head : forget_file place ≡ noted_file slots s bare fs methods = cc in
        let tail : map forget_file places ≡ noted_files slots s (map forget_file trees) (drop (file_fields bare.types) fs) (drop (file_methods bare.types) methods) = cc in
        let one : TreesAlike (flat_map type_trees tree.types) (flat_map type_trees (place_file us (noted_file slots s bare fs methods)).types) = subst (λ (x : PlacedFile). TreesAlike (flat_map type_trees x.types) (flat_map type_trees (place_file us (noted_file slots s bare fs methods)).types)) (sym p.0.1) (file_alike bare fs methods ts us) in
        let two : TreesAlike (flat_map type_trees tree.types) (flat_map type_trees (place_file us (forget_file place)).types) = subst (λ (x : SourceTree). TreesAlike (flat_map type_trees tree.types) (flat_map type_trees (place_file us x).types)) (sym head) one in
        let three : TreesAlike (flat_map type_trees tree.types) (flat_map type_trees place.types) = subst (λ (x : PlacedFile). TreesAlike (flat_map type_trees tree.types) (flat_map type_trees x.types)) (sym q.0.1) two in
        let rest = files_alike tokens others trees places (drop (file_fields bare.types) fs) (drop (file_methods bare.types) methods) p.1 q.1 tail in
        let both = appended (flat_map type_trees tree.types) (flat_map type_trees place.types) (flat_map type_trees (types_of trees)) (flat_map type_trees (types_of places)) three rest in
        let left = subst (λ x. TreesAlike x (flat_map type_trees place.types ++ flat_map type_trees (types_of places))) (sym (flat_map-append type_trees tree.types (types_of trees))) both in
        subst (TreesAlike (flat_map type_trees (tree.types ++ types_of trees))) (sym (flat_map-append type_trees place.types (types_of places))) left

    abbrev with_list : Program → List Body → Program
    with_list R bodies = record { classes = R.classes; fields = R.fields; methods = R.methods; bodies = bodies; slots = R.slots }

    programs_alike : (xs ys : List (Option BodyTree)) → TreesAlike xs ys → Alike (with_bodies P (numbered 0 xs)) (with_bodies Q (numbered 0 ys))
    programs_alike xs ys a = ap (λ z. with_list z (map bare_body (bodies_of P (numbered 0 xs)))) h ∙ ap (with_list (bare Q)) (numbered_alike 0 xs ys a)

    no_members : MembersAlike [] []
    no_members m = ((λ first a b k. ap no_step k), refl)

    trees_alike : (xs ys : List (Option BodyTree)) → TreesAlike xs ys → TreesAlike (unwritten_tree [] ∷ xs) (unwritten_tree [] ∷ ys)
    trees_alike xs ys a = appended (unwritten_tree [] ∷ []) (unwritten_tree [] ∷ []) xs ys (unwritten_alike [] [] no_members) a

  -- the rows of their bodies have the same codes
  pub same_body_rows : (tokens others : List (List Token)) (trees places : List PlacedFile) (fs : List Field) (methods : List Method) → AllPlaced tokens trees → AllPlaced others places → map forget_file places ≡ noted_files slots s (map forget_file trees) fs methods → Alike (table (heads trees)) (table (heads places)) → Same (rows_of_bodies (table (heads trees)) (sources trees)) (rows_of_bodies (table (heads places)) (sources places))
  same_body_rows tokens others trees places fs methods p q e h =
      numbered_rows (table (heads trees)) (table (heads places)) h 0 (body_trees trees) (body_trees places)
      (trees_alike (table (heads trees)) (table (heads places)) h (flat_map type_trees (types_of trees)) (flat_map type_trees (types_of places)) (files_alike (table (heads trees)) (table (heads places)) h tokens others trees places fs methods p q e))

  -- programs of files whose trees are those of tokens
  pub alike_programs : (tokens others : List (List Token)) (trees places : List PlacedFile) (fs : List Field) (methods : List Method) → AllPlaced tokens trees → AllPlaced others places → map forget_file places ≡ noted_files slots s (map forget_file trees) fs methods → Alike (table (heads trees)) (table (heads places)) → Alike (program_of_files trees) (program_of_files places)
  alike_programs tokens others trees places fs methods p q e h =
      programs_alike (table (heads trees)) (table (heads places)) h (body_trees trees) (body_trees places)
      (trees_alike (table (heads trees)) (table (heads places)) h (flat_map type_trees (types_of trees)) (flat_map type_trees (types_of places)) (files_alike (table (heads trees)) (table (heads places)) h tokens others trees places fs methods p q e))
