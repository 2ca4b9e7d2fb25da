-- A renumbered tree stands at the renumbered tokens where the tree stands at the tokens.
use Rattle.std.proofs.Common.{◌≡◌, ℕ, zero, suc, ◌-◌, List, [], ◌∷◌, ◌++◌, Option, Some, None, map, length, drop, refl, ap, sym, ◌∙◌}
use Rattle.std.specs.Prelude.{slice_get}
use Rattle.std.proofs.lemmas.List.{map-append}
use Rattle.jn_base.specs.declared.number.NameNo.{NameNo}
use Rattle.jn_base.specs.declared.place.Span.{Span}
use Rattle.jn_trees.specs.declared.token.Token.{Token}
use Rattle.jn_trees.specs.declared.token.TokenKind.{TokenKind}
use Rattle.jn_trees.specs.declared.token.TokenKind.TheVariants.{Id, New, Super, If, Else, While, Do, For, This, Instanceof, LeftParen, RightParen, LeftBrace, LeftBracket, RightBracket, Dot, Comma, Semicolon, Question, Colon, Class, Interface, Implements, Extends}
use Rattle.jn_trees.specs.declared.expression.Annotation.{Annotation}
use Rattle.jn_trees.specs.declared.expression.Identifier.{Identifier}
use Rattle.jn_trees.specs.declared.expression.Base.TheVariants.{Class as ClassUse, Int as IntUse, Boolean as BooleanUse}
use Rattle.jn_trees.specs.declared.statement.LocalModifier.TheVariants.{Annotation as LocalAnnotation, Final as LocalFinal}
use Rattle.jn_trees.specs.declared.declaration.Modifier.TheVariants.{Annotation as NoteOf, Public as PublicOf, Protected as ProtectedOf, Private as PrivateOf, Static as StaticOf, Final as FinalOf, Abstract as AbstractOf}
use Rattle.jn_trees.specs.Covered.{covered, joined, span_of}
use Rattle.jn_trees.specs.Trees.{BaseTree, ClassBase, IntBase, BooleanBase, Tree, Trees, LiteralTree, NameTree, ThisTree, ParenTree, FieldTree, CallTree, OwnCallTree, SuperCallTree, IndexTree, NewTree, NewArrayTree, ArrayOfTree, PostfixTree, PrefixTree, UnaryTree, CastTree, BinaryTree, InstanceOfTree, ConditionalTree, AssignTree, NoTrees, MoreTrees, LocalMark, AnnotationMark, FinalMark, TypeUseTree, DeclaratorTree, LocalTree, InitTree, ExpressionsInit, DeclarationInit, Statement, Statements, BlockStatement, EmptyStatement, ExpressionStatement, BreakStatement, ContinueStatement, ReturnStatement, LocalStatement, IfStatement, IfElseStatement, WhileStatement, DoStatement, ForStatement, ForEachStatement, ThisCallStatement, SuperCallStatement, NoStatements, MoreStatements, Mark, NoteMark, PublicMark, ProtectedMark, PrivateMark, StaticMark, ConstantMark, AbstractMark, ParameterTree, ReceiverTree, MemberTree, FieldMember, MethodMember, ConstructorMember, TypeDeclaration, ClassType, InterfaceType, DottedName, ImportTree, SourceTree}
use Rattle.jn_trees.specs.Spelling.{spell, spell_annotations, base_token, operator_token, assign_token, spell_list, spell_marks, spell_type_use, spell_declarator, spell_init, spell_optional, spell_statement, spell_mark, spell_all_marks, spell_parameter, spell_parameters, spell_result, spell_member, spell_parent, spell_names, spell_type, spell_package_line, spell_import, spell_imports}
use Rattle.jn_places.specs.Placed.{PlacedLiteral, PlacedName, PlacedThis, PlacedParen, PlacedField, PlacedCall, PlacedOwnCall, PlacedSuperCall, PlacedIndex, PlacedNew, PlacedNewArray, PlacedArrayOf, PlacedPostfix, PlacedPrefix, PlacedUnary, PlacedCast, PlacedBinary, PlacedInstanceOf, PlacedConditional, PlacedAssign, MorePlacedTrees, PlacedTypeUse, PlacedDeclarator, PlacedLocal, PlacedExpressions, PlacedDeclaration, PlacedBlock, PlacedEmpty, PlacedExpression, PlacedBreak, PlacedContinue, PlacedReturn, PlacedLocalStatement, PlacedIf, PlacedIfElse, PlacedWhile, PlacedDo, PlacedFor, PlacedForEach, PlacedThisCall, PlacedSuperCallStatement, MorePlacedStatements, PlacedParameter, PlacedReceiver, PlacedVoid, PlacedValue, PlacedFieldMember, PlacedMethod, PlacedConstructor, PlacedClass, PlacedInterface, PlacedDotted, PlacedPackage, PlacedImport, PlacedFile}
use Rattle.jn_places.specs.Places.{behind, over, front, place_name, place_each, spell_annotation, place_annotation, place_annotations, place_base, place, place_list, place_optional, spell_local_mark, place_local_mark, place_local_marks, place_brackets, place_type_use, place_declarator, spell_next_declarator, place_next_declarator, place_more_declarators, place_local, place_init, place_statement, place_body, place_mark, place_marks, place_parameter, spell_parameter_through, place_parameters, spell_receiver, place_receiver, place_result, place_method_body, place_member, place_members, spell_next_name, place_next_name, place_next_names, place_parent, place_type, place_dotted, place_package, place_import, place_file}
use Rattle.jn_renumber.specs.Names.{entry, renumbered_literal}
use Rattle.jn_renumber.specs.Renumbered.{renumbered_name, renumbered_names, renumbered_annotation, renumbered_annotations, renumbered_base, renumbered, renumbered_list, renumbered_optional, renumbered_local_mark, renumbered_local_marks, renumbered_brackets, renumbered_type_use, renumbered_declarator, renumbered_declarators, renumbered_local, renumbered_init, renumbered_statement, renumbered_statements, renumbered_mark, renumbered_marks, renumbered_parameter, renumbered_parameters, renumbered_receiver, renumbered_result, renumbered_body, renumbered_member, renumbered_members, renumbered_parent, renumbered_type, renumbered_dotted, renumbered_package, renumbered_import, renumbered_file}
use Rattle.jn_renumber.specs.ByNumbers.{entries, base_by, tree_by, trees_by, optional_by, local_mark_by, local_marks_by, brackets_by, type_use_by, declarator_by, declarators_by, local_by, init_by, statement_by, statements_by, mark_by, marks_by, parameter_by, parameters_by, receiver_by, result_by, body_by, member_by, members_by, parent_by, type_by, dotted_by, package_by, import_by, file_by}
use Rattle.jn_renumber.specs.Tokens.{kind_by, tokens_by}
use Rattle.jn_renumber.proofs.Spelled.{notes_spelled, base_spelled, operator_spelled, assign_spelled, spelled, list_spelled, local_marks_spelled, type_use_spelled, declarator_spelled, init_spelled, optional_spelled, statement_spelled, mark_spelled, marks_spelled, parameter_spelled, parameters_spelled, result_spelled, member_spelled, names_spelled, parent_spelled, type_spelled, package_spelled, import_spelled, imports_spelled}

two : {A B C : Type 0} (f : A → B → C) {a x : A} {b y : B} → a ≡ x → b ≡ y → f a b ≡ f x y
two f p q = cc

three : {A B C D : Type 0} (f : A → B → C → D) {a x : A} {b y : B} {c z : C} → a ≡ x → b ≡ y → c ≡ z → f a b c ≡ f x y z
three f p q r = cc

four : {A B C D E : Type 0} (f : A → B → C → D → E) {a x : A} {b y : B} {c z : C} {d w : D} → a ≡ x → b ≡ y → c ≡ z → d ≡ w → f a b c d ≡ f x y z w
four f p q r s = cc

five : {A B C D E F : Type 0} (f : A → B → C → D → E → F) {a x : A} {b y : B} {c z : C} {d w : D} {e v : E} → a ≡ x → b ≡ y → c ≡ z → d ≡ w → e ≡ v → f a b c d e ≡ f x y z w v
five f p q r s t = cc

six : {A B C D E F G : Type 0} (f : A → B → C → D → E → F → G) {a x : A} {b y : B} {c z : C} {d w : D} {e v : E} {g u : F} → a ≡ x → b ≡ y → c ≡ z → d ≡ w → e ≡ v → g ≡ u → f a b c d e g ≡ f x y z w v u
six f p q r s t o = cc

seven : {A B C D E F G H : Type 0} (f : A → B → C → D → E → F → G → H) {a x : A} {b y : B} {c z : C} {d w : D} {e v : E} {g u : F} {h t : G} → a ≡ x → b ≡ y → c ≡ z → d ≡ w → e ≡ v → g ≡ u → h ≡ t → f a b c d e g h ≡ f x y z w v u t
seven f p q r s t o n = cc

module _ (ns : List NameNo) where
  abbrev by : List TokenKind → List TokenKind
  by ks = map (kind_by ns) ks

  -- the same tokens with other numbers
  abbrev Same : List Token → List Token → Type 0
  Same us ts = us ≡ tokens_by ns ts

  drop_one : (ts : List Token) → drop 1 (tokens_by ns ts) ≡ tokens_by ns (drop 1 ts)
  drop_one [] = refl
  drop_one (t ∷ ts) = refl

  dropped : (us ts : List Token) → Same us ts → Same (drop 1 us) (drop 1 ts)
  dropped us ts u = ap (drop 1) u ∙ drop_one ts

  behind_by : (ts : List Token) (ks : List TokenKind) → behind (tokens_by ns ts) (by ks) ≡ tokens_by ns (behind ts ks)
  behind_by ts [] = refl
  behind_by ts (k ∷ ks) = ap (λ us. behind us (by ks)) (drop_one ts) ∙ behind_by (drop 1 ts) ks

  -- what follows as many tokens
  further : (us ts : List Token) (ls ks : List TokenKind) → Same us ts → ls ≡ by ks → Same (behind us ls) (behind ts ks)
  further us ts ls ks u l = two behind u l ∙ behind_by ts ks

  span_at : (ts : List Token) (i : ℕ) → span_of (slice_get (tokens_by ns ts) i) ≡ span_of (slice_get ts i)
  span_at [] i = refl
  span_at (t ∷ ts) zero = refl
  span_at (t ∷ ts) (suc i) = span_at ts i

  length_by : (ts : List Token) → length (tokens_by ns ts) ≡ length ts
  length_by [] = refl
  length_by (t ∷ ts) = ap suc (length_by ts)

  covered_by : (ts rest : List Token) → covered (tokens_by ns ts) (tokens_by ns rest) ≡ covered ts rest
  covered_by ts rest =
      two joined (span_at ts 0) (ap (λ i. span_of (slice_get (tokens_by ns ts) i)) (two (λ a b. a - b - 1) (length_by ts) (length_by rest)) ∙ span_at ts (length ts - length rest - 1))

  front_at : (us ts : List Token) → Same us ts → front us ≡ front ts
  front_at us ts u = ap front u ∙ span_at ts 0

  over_at : (us ts : List Token) (ls ks : List TokenKind) → Same us ts → ls ≡ by ks → over us ls ≡ over ts ks
  over_at us ts ls ks u l = two covered u (further us ts ls ks u l) ∙ covered_by ts (behind ts ks)

  name_at : (us ts : List Token) (n : NameNo) → Same us ts → place_name us (entry ns n) ≡ renumbered_name ns (place_name ts n)
  name_at us ts n u = ap (λ (s : Span). (λ (i : Identifier). i) (record { name = entry ns n; span = s })) (front_at us ts u)

  -- a spelling with one more token
  with_one : (ls ks : List TokenKind) (k l : TokenKind) → kind_by ns k ≡ l → ls ≡ by ks → ls ++ l ∷ [] ≡ by (ks ++ k ∷ [])
  with_one ls ks k l f e = two (λ r a. r ++ a ∷ []) e (sym f) ∙ sym (map-append (kind_by ns) ks (k ∷ []))

  -- of each item of a list, if it holds of each one
  each : {A B : Type 0} (one : List Token → A → B) (spelling : A → List TokenKind) (change : A → A) (changed : B → B) → ((us ts : List Token) (x : A) → Same us ts → one us (change x) ≡ changed (one ts x)) → ((x : A) → spelling (change x) ≡ by (spelling x)) → (us ts : List Token) (xs : List A) → Same us ts → place_each one spelling us (map change xs) ≡ map changed (place_each one spelling ts xs)
  each one spelling change changed same spelled us ts [] u = refl
  each one spelling change changed same spelled us ts (x ∷ xs) u = two (λ a r. a ∷ r) (same us ts x u) (each one spelling change changed same spelled _ _ xs (further us ts _ _ u (spelled x)))

  note_at : (us ts : List Token) (n : NameNo) → Same us ts → place_annotation us (entry ns n) ≡ renumbered_annotation ns (place_annotation ts n)
  note_at us ts n u = ap (λ (s : Span). (λ (a : Annotation). a) (record { name = entry ns n; span = s })) (over_at us ts (spell_annotation (entry ns n)) (spell_annotation n) u refl)

  notes_at : (us ts : List Token) (notes : List NameNo) → Same us ts → place_annotations us (entries ns notes) ≡ renumbered_annotations ns (place_annotations ts notes)
  notes_at us ts notes u = each place_annotation spell_annotation (entry ns) (renumbered_annotation ns) note_at (λ n. refl) us ts notes u

  base_at : (us ts : List Token) (b : BaseTree) → Same us ts → place_base us (base_by ns b) ≡ renumbered_base ns (place_base ts b)
  base_at us ts (ClassBase n) u = ap ClassUse (name_at us ts n u)
  base_at us ts IntBase u = ap IntUse (front_at us ts u)
  base_at us ts BooleanBase u = ap BooleanUse (front_at us ts u)

  before : (e : Tree) (k : TokenKind) → kind_by ns k ≡ k → spell (tree_by ns e) ++ k ∷ [] ≡ by (spell e ++ k ∷ [])
  before e k fixed = with_one (spell (tree_by ns e)) (spell e) k k fixed (spelled ns e)

  base_before : (notes : List NameNo) → New ∷ spell_annotations (entries ns notes) ≡ by (New ∷ spell_annotations notes)
  base_before notes = ap (λ ks. New ∷ ks) (notes_spelled ns notes)

  mutual
    same : (us ts : List Token) (t : Tree) → Same us ts → place us (tree_by ns t) ≡ renumbered ns (place ts t)
    same us ts (LiteralTree l) u = ap (PlacedLiteral (renumbered_literal ns l)) (over_at us ts (spell (tree_by ns (LiteralTree l))) (spell (LiteralTree l)) u (spelled ns (LiteralTree l)))
    same us ts (NameTree n) u = ap PlacedName (name_at us ts n u)
    same us ts ThisTree u = ap PlacedThis (over_at us ts (spell (tree_by ns ThisTree)) (spell ThisTree) u (spelled ns ThisTree))
    same us ts (ParenTree e) u = two PlacedParen (same _ _ e (dropped us ts u)) (over_at us ts (spell (tree_by ns (ParenTree e))) (spell (ParenTree e)) u (spelled ns (ParenTree e)))
    same us ts (FieldTree e n) u = three PlacedField (same us ts e u) (name_at _ _ n (further us ts (spell (tree_by ns e) ++ Dot ∷ []) (spell e ++ Dot ∷ []) u (before e Dot refl))) (over_at us ts (spell (tree_by ns (FieldTree e n))) (spell (FieldTree e n)) u (spelled ns (FieldTree e n)))
    same us ts (CallTree e n es) u =
        let name = further us ts (spell (tree_by ns e) ++ Dot ∷ []) (spell e ++ Dot ∷ []) u (before e Dot refl) in
        four PlacedCall (same us ts e u) (name_at _ _ n name) (list_same _ _ es (further _ _ (Id (entry ns n) ∷ LeftParen ∷ []) (Id n ∷ LeftParen ∷ []) name refl)) (over_at us ts (spell (tree_by ns (CallTree e n es))) (spell (CallTree e n es)) u (spelled ns (CallTree e n es)))
    same us ts (OwnCallTree n es) u = three PlacedOwnCall (name_at us ts n u) (list_same _ _ es (further us ts (Id (entry ns n) ∷ LeftParen ∷ []) (Id n ∷ LeftParen ∷ []) u refl)) (over_at us ts (spell (tree_by ns (OwnCallTree n es))) (spell (OwnCallTree n es)) u (spelled ns (OwnCallTree n es)))
    same us ts (SuperCallTree n es) u =
        let name = further us ts (Super ∷ Dot ∷ []) (Super ∷ Dot ∷ []) u refl in
        three PlacedSuperCall (name_at _ _ n name) (list_same _ _ es (further _ _ (Id (entry ns n) ∷ LeftParen ∷ []) (Id n ∷ LeftParen ∷ []) name refl)) (over_at us ts (spell (tree_by ns (SuperCallTree n es))) (spell (SuperCallTree n es)) u (spelled ns (SuperCallTree n es)))
    same us ts (IndexTree a i) u = three PlacedIndex (same us ts a u) (same _ _ i (further us ts (spell (tree_by ns a) ++ LeftBracket ∷ []) (spell a ++ LeftBracket ∷ []) u (before a LeftBracket refl))) (over_at us ts (spell (tree_by ns (IndexTree a i))) (spell (IndexTree a i)) u (spelled ns (IndexTree a i)))
    same us ts (NewTree n es) u = three PlacedNew (name_at _ _ n (dropped us ts u)) (list_same _ _ es (further us ts (New ∷ Id (entry ns n) ∷ LeftParen ∷ []) (New ∷ Id n ∷ LeftParen ∷ []) u refl)) (over_at us ts (spell (tree_by ns (NewTree n es))) (spell (NewTree n es)) u (spelled ns (NewTree n es)))
    same us ts (NewArrayTree notes b e) u =
        let base = further us ts (New ∷ spell_annotations (entries ns notes)) (New ∷ spell_annotations notes) u (base_before notes) in
        four PlacedNewArray (notes_at _ _ notes (dropped us ts u)) (base_at _ _ b base) (same _ _ e (further _ _ (base_token (base_by ns b) ∷ LeftBracket ∷ []) (base_token b ∷ LeftBracket ∷ []) base (ap (λ k. k ∷ LeftBracket ∷ []) (base_spelled ns b)))) (over_at us ts (spell (tree_by ns (NewArrayTree notes b e))) (spell (NewArrayTree notes b e)) u (spelled ns (NewArrayTree notes b e)))
    same us ts (ArrayOfTree notes b es) u =
        let base = further us ts (New ∷ spell_annotations (entries ns notes)) (New ∷ spell_annotations notes) u (base_before notes) in
        four PlacedArrayOf (notes_at _ _ notes (dropped us ts u)) (base_at _ _ b base) (list_same _ _ es (further _ _ (base_token (base_by ns b) ∷ LeftBracket ∷ RightBracket ∷ LeftBrace ∷ []) (base_token b ∷ LeftBracket ∷ RightBracket ∷ LeftBrace ∷ []) base (ap (λ k. k ∷ LeftBracket ∷ RightBracket ∷ LeftBrace ∷ []) (base_spelled ns b)))) (over_at us ts (spell (tree_by ns (ArrayOfTree notes b es))) (spell (ArrayOfTree notes b es)) u (spelled ns (ArrayOfTree notes b es)))
    same us ts (PostfixTree e s) u = two (λ x o. PlacedPostfix x s o) (same us ts e u) (over_at us ts (spell (tree_by ns (PostfixTree e s))) (spell (PostfixTree e s)) u (spelled ns (PostfixTree e s)))
    same us ts (PrefixTree s e) u = two (λ x o. PlacedPrefix s x o) (same _ _ e (dropped us ts u)) (over_at us ts (spell (tree_by ns (PrefixTree s e))) (spell (PrefixTree s e)) u (spelled ns (PrefixTree s e)))
    same us ts (UnaryTree k e) u = two (λ x o. PlacedUnary k x o) (same _ _ e (dropped us ts u)) (over_at us ts (spell (tree_by ns (UnaryTree k e))) (spell (UnaryTree k e)) u (spelled ns (UnaryTree k e)))
    same us ts (CastTree n e) u = three PlacedCast (name_at _ _ n (dropped us ts u)) (same _ _ e (further us ts (LeftParen ∷ Id (entry ns n) ∷ RightParen ∷ []) (LeftParen ∷ Id n ∷ RightParen ∷ []) u refl)) (over_at us ts (spell (tree_by ns (CastTree n e))) (spell (CastTree n e)) u (spelled ns (CastTree n e)))
    same us ts (BinaryTree a k b) u = three (λ x y o. PlacedBinary x k y o) (same us ts a u) (same _ _ b (further us ts (spell (tree_by ns a) ++ (operator_token k) ∷ []) (spell a ++ (operator_token k) ∷ []) u (before a (operator_token k) (operator_spelled ns k)))) (over_at us ts (spell (tree_by ns (BinaryTree a k b))) (spell (BinaryTree a k b)) u (spelled ns (BinaryTree a k b)))
    same us ts (InstanceOfTree e n) u = three PlacedInstanceOf (same us ts e u) (name_at _ _ n (further us ts (spell (tree_by ns e) ++ Instanceof ∷ []) (spell e ++ Instanceof ∷ []) u (before e Instanceof refl))) (over_at us ts (spell (tree_by ns (InstanceOfTree e n))) (spell (InstanceOfTree e n)) u (spelled ns (InstanceOfTree e n)))
    same us ts (ConditionalTree c a b) u =
        let first = further us ts (spell (tree_by ns c) ++ Question ∷ []) (spell c ++ Question ∷ []) u (before c Question refl) in
        let second = further _ _ (spell (tree_by ns a) ++ Colon ∷ []) (spell a ++ Colon ∷ []) first (before a Colon refl) in
        four PlacedConditional (same us ts c u) (same _ _ a first) (same _ _ b second) (over_at us ts (spell (tree_by ns (ConditionalTree c a b))) (spell (ConditionalTree c a b)) u (spelled ns (ConditionalTree c a b)))
    same us ts (AssignTree a k b) u = three (λ x y o. PlacedAssign x k y o) (same us ts a u) (same _ _ b (further us ts (spell (tree_by ns a) ++ (assign_token k) ∷ []) (spell a ++ (assign_token k) ∷ []) u (before a (assign_token k) (assign_spelled ns k)))) (over_at us ts (spell (tree_by ns (AssignTree a k b))) (spell (AssignTree a k b)) u (spelled ns (AssignTree a k b)))

    list_same : (us ts : List Token) (es : Trees) → Same us ts → place_list us (trees_by ns es) ≡ renumbered_list ns (place_list ts es)
    list_same us ts NoTrees u = refl
    list_same us ts (MoreTrees e es) u = two MorePlacedTrees (same us ts e u) (list_same _ _ es (further us ts (spell (tree_by ns e) ++ Comma ∷ []) (spell e ++ Comma ∷ []) u (before e Comma refl)))

  optional_same : (us ts : List Token) (e : Option Tree) → Same us ts → place_optional us (optional_by ns e) ≡ renumbered_optional ns (place_optional ts e)
  optional_same us ts None u = refl
  optional_same us ts (Some e) u = ap Some (same us ts e u)

  local_mark_same : (us ts : List Token) (m : LocalMark) → Same us ts → place_local_mark us (local_mark_by ns m) ≡ renumbered_local_mark ns (place_local_mark ts m)
  local_mark_same us ts (AnnotationMark n) u = ap LocalAnnotation (note_at us ts n u)
  local_mark_same us ts FinalMark u = ap LocalFinal (front_at us ts u)

  local_mark_spelled : (m : LocalMark) → spell_local_mark (local_mark_by ns m) ≡ by (spell_local_mark m)
  local_mark_spelled (AnnotationMark n) = refl
  local_mark_spelled FinalMark = refl

  local_marks_same : (us ts : List Token) (ms : List LocalMark) → Same us ts → place_local_marks us (local_marks_by ns ms) ≡ renumbered_local_marks ns (place_local_marks ts ms)
  local_marks_same us ts ms u = each place_local_mark spell_local_mark (local_mark_by ns) (renumbered_local_mark ns) local_mark_same local_mark_spelled us ts ms u

  brackets_same : (us ts : List Token) (b : Option (List NameNo)) → Same us ts → place_brackets us (brackets_by ns b) ≡ renumbered_brackets ns (place_brackets ts b)
  brackets_same us ts None u = refl
  brackets_same us ts (Some notes) u = ap Some (notes_at us ts notes u)

  type_use_same : (us ts : List Token) (t : TypeUseTree) → Same us ts → place_type_use us (type_use_by ns t) ≡ renumbered_type_use ns (place_type_use ts t)
  type_use_same us ts t u = three (λ b a o. (λ (r : PlacedTypeUse). r) (record { base = b; array = a; span = o })) (base_at us ts t.base u) (brackets_same _ _ t.array (dropped us ts u)) (over_at us ts (spell_type_use (type_use_by ns t)) (spell_type_use t) u (type_use_spelled ns t))

  declarator_same : (us ts : List Token) (d : DeclaratorTree) → Same us ts → place_declarator us (declarator_by ns d) ≡ renumbered_declarator ns (place_declarator ts d)
  declarator_same us ts d u = two (λ n v. (λ (r : PlacedDeclarator). r) (record { name = n; value = v })) (name_at us ts d.name u) (optional_same _ _ d.value (dropped _ _ (dropped us ts u)))

  next_declarator_same : (us ts : List Token) (d : DeclaratorTree) → Same us ts → place_next_declarator us (declarator_by ns d) ≡ renumbered_declarator ns (place_next_declarator ts d)
  next_declarator_same us ts d u = declarator_same _ _ d (dropped us ts u)

  declarators_same : (us ts : List Token) (ds : List DeclaratorTree) → Same us ts → place_more_declarators us (declarators_by ns ds) ≡ renumbered_declarators ns (place_more_declarators ts ds)
  declarators_same us ts ds u = each place_next_declarator spell_next_declarator (declarator_by ns) (renumbered_declarator ns) next_declarator_same (λ d. ap (λ ks. Comma ∷ ks) (declarator_spelled ns d)) us ts ds u

  local_same : (us ts : List Token) (l : LocalTree) → Same us ts → place_local us (local_by ns l) ≡ renumbered_local ns (place_local ts l)
  local_same us ts l u =
      let type_use = further us ts (spell_marks (local_marks_by ns l.marks)) (spell_marks l.marks) u (local_marks_spelled ns l.marks) in
      let first = further _ _ (spell_type_use (type_use_by ns l.type_use)) (spell_type_use l.type_use) type_use (type_use_spelled ns l.type_use) in
      let more = further _ _ (spell_declarator (declarator_by ns l.first)) (spell_declarator l.first) first (declarator_spelled ns l.first) in
      four (λ m t f ds. (λ (r : PlacedLocal). r) (record { marks = m; type_use = t; first = f; more = ds })) (local_marks_same us ts l.marks u) (type_use_same _ _ l.type_use type_use) (declarator_same _ _ l.first first) (declarators_same _ _ l.more more)

  init_same : (us ts : List Token) (i : InitTree) → Same us ts → place_init us (init_by ns i) ≡ renumbered_init ns (place_init ts i)
  init_same us ts (ExpressionsInit es) u = ap PlacedExpressions (list_same us ts es u)
  init_same us ts (DeclarationInit l) u = ap PlacedDeclaration (local_same us ts l u)

  optional_before : (e : Option Tree) (k : TokenKind) → kind_by ns k ≡ k → spell_optional (optional_by ns e) ++ k ∷ [] ≡ by (spell_optional e ++ k ∷ [])
  optional_before e k fixed = with_one (spell_optional (optional_by ns e)) (spell_optional e) k k fixed (optional_spelled ns e)

  statement_before : (s : Statement) (k : TokenKind) → kind_by ns k ≡ k → spell_statement (statement_by ns s) ++ k ∷ [] ≡ by (spell_statement s ++ k ∷ [])
  statement_before s k fixed = with_one (spell_statement (statement_by ns s)) (spell_statement s) k k fixed (statement_spelled ns s)

  do_before : (s : Statement) → Do ∷ (spell_statement (statement_by ns s) ++ While ∷ LeftParen ∷ []) ≡ by (Do ∷ (spell_statement s ++ While ∷ LeftParen ∷ []))
  do_before s = simp (statement_spelled ns s, map-append)

  mutual
    statement_same : (us ts : List Token) (s : Statement) → Same us ts → place_statement us (statement_by ns s) ≡ renumbered_statement ns (place_statement ts s)
    statement_same us ts (BlockStatement ss) u = two PlacedBlock (body_same _ _ ss (dropped us ts u)) (over_at us ts (spell_statement (statement_by ns (BlockStatement ss))) (spell_statement (BlockStatement ss)) u (statement_spelled ns (BlockStatement ss)))
    statement_same us ts EmptyStatement u = ap PlacedEmpty (over_at us ts (spell_statement (statement_by ns EmptyStatement)) (spell_statement EmptyStatement) u (statement_spelled ns EmptyStatement))
    statement_same us ts (ExpressionStatement e) u = two PlacedExpression (same us ts e u) (over_at us ts (spell_statement (statement_by ns (ExpressionStatement e))) (spell_statement (ExpressionStatement e)) u (statement_spelled ns (ExpressionStatement e)))
    statement_same us ts BreakStatement u = ap PlacedBreak (over_at us ts (spell_statement (statement_by ns BreakStatement)) (spell_statement BreakStatement) u (statement_spelled ns BreakStatement))
    statement_same us ts ContinueStatement u = ap PlacedContinue (over_at us ts (spell_statement (statement_by ns ContinueStatement)) (spell_statement ContinueStatement) u (statement_spelled ns ContinueStatement))
    statement_same us ts (ReturnStatement e) u = two PlacedReturn (optional_same _ _ e (dropped us ts u)) (over_at us ts (spell_statement (statement_by ns (ReturnStatement e))) (spell_statement (ReturnStatement e)) u (statement_spelled ns (ReturnStatement e)))
    statement_same us ts (LocalStatement l) u = two PlacedLocalStatement (local_same us ts l u) (over_at us ts (spell_statement (statement_by ns (LocalStatement l))) (spell_statement (LocalStatement l)) u (statement_spelled ns (LocalStatement l)))
    statement_same us ts (IfStatement c s) u =
        let condition = further us ts (If ∷ LeftParen ∷ []) (If ∷ LeftParen ∷ []) u refl in
        let body = further _ _ (spell (tree_by ns c) ++ RightParen ∷ []) (spell c ++ RightParen ∷ []) condition (before c RightParen refl) in
        three PlacedIf (same _ _ c condition) (statement_same _ _ s body) (over_at us ts (spell_statement (statement_by ns (IfStatement c s))) (spell_statement (IfStatement c s)) u (statement_spelled ns (IfStatement c s)))
    statement_same us ts (IfElseStatement c s o) u =
        let condition = further us ts (If ∷ LeftParen ∷ []) (If ∷ LeftParen ∷ []) u refl in
        let body = further _ _ (spell (tree_by ns c) ++ RightParen ∷ []) (spell c ++ RightParen ∷ []) condition (before c RightParen refl) in
        let other = further _ _ (spell_statement (statement_by ns s) ++ Else ∷ []) (spell_statement s ++ Else ∷ []) body (statement_before s Else refl) in
        four PlacedIfElse (same _ _ c condition) (statement_same _ _ s body) (statement_same _ _ o other) (over_at us ts (spell_statement (statement_by ns (IfElseStatement c s o))) (spell_statement (IfElseStatement c s o)) u (statement_spelled ns (IfElseStatement c s o)))
    statement_same us ts (WhileStatement c s) u =
        let condition = further us ts (While ∷ LeftParen ∷ []) (While ∷ LeftParen ∷ []) u refl in
        let body = further _ _ (spell (tree_by ns c) ++ RightParen ∷ []) (spell c ++ RightParen ∷ []) condition (before c RightParen refl) in
        three PlacedWhile (same _ _ c condition) (statement_same _ _ s body) (over_at us ts (spell_statement (statement_by ns (WhileStatement c s))) (spell_statement (WhileStatement c s)) u (statement_spelled ns (WhileStatement c s)))
    statement_same us ts (DoStatement s c) u =
        let condition = further us ts (Do ∷ (spell_statement (statement_by ns s) ++ While ∷ LeftParen ∷ [])) (Do ∷ (spell_statement s ++ While ∷ LeftParen ∷ [])) u (do_before s) in
        three PlacedDo (statement_same _ _ s (dropped us ts u)) (same _ _ c condition) (over_at us ts (spell_statement (statement_by ns (DoStatement s c))) (spell_statement (DoStatement s c)) u (statement_spelled ns (DoStatement s c)))
    statement_same us ts (ForStatement i c es s) u =
        let init = further us ts (For ∷ LeftParen ∷ []) (For ∷ LeftParen ∷ []) u refl in
        let condition = further _ _ (spell_init (init_by ns i)) (spell_init i) init (init_spelled ns i) in
        let update = further _ _ (spell_optional (optional_by ns c) ++ Semicolon ∷ []) (spell_optional c ++ Semicolon ∷ []) condition (optional_before c Semicolon refl) in
        let body = further _ _ (spell_list RightParen (trees_by ns es)) (spell_list RightParen es) update (list_spelled ns RightParen refl es) in
        five PlacedFor (init_same _ _ i init) (optional_same _ _ c condition) (list_same _ _ es update) (statement_same _ _ s body) (over_at us ts (spell_statement (statement_by ns (ForStatement i c es s))) (spell_statement (ForStatement i c es s)) u (statement_spelled ns (ForStatement i c es s)))
    statement_same us ts (ForEachStatement ms t n e s) u =
        let marks = further us ts (For ∷ LeftParen ∷ []) (For ∷ LeftParen ∷ []) u refl in
        let type_use = further _ _ (spell_marks (local_marks_by ns ms)) (spell_marks ms) marks (local_marks_spelled ns ms) in
        let name = further _ _ (spell_type_use (type_use_by ns t)) (spell_type_use t) type_use (type_use_spelled ns t) in
        let array = further _ _ (Id (entry ns n) ∷ Colon ∷ []) (Id n ∷ Colon ∷ []) name refl in
        let body = further _ _ (spell (tree_by ns e) ++ RightParen ∷ []) (spell e ++ RightParen ∷ []) array (before e RightParen refl) in
        six PlacedForEach (local_marks_same _ _ ms marks) (type_use_same _ _ t type_use) (name_at _ _ n name) (same _ _ e array) (statement_same _ _ s body) (over_at us ts (spell_statement (statement_by ns (ForEachStatement ms t n e s))) (spell_statement (ForEachStatement ms t n e s)) u (statement_spelled ns (ForEachStatement ms t n e s)))
    statement_same us ts (ThisCallStatement es) u = two PlacedThisCall (list_same _ _ es (further us ts (This ∷ LeftParen ∷ []) (This ∷ LeftParen ∷ []) u refl)) (over_at us ts (spell_statement (statement_by ns (ThisCallStatement es))) (spell_statement (ThisCallStatement es)) u (statement_spelled ns (ThisCallStatement es)))
    statement_same us ts (SuperCallStatement es) u = two PlacedSuperCallStatement (list_same _ _ es (further us ts (Super ∷ LeftParen ∷ []) (Super ∷ LeftParen ∷ []) u refl)) (over_at us ts (spell_statement (statement_by ns (SuperCallStatement es))) (spell_statement (SuperCallStatement es)) u (statement_spelled ns (SuperCallStatement es)))

    body_same : (us ts : List Token) (ss : Statements) → Same us ts → place_body us (statements_by ns ss) ≡ renumbered_statements ns (place_body ts ss)
    body_same us ts NoStatements u = refl
    body_same us ts (MoreStatements s ss) u = two MorePlacedStatements (statement_same us ts s u) (body_same _ _ ss (further us ts (spell_statement (statement_by ns s)) (spell_statement s) u (statement_spelled ns s)))

  mark_same : (us ts : List Token) (m : Mark) → Same us ts → place_mark us (mark_by ns m) ≡ renumbered_mark ns (place_mark ts m)
  mark_same us ts (NoteMark n) u = ap NoteOf (note_at us ts n u)
  mark_same us ts PublicMark u = ap PublicOf (front_at us ts u)
  mark_same us ts ProtectedMark u = ap ProtectedOf (front_at us ts u)
  mark_same us ts PrivateMark u = ap PrivateOf (front_at us ts u)
  mark_same us ts StaticMark u = ap StaticOf (front_at us ts u)
  mark_same us ts ConstantMark u = ap FinalOf (front_at us ts u)
  mark_same us ts AbstractMark u = ap AbstractOf (front_at us ts u)

  marks_same : (us ts : List Token) (ms : List Mark) → Same us ts → place_marks us (marks_by ns ms) ≡ renumbered_marks ns (place_marks ts ms)
  marks_same us ts ms u = each place_mark spell_mark (mark_by ns) (renumbered_mark ns) mark_same (mark_spelled ns) us ts ms u

  parameter_same : (us ts : List Token) (p : ParameterTree) → Same us ts → place_parameter us (parameter_by ns p) ≡ renumbered_parameter ns (place_parameter ts p)
  parameter_same us ts p u =
      let type_use = further us ts (spell_marks (local_marks_by ns p.marks)) (spell_marks p.marks) u (local_marks_spelled ns p.marks) in
      let name = further _ _ (spell_type_use (type_use_by ns p.type_use)) (spell_type_use p.type_use) type_use (type_use_spelled ns p.type_use) in
      three (λ m t n. (λ (r : PlacedParameter). r) (record { marks = m; type_use = t; name = n })) (local_marks_same us ts p.marks u) (type_use_same _ _ p.type_use type_use) (name_at _ _ p.name name)

  parameters_same : (us ts : List Token) (ps : List ParameterTree) → Same us ts → place_parameters us (parameters_by ns ps) ≡ renumbered_parameters ns (place_parameters ts ps)
  parameters_same us ts ps u = each place_parameter spell_parameter_through (parameter_by ns) (renumbered_parameter ns) parameter_same (λ p. with_one (spell_parameter (parameter_by ns p)) (spell_parameter p) Comma Comma refl (parameter_spelled ns p)) us ts ps u

  receiver_spelled : (r : Option ReceiverTree) → spell_receiver (receiver_by ns r) ≡ by (spell_receiver r)
  receiver_spelled None = refl
  receiver_spelled (Some r) = simp (notes_spelled ns r.annotations, map-append)

  receiver_same : (us ts : List Token) (r : Option ReceiverTree) → Same us ts → place_receiver us (receiver_by ns r) ≡ renumbered_receiver ns (place_receiver ts r)
  receiver_same us ts None u = refl
  receiver_same us ts (Some r) u = two (λ a n. Some ((λ (p : PlacedReceiver). p) (record { annotations = a; class = n }))) (notes_at us ts r.annotations u) (name_at _ _ r.class (further us ts (spell_annotations (entries ns r.annotations)) (spell_annotations r.annotations) u (notes_spelled ns r.annotations)))

  result_same : (us ts : List Token) (r : Option TypeUseTree) → Same us ts → place_result us (result_by ns r) ≡ renumbered_result ns (place_result ts r)
  result_same us ts None u = ap PlacedVoid (front_at us ts u)
  result_same us ts (Some t) u = ap PlacedValue (type_use_same us ts t u)

  method_body_same : (us ts : List Token) (b : Option Statements) → Same us ts → place_method_body us (body_by ns b) ≡ renumbered_body ns (place_method_body ts b)
  method_body_same us ts None u = refl
  method_body_same us ts (Some ss) u = ap Some (body_same _ _ ss (dropped us ts u))

  member_same : (us ts : List Token) (m : MemberTree) → Same us ts → place_member us (member_by ns m) ≡ renumbered_member ns (place_member ts m)
  member_same us ts (FieldMember ms t d ds) u =
      let type_use = further us ts (spell_all_marks (marks_by ns ms)) (spell_all_marks ms) u (marks_spelled ns ms) in
      let first = further _ _ (spell_type_use (type_use_by ns t)) (spell_type_use t) type_use (type_use_spelled ns t) in
      let more = further _ _ (spell_declarator (declarator_by ns d)) (spell_declarator d) first (declarator_spelled ns d) in
      five PlacedFieldMember (marks_same us ts ms u) (type_use_same _ _ t type_use) (declarator_same _ _ d first) (declarators_same _ _ ds more) (over_at us ts (spell_member (member_by ns (FieldMember ms t d ds))) (spell_member (FieldMember ms t d ds)) u (member_spelled ns (FieldMember ms t d ds)))
  member_same us ts (MethodMember ms t n r ps body) u =
      let result = further us ts (spell_all_marks (marks_by ns ms)) (spell_all_marks ms) u (marks_spelled ns ms) in
      let name = further _ _ (spell_result (result_by ns t)) (spell_result t) result (result_spelled ns t) in
      let receiver = further _ _ (Id (entry ns n) ∷ LeftParen ∷ []) (Id n ∷ LeftParen ∷ []) name refl in
      let parameters = further _ _ (spell_receiver (receiver_by ns r)) (spell_receiver r) receiver (receiver_spelled r) in
      let brace = further _ _ (spell_parameters (receiver_by ns r) (parameters_by ns ps)) (spell_parameters r ps) receiver (parameters_spelled ns r ps) in
      seven PlacedMethod (marks_same us ts ms u) (result_same _ _ t result) (name_at _ _ n name) (receiver_same _ _ r receiver) (parameters_same _ _ ps parameters) (method_body_same _ _ body brace) (over_at us ts (spell_member (member_by ns (MethodMember ms t n r ps body))) (spell_member (MethodMember ms t n r ps body)) u (member_spelled ns (MethodMember ms t n r ps body)))
  member_same us ts (ConstructorMember ms n ps ss) u =
      let name = further us ts (spell_all_marks (marks_by ns ms)) (spell_all_marks ms) u (marks_spelled ns ms) in
      let parameters = further _ _ (Id (entry ns n) ∷ LeftParen ∷ []) (Id n ∷ LeftParen ∷ []) name refl in
      let body = further _ _ ((spell_parameters (receiver_by ns None) (parameters_by ns ps)) ++ LeftBrace ∷ []) ((spell_parameters None ps) ++ LeftBrace ∷ []) parameters (with_one (spell_parameters (receiver_by ns None) (parameters_by ns ps)) (spell_parameters None ps) LeftBrace LeftBrace refl (parameters_spelled ns None ps)) in
      five PlacedConstructor (marks_same us ts ms u) (name_at _ _ n name) (parameters_same _ _ ps parameters) (body_same _ _ ss body) (over_at us ts (spell_member (member_by ns (ConstructorMember ms n ps ss))) (spell_member (ConstructorMember ms n ps ss)) u (member_spelled ns (ConstructorMember ms n ps ss)))

  members_same : (us ts : List Token) (ms : List MemberTree) → Same us ts → place_members us (members_by ns ms) ≡ renumbered_members ns (place_members ts ms)
  members_same us ts ms u = each place_member spell_member (member_by ns) (renumbered_member ns) member_same (member_spelled ns) us ts ms u

  next_name_same : (us ts : List Token) (n : NameNo) → Same us ts → place_next_name us (entry ns n) ≡ renumbered_name ns (place_next_name ts n)
  next_name_same us ts n u = name_at _ _ n (dropped us ts u)

  next_names_same : (us ts : List Token) (names : List NameNo) → Same us ts → place_next_names us (entries ns names) ≡ renumbered_names ns (place_next_names ts names)
  next_names_same us ts names u = each place_next_name spell_next_name (entry ns) (renumbered_name ns) next_name_same (λ n. refl) us ts names u

  parent_same : (us ts : List Token) (p : Option NameNo) → Same us ts → place_parent us (parent_by ns p) ≡ renumbered_parent ns (place_parent ts p)
  parent_same us ts None u = refl
  parent_same us ts (Some n) u = ap Some (next_name_same us ts n u)

  type_same : (us ts : List Token) (t : TypeDeclaration) → Same us ts → place_type us (type_by ns t) ≡ renumbered_type ns (place_type ts t)
  type_same us ts (ClassType ms n parent interfaces members) u =
      let name = further us ts ((spell_all_marks (marks_by ns ms)) ++ Class ∷ []) ((spell_all_marks ms) ++ Class ∷ []) u (with_one (spell_all_marks (marks_by ns ms)) (spell_all_marks ms) Class Class refl (marks_spelled ns ms)) in
      let superclass = dropped _ _ name in
      let names = further _ _ (spell_parent (parent_by ns parent)) (spell_parent parent) superclass (parent_spelled ns parent) in
      let inside = further _ _ ((spell_names Implements (entries ns interfaces)) ++ LeftBrace ∷ []) ((spell_names Implements interfaces) ++ LeftBrace ∷ []) names (with_one (spell_names Implements (entries ns interfaces)) (spell_names Implements interfaces) LeftBrace LeftBrace refl (names_spelled ns Implements refl interfaces)) in
      six PlacedClass (marks_same us ts ms u) (name_at _ _ n name) (parent_same _ _ parent superclass) (next_names_same _ _ interfaces names) (members_same _ _ members inside) (over_at us ts (spell_type (type_by ns (ClassType ms n parent interfaces members))) (spell_type (ClassType ms n parent interfaces members)) u (type_spelled ns (ClassType ms n parent interfaces members)))
  type_same us ts (InterfaceType ms n parents members) u =
      let name = further us ts ((spell_all_marks (marks_by ns ms)) ++ Interface ∷ []) ((spell_all_marks ms) ++ Interface ∷ []) u (with_one (spell_all_marks (marks_by ns ms)) (spell_all_marks ms) Interface Interface refl (marks_spelled ns ms)) in
      let names = dropped _ _ name in
      let inside = further _ _ ((spell_names Extends (entries ns parents)) ++ LeftBrace ∷ []) ((spell_names Extends parents) ++ LeftBrace ∷ []) names (with_one (spell_names Extends (entries ns parents)) (spell_names Extends parents) LeftBrace LeftBrace refl (names_spelled ns Extends refl parents)) in
      five PlacedInterface (marks_same us ts ms u) (name_at _ _ n name) (next_names_same _ _ parents names) (members_same _ _ members inside) (over_at us ts (spell_type (type_by ns (InterfaceType ms n parents members))) (spell_type (InterfaceType ms n parents members)) u (type_spelled ns (InterfaceType ms n parents members)))

  dotted_same : (us ts : List Token) (q : DottedName) → Same us ts → place_dotted us (dotted_by ns q) ≡ renumbered_dotted ns (place_dotted ts q)
  dotted_same us ts q u = two (λ f m. (λ (r : PlacedDotted). r) (record { first = f; more = m })) (name_at us ts q.first u) (next_names_same _ _ q.more (dropped us ts u))

  package_same : (us ts : List Token) (p : Option DottedName) → Same us ts → place_package us (package_by ns p) ≡ renumbered_package ns (place_package ts p)
  package_same us ts None u = refl
  package_same us ts (Some q) u = two (λ n s. Some ((λ (r : PlacedPackage). r) (record { name = n; span = s }))) (dotted_same _ _ q (dropped us ts u)) (over_at us ts (spell_package_line (package_by ns (Some q))) (spell_package_line (Some q)) u (package_spelled ns (Some q)))

  import_same : (us ts : List Token) (i : ImportTree) → Same us ts → place_import us (import_by ns i) ≡ renumbered_import ns (place_import ts i)
  import_same us ts i u = two (λ n s. (λ (r : PlacedImport). r) (record { name = n; all = i.all; span = s })) (dotted_same _ _ i.name (dropped us ts u)) (over_at us ts (spell_import (import_by ns i)) (spell_import i) u (import_spelled ns i))

  pub file_same : (ts : List Token) (f : SourceTree) → place_file (tokens_by ns ts) (file_by ns f) ≡ renumbered_file ns (place_file ts f)
  file_same ts f =
      let imports = further (tokens_by ns ts) ts _ _ refl (package_spelled ns f.package_line) in
      let types = further _ _ (spell_imports (map (import_by ns) f.imports)) (spell_imports f.imports) imports (imports_spelled ns f.imports) in
      three (λ p i t. (λ (r : PlacedFile). r) (record { package_line = p; imports = i; types = t })) (package_same (tokens_by ns ts) ts f.package_line refl) (each place_import spell_import (import_by ns) (renumbered_import ns) import_same (import_spelled ns) _ _ f.imports imports) (each place_type spell_type (type_by ns) (renumbered_type ns) type_same (type_spelled ns) _ _ f.types types)
