-- Expressions that differ in places have the same codes of rows J1 to J5.
use Rattle.std.proofs.Common.{◌≡◌, ℕ, Bool, not, cond, ◌&&◌, ◌||◌, List, [], ◌∷◌, ◌++◌, refl, sym, ap, ◌∙◌}
use Rattle.std.specs.Prelude.{drop}
use Rattle.jn_base.specs.declared.code.Code.TheVariants.{J1, J5}
use Rattle.jn_base.specs.declared.place.Row.{Row}
use Rattle.jn_base.specs.declared.place.Span.{Span}
use Rattle.jn_points.specs.declared.point.BaseType.{BaseType}
use Rattle.jn_points.specs.declared.program.Program.{Program}
use Rattle.jn_known.specs.Known.{is_object_member}
use Rattle.jn_points.specs.Members.{method_of}
use Rattle.jn_trees.specs.declared.token.Token.{Token}
use Rattle.jn_trees.specs.declared.token.TokenKind.TheVariants.{Id, New, LeftParen, RightParen, LeftBrace, LeftBracket, RightBracket, Dot, Comma, Question, Colon, Super, Instanceof}
use Rattle.jn_trees.specs.Trees.{Tree, Trees, LiteralTree, NameTree, ThisTree, ParenTree, FieldTree, CallTree, OwnCallTree, SuperCallTree, IndexTree, NewTree, NewArrayTree, ArrayOfTree, PostfixTree, PrefixTree, UnaryTree, CastTree, BinaryTree, InstanceOfTree, ConditionalTree, AssignTree, NoTrees, MoreTrees}
use Rattle.jn_trees.specs.Spelling.{spell, spell_annotations, base_token, operator_token, assign_token}
use Rattle.jn_trees.specs.declared.expression.BinaryOperator.{BinaryOperator}
use Rattle.jn_places.specs.Places.{behind, front, place, place_list, place_base, place_annotations}
use Rattle.jn_places.specs.Placed.{PlacedTree, PlacedTrees}
use Rattle.jn_lowering.specs.Scopes.{Scope, access, before_dot, callee, class_named, count, super_method}
use Rattle.jn_lowering.specs.Bases.{is_equality, type_of}
use Rattle.jn_lowering.specs.Expressions.{is_null, span_of}
use Rattle.jn_lowering.specs.Annotations.{known_class, row, unless, when}
use Rattle.jn_lowering.specs.ExpressionRows.{Setting, access_rows, array_rows, assigned_access_rows, assigned_rows, dotted_call_rows, equality_rows, index_rows, inner_span, is_this, new_rows, own_method_rows, rows_of, rows_of_all, super_method_rows, wide_references}
use Rattle.jn_places_law.specs.Bare.{Alike, bare, codes_of}
use Rattle.jn_places_law.specs.Erased.{bare_local, bare_meaning, bare_scope, bare_tree, coded_scope}
use Rattle.jn_places_law.proofs.Meanings.{access_is, before_is, callee_is, count_bare, null_bare, super_method_is, type_is}
use Rattle.jn_places_law.proofs.Places.{base_placed, listed, notes_placed, placed}
use Rattle.jn_places_law.proofs.RowForms.{Same, access_same, across, array_rows_same, assigned_access_same, assigned_name_same, both, class_named_same, cond_same, dotted_same, index_same, known_same, name_same, new_same, own_method_same, super_method_by, unless_same, when_same}

-- scopes alike in the codes of their rows are alike

without_codes : (s : Scope) → bare_scope (coded_scope s) ≡ bare_scope s
without_codes [] = refl
without_codes (l ∷ ls) = ap (λ r. bare_local l ∷ r) (without_codes ls)

pub scopes_alike : (s r : Scope) → coded_scope s ≡ coded_scope r → bare_scope s ≡ bare_scope r
scopes_alike s r k = sym (without_codes s) ∙ ap bare_scope k ∙ without_codes r

pub counts_same : (ts us : List Token) (es : Trees) → count (place_list ts es) ≡ count (place_list us es)
counts_same ts us es = sym (count_bare (place_list ts es)) ∙ ap count (listed ts us es) ∙ count_bare (place_list us es)

null_same : (ts us : List Token) (e : Tree) → is_null (place ts e) ≡ is_null (place us e)
null_same ts us e = sym (null_bare (place ts e)) ∙ ap is_null (placed ts us e) ∙ null_bare (place us e)

this_same : (ts us : List Token) (e : Tree) → is_this (place ts e) ≡ is_this (place us e)
this_same ts us (LiteralTree l) = refl
this_same ts us (NameTree n) = refl
this_same ts us ThisTree = refl
this_same ts us (ParenTree e) = this_same (drop 1 ts) (drop 1 us) e
this_same ts us (FieldTree e n) = refl
this_same ts us (CallTree e n es) = refl
this_same ts us (OwnCallTree n es) = refl
this_same ts us (SuperCallTree n es) = refl
this_same ts us (IndexTree a i) = refl
this_same ts us (NewTree n es) = refl
this_same ts us (NewArrayTree ns b e) = refl
this_same ts us (ArrayOfTree ns b es) = refl
this_same ts us (PostfixTree e s) = refl
this_same ts us (PrefixTree s e) = refl
this_same ts us (UnaryTree o e) = refl
this_same ts us (CastTree n e) = refl
this_same ts us (BinaryTree l o r) = refl
this_same ts us (InstanceOfTree e n) = refl
this_same ts us (ConditionalTree c a b) = refl
this_same ts us (AssignTree l o r) = refl

equality_same : (P Q : Program) (o : BinaryOperator) (n m : Bool) (a b x y : BaseType) (span at : Span) → n ≡ m → a ≡ b → x ≡ y → Same (equality_rows P o n a x span) (equality_rows Q o m b y at)
equality_same P Q o n m a b x y span at e g k =
    when_same (is_equality o && (not n && wide_references P a x)) (is_equality o && (not m && wide_references Q b y)) (row J5 span) (row J5 at)
    (ap (λ z. is_equality o && (not z && wide_references P a x)) e ∙ ap (λ z. is_equality o && (not m && wide_references P z x)) g ∙ ap (λ z. is_equality o && (not m && wide_references P b z)) k) refl

either_same : {a b x y : Bool} → a ≡ b → x ≡ y → (a || x) ≡ (b || y)
either_same {a} {b} {x} {y} h k = ap (λ z. z || x) h ∙ ap (λ z. b || z) k

module _ (P Q : Program) (h : Alike P Q) (c : ℕ) (w : Setting) (s r : Scope) (k : coded_scope s ≡ coded_scope r) where
  -- what is read of a tree in its scope

  in_scope : {A : Type 0} (f : Program → Scope → PlacedTree → A) → ((R : Program) (x : Scope) (e : PlacedTree) → f (bare R) (bare_scope x) (bare_tree e) ≡ f R x e) → (ts us : List Token) (e : Tree) → f P s (place ts e) ≡ f Q r (place us e)
  in_scope f is ts us e =
      sym (is P s (place ts e))
      ∙ ap (λ z. f z (bare_scope s) (bare_tree (place ts e))) h
      ∙ ap (λ z. f (bare Q) z (bare_tree (place ts e))) (scopes_alike s r k)
      ∙ ap (f (bare Q) (bare_scope r)) (placed ts us e)
      ∙ is Q r (place us e)

  types_same : (ts us : List Token) (e : Tree) → type_of P c s (place ts e) ≡ type_of Q c r (place us e)
  types_same = in_scope (λ R x e. type_of R c x e) (λ R x e. type_is R c x e)

  access_to : (ts us : List Token) (e : Tree) (n : ℕ) → access P c s (place ts e) (type_of P c s (place ts e)) n ≡ access Q c r (place us e) (type_of Q c r (place us e)) n
  access_to ts us e n = in_scope (λ R x d. access R c x d (type_of P c s (place ts e)) n) (λ R x d. access_is R c x d (type_of P c s (place ts e)) n) ts us e ∙ ap (λ b. access Q c r (place us e) b n) (types_same ts us e)

  callee_to : (ts us : List Token) (e : Tree) (n i j : ℕ) → i ≡ j → callee P c s (place ts e) (type_of P c s (place ts e)) n i ≡ callee Q c r (place us e) (type_of Q c r (place us e)) n j
  callee_to ts us e n i j g = in_scope (λ R x d. callee R c x d (type_of P c s (place ts e)) n i) (λ R x d. callee_is R c x d (type_of P c s (place ts e)) n i) ts us e ∙ ap (λ b. callee Q c r (place us e) b n i) (types_same ts us e) ∙ ap (callee Q c r (place us e) (type_of Q c r (place us e)) n) g

  before_to : (ts us : List Token) (e : Tree) → bare_meaning (before_dot P c s (place ts e)) ≡ bare_meaning (before_dot Q c r (place us e))
  before_to ts us e =
      sym (before_is P c s (place ts e))
      ∙ ap (λ z. before_dot z c (bare_scope s) (bare_tree (place ts e))) h
      ∙ ap (λ z. before_dot (bare Q) c z (bare_tree (place ts e))) (scopes_alike s r k)
      ∙ ap (before_dot (bare Q) c (bare_scope r)) (placed ts us e)
      ∙ before_is Q c r (place us e)

  super_same : (n i j : ℕ) → i ≡ j → super_method P c n i ≡ super_method Q c n j
  super_same n i j g = across P Q h (λ R. super_method R c n i) (λ R. super_method_is R c n i) ∙ ap (super_method Q c n) g

  known_by : (n : ℕ) (span at : Span) → Same (known_class P (class_named P n) span) (known_class Q (class_named Q n) at)
  known_by n span at = ap (λ o. codes_of (known_class P o span)) (class_named_same P Q h n) ∙ known_same P Q h (class_named Q n) span at

  -- the rows of a tree, of its parts, and of what is assigned

  abbrev R : List Token → Tree → List Row
  R ts e = rows_of P c w s (place ts e)

  abbrev R' : List Token → Tree → List Row
  R' us e = rows_of Q c w r (place us e)

  abbrev L : List Token → Trees → List Row
  L ts es = rows_of_all P c w s (place_list ts es)

  abbrev L' : List Token → Trees → List Row
  L' us es = rows_of_all Q c w r (place_list us es)

  abbrev A : List Token → Tree → List Row
  A ts e = assigned_rows P c w s (place ts e)

  abbrev A' : List Token → Tree → List Row
  A' us e = assigned_rows Q c w r (place us e)

  abbrev dotted : Program → Scope → PlacedTree → PlacedTrees → ℕ → Span → List Row
  dotted Z x e es n span = dotted_call_rows Z c (callee Z c x e (type_of Z c x e) n (count es)) (before_dot Z c x e) (type_of Z c x e) (rows_of Z c w x e) (rows_of_all Z c w x es) n (count es) span

  abbrev dotted_field : Program → Scope → PlacedTree → ℕ → Span → List Row
  dotted_field Z x e n span = access_rows Z c (before_dot Z c x e) (type_of Z c x e) (rows_of Z c w x e) n span

  abbrev assigned_to : Program → Scope → PlacedTree → ℕ → Span → List Row
  assigned_to Z x e n span = assigned_access_rows Z c w (access Z c x e (type_of Z c x e) n) (is_this e) span

  abbrev indexed : Program → Scope → PlacedTree → PlacedTree → Span → List Row
  indexed Z x a i span = index_rows Z c w (type_of Z c x a) (rows_of Z c w x a) (rows_of Z c w x i) span

  dotted_alike : (ts us vs ws : List Token) (e : Tree) (n : ℕ) (es : Trees) (span at : Span) → Same (R ts e) (R' us e) → Same (L vs es) (L' ws es) → Same (dotted P s (place ts e) (place_list vs es) n span) (dotted Q r (place us e) (place_list ws es) n at)
  dotted_alike ts us vs ws e n es span at i j = dotted_same P Q h c
      (callee P c s (place ts e) (type_of P c s (place ts e)) n (count (place_list vs es))) (callee Q c r (place us e) (type_of Q c r (place us e)) n (count (place_list ws es)))
      (before_dot P c s (place ts e)) (before_dot Q c r (place us e)) (type_of P c s (place ts e)) (type_of Q c r (place us e))
      (R ts e) (R' us e) (L vs es) (L' ws es) n (count (place_list vs es)) (count (place_list ws es)) span at
      (callee_to ts us e n (count (place_list vs es)) (count (place_list ws es)) (counts_same vs ws es)) (before_to ts us e) (types_same ts us e) (counts_same vs ws es) i j

  field_alike : (ts us : List Token) (e : Tree) (n : ℕ) (span at : Span) → Same (R ts e) (R' us e) → Same (dotted_field P s (place ts e) n span) (dotted_field Q r (place us e) n at)
  field_alike ts us e n span at i = access_same P Q h c (before_dot P c s (place ts e)) (before_dot Q c r (place us e)) (type_of P c s (place ts e)) (type_of Q c r (place us e)) (R ts e) (R' us e) n span at (before_to ts us e) (types_same ts us e) i

  index_alike : (ts us vs ws : List Token) (a i : Tree) (span at : Span) → Same (R ts a) (R' us a) → Same (R vs i) (R' ws i) → Same (indexed P s (place ts a) (place vs i) span) (indexed Q r (place us a) (place ws i) at)
  index_alike ts us vs ws a i span at x y = index_same P Q h c w (type_of P c s (place ts a)) (type_of Q c r (place us a)) (R ts a) (R' us a) (R vs i) (R' ws i) span at (types_same ts us a) x y

  assigned_field_alike : (ts us : List Token) (e : Tree) (n : ℕ) (name other span at : Span) → Same (R ts e) (R' us e) → Same (dotted_field P s (place ts e) n name ++ unless (dotted_field P s (place ts e) n name) (assigned_to P s (place ts e) n span)) (dotted_field Q r (place us e) n other ++ unless (dotted_field Q r (place us e) n other) (assigned_to Q r (place us e) n at))
  assigned_field_alike ts us e n name other span at i =
      let x : List Row = dotted_field P s (place ts e) n name in
      let y : List Row = dotted_field Q r (place us e) n other in
      both x (unless x (assigned_to P s (place ts e) n span)) y (unless y (assigned_to Q r (place us e) n at)) (field_alike ts us e n name other i)
      (unless_same x (assigned_to P s (place ts e) n span) y (assigned_to Q r (place us e) n at) (field_alike ts us e n name other i)
      (assigned_access_same P Q h c w (access P c s (place ts e) (type_of P c s (place ts e)) n) (is_this (place ts e)) (is_this (place us e)) span at (this_same ts us e)
      ∙ ap (λ a. codes_of (assigned_access_rows Q c w a (is_this (place us e)) at)) (access_to ts us e n)))

  -- a call without a dot
  own_alike : (vs ws : List Token) (n : ℕ) (es : Trees) (span at : Span) → Same (L vs es) (L' ws es) →
      Same (L vs es ++ cond (is_object_member n) (row J5 span) (own_method_rows P w (method_of P c n (count (place_list vs es))) span)) (L' ws es ++ cond (is_object_member n) (row J5 at) (own_method_rows Q w (method_of Q c n (count (place_list ws es))) at))
  own_alike vs ws n es span at i =
      let x : List Row = own_method_rows P w (method_of P c n (count (place_list vs es))) span in
      let y : List Row = own_method_rows Q w (method_of Q c n (count (place_list ws es))) at in
      both (L vs es) (cond (is_object_member n) (row J5 span) x) (L' ws es) (cond (is_object_member n) (row J5 at) y) i
      (cond_same (is_object_member n) (is_object_member n) (row J5 span) x (row J5 at) y refl refl (own_method_same P Q h w c n (count (place_list vs es)) (count (place_list ws es)) span at (counts_same vs ws es)))

  abbrev super_rows : Program → PlacedTrees → ℕ → Span → List Row
  super_rows Z es n span = super_method_rows Z c (super_method Z c n (count es)) span

  super_alike : (vs ws : List Token) (n : ℕ) (es : Trees) (name other span at : Span) → Same (L vs es) (L' ws es) →
      Same (when (not w.this_stands) (row J1 span) ++ (L vs es ++ cond (is_object_member n) (row J5 name) (when w.this_stands (super_rows P (place_list vs es) n name))))
      (when (not w.this_stands) (row J1 at) ++ (L' ws es ++ cond (is_object_member n) (row J5 other) (when w.this_stands (super_rows Q (place_list ws es) n other))))
  super_alike vs ws n es name other span at i =
      let x : List Row = when w.this_stands (super_rows P (place_list vs es) n name) in
      let y : List Row = when w.this_stands (super_rows Q (place_list ws es) n other) in
      both (when (not w.this_stands) (row J1 span)) (L vs es ++ cond (is_object_member n) (row J5 name) x) (when (not w.this_stands) (row J1 at)) (L' ws es ++ cond (is_object_member n) (row J5 other) y)
      (when_same (not w.this_stands) (not w.this_stands) (row J1 span) (row J1 at) refl refl)
      (both (L vs es) (cond (is_object_member n) (row J5 name) x) (L' ws es) (cond (is_object_member n) (row J5 other) y) i
      (cond_same (is_object_member n) (is_object_member n) (row J5 name) x (row J5 other) y refl refl
      (when_same w.this_stands w.this_stands (super_rows P (place_list vs es) n name) (super_rows Q (place_list ws es) n other) refl
      (ap (λ o. codes_of (super_method_rows P c o name)) (super_same n (count (place_list vs es)) (count (place_list ws es)) (counts_same vs ws es)) ∙ super_method_by P Q h c (super_method Q c n (count (place_list ws es))) name other))))

  binary_alike : (ts us vs ws : List Token) (o : BinaryOperator) (a b : Tree) (span at : Span) → Same (R ts a) (R' us a) → Same (R vs b) (R' ws b) →
      Same (R ts a ++ (R vs b ++ unless (R ts a ++ R vs b) (equality_rows P o (is_null (place ts a) || is_null (place vs b)) (type_of P c s (place ts a)) (type_of P c s (place vs b)) span)))
      (R' us a ++ (R' ws b ++ unless (R' us a ++ R' ws b) (equality_rows Q o (is_null (place us a) || is_null (place ws b)) (type_of Q c r (place us a)) (type_of Q c r (place ws b)) at)))
  binary_alike ts us vs ws o a b span at i j =
      let x : List Row = equality_rows P o (is_null (place ts a) || is_null (place vs b)) (type_of P c s (place ts a)) (type_of P c s (place vs b)) span in
      let y : List Row = equality_rows Q o (is_null (place us a) || is_null (place ws b)) (type_of Q c r (place us a)) (type_of Q c r (place ws b)) at in
      both (R ts a) (R vs b ++ unless (R ts a ++ R vs b) x) (R' us a) (R' ws b ++ unless (R' us a ++ R' ws b) y) i
      (both (R vs b) (unless (R ts a ++ R vs b) x) (R' ws b) (unless (R' us a ++ R' ws b) y) j
      (unless_same (R ts a ++ R vs b) x (R' us a ++ R' ws b) y (both (R ts a) (R vs b) (R' us a) (R' ws b) i j)
      (equality_same P Q o (is_null (place ts a) || is_null (place vs b)) (is_null (place us a) || is_null (place ws b)) (type_of P c s (place ts a)) (type_of Q c r (place us a)) (type_of P c s (place vs b)) (type_of Q c r (place ws b)) span at (either_same (null_same ts us a) (null_same vs ws b)) (types_same ts us a) (types_same vs ws b))))

  mutual
    pub rows_alike : (ts us : List Token) (e : Tree) → Same (R ts e) (R' us e)
    rows_alike ts us (LiteralTree l) = refl
    rows_alike ts us (NameTree n) = name_same P Q h c w s r n.0 (front ts) (front us) k
    rows_alike ts us ThisTree = when_same (not w.this_stands) (not w.this_stands) (row J1 (span_of (place ts ThisTree))) (row J1 (span_of (place us ThisTree))) refl refl
    rows_alike ts us (ParenTree e) = rows_alike (drop 1 ts) (drop 1 us) e
    rows_alike ts us (FieldTree e n) = field_alike ts us e n.0 (front (behind ts (spell e ++ Dot ∷ []))) (front (behind us (spell e ++ Dot ∷ []))) (rows_alike ts us e)
    rows_alike ts us (CallTree e n es) =
        let a = behind ts (spell e ++ Dot ∷ []) in
        let b = behind us (spell e ++ Dot ∷ []) in
        dotted_alike ts us (behind a (Id n ∷ LeftParen ∷ [])) (behind b (Id n ∷ LeftParen ∷ [])) e n.0 es (front a) (front b) (rows_alike ts us e) (list_alike (behind a (Id n ∷ LeftParen ∷ [])) (behind b (Id n ∷ LeftParen ∷ [])) es)
    rows_alike ts us (OwnCallTree n es) =
        let a = behind ts (Id n ∷ LeftParen ∷ []) in
        let b = behind us (Id n ∷ LeftParen ∷ []) in
        own_alike a b n.0 es (front ts) (front us) (list_alike a b es)
    rows_alike ts us (SuperCallTree n es) =
        let a = behind ts (Super ∷ Dot ∷ []) in
        let b = behind us (Super ∷ Dot ∷ []) in
        super_alike (behind a (Id n ∷ LeftParen ∷ [])) (behind b (Id n ∷ LeftParen ∷ [])) n.0 es (front a) (front b) (span_of (place ts (SuperCallTree n es))) (span_of (place us (SuperCallTree n es))) (list_alike (behind a (Id n ∷ LeftParen ∷ [])) (behind b (Id n ∷ LeftParen ∷ [])) es)
    rows_alike ts us (IndexTree a i) =
        let x = behind ts (spell a ++ LeftBracket ∷ []) in
        let y = behind us (spell a ++ LeftBracket ∷ []) in
        index_alike ts us x y a i (inner_span (place ts a)) (inner_span (place us a)) (rows_alike ts us a) (rows_alike x y i)
    rows_alike ts us (NewTree n es) =
        let a = behind ts (New ∷ Id n ∷ LeftParen ∷ []) in
        let b = behind us (New ∷ Id n ∷ LeftParen ∷ []) in
        both (L a es) (new_rows P c (class_named P n.0) (count (place_list a es)) (front (drop 1 ts))) (L' b es) (new_rows Q c (class_named Q n.0) (count (place_list b es)) (front (drop 1 us))) (list_alike a b es) (new_same P Q h c n.0 (count (place_list a es)) (count (place_list b es)) (front (drop 1 ts)) (front (drop 1 us)) (counts_same a b es))
    rows_alike ts us (NewArrayTree ns b e) =
        let x = behind ts (New ∷ spell_annotations ns) in
        let y = behind us (New ∷ spell_annotations ns) in
        let v = behind x (base_token b ∷ LeftBracket ∷ []) in
        let z = behind y (base_token b ∷ LeftBracket ∷ []) in
        both (array_rows P (place_base x b) (place_annotations (drop 1 ts) ns)) (R v e) (array_rows Q (place_base y b) (place_annotations (drop 1 us) ns)) (R' z e)
        (array_rows_same P Q h c (place_base x b) (place_base y b) (place_annotations (drop 1 ts) ns) (place_annotations (drop 1 us) ns) (base_placed x y b) (notes_placed (drop 1 ts) (drop 1 us) ns))
        (rows_alike v z e)
    rows_alike ts us (ArrayOfTree ns b es) =
        let x = behind ts (New ∷ spell_annotations ns) in
        let y = behind us (New ∷ spell_annotations ns) in
        let v = behind x (base_token b ∷ LeftBracket ∷ RightBracket ∷ LeftBrace ∷ []) in
        let z = behind y (base_token b ∷ LeftBracket ∷ RightBracket ∷ LeftBrace ∷ []) in
        both (array_rows P (place_base x b) (place_annotations (drop 1 ts) ns)) (L v es) (array_rows Q (place_base y b) (place_annotations (drop 1 us) ns)) (L' z es)
        (array_rows_same P Q h c (place_base x b) (place_base y b) (place_annotations (drop 1 ts) ns) (place_annotations (drop 1 us) ns) (base_placed x y b) (notes_placed (drop 1 ts) (drop 1 us) ns))
        (list_alike v z es)
    rows_alike ts us (PostfixTree e o) = assigned_alike ts us e
    rows_alike ts us (PrefixTree o e) = assigned_alike (drop 1 ts) (drop 1 us) e
    rows_alike ts us (UnaryTree o e) = rows_alike (drop 1 ts) (drop 1 us) e
    rows_alike ts us (CastTree n e) =
        let a = behind ts (LeftParen ∷ Id n ∷ RightParen ∷ []) in
        let b = behind us (LeftParen ∷ Id n ∷ RightParen ∷ []) in
        both (known_class P (class_named P n.0) (front (drop 1 ts))) (R a e) (known_class Q (class_named Q n.0) (front (drop 1 us))) (R' b e) (known_by n.0 (front (drop 1 ts)) (front (drop 1 us))) (rows_alike a b e)
    rows_alike ts us (BinaryTree a o b) =
        let x = behind ts (spell a ++ operator_token o ∷ []) in
        let y = behind us (spell a ++ operator_token o ∷ []) in
        binary_alike ts us x y o a b (span_of (place ts (BinaryTree a o b))) (span_of (place us (BinaryTree a o b))) (rows_alike ts us a) (rows_alike x y b)
    rows_alike ts us (InstanceOfTree e n) =
        let a = front (behind ts (spell e ++ Instanceof ∷ [])) in
        let b = front (behind us (spell e ++ Instanceof ∷ [])) in
        both (known_class P (class_named P n.0) a) (R ts e) (known_class Q (class_named Q n.0) b) (R' us e) (known_by n.0 a b) (rows_alike ts us e)
    rows_alike ts us (ConditionalTree q a b) =
        let x = behind ts (spell q ++ Question ∷ []) in
        let y = behind us (spell q ++ Question ∷ []) in
        let v = behind x (spell a ++ Colon ∷ []) in
        let z = behind y (spell a ++ Colon ∷ []) in
        both (R ts q) (R x a ++ R v b) (R' us q) (R' y a ++ R' z b) (rows_alike ts us q) (both (R x a) (R v b) (R' y a) (R' z b) (rows_alike x y a) (rows_alike v z b))
    rows_alike ts us (AssignTree a o e) =
        let x = behind ts (spell a ++ assign_token o ∷ []) in
        let y = behind us (spell a ++ assign_token o ∷ []) in
        both (A ts a) (R x e) (A' us a) (R' y e) (assigned_alike ts us a) (rows_alike x y e)

    assigned_alike : (ts us : List Token) (e : Tree) → Same (A ts e) (A' us e)
    assigned_alike ts us (NameTree n) = assigned_name_same P Q h c w s r n.0 (front ts) (front us) k
    assigned_alike ts us (FieldTree e n) = assigned_field_alike ts us e n.0 (front (behind ts (spell e ++ Dot ∷ []))) (front (behind us (spell e ++ Dot ∷ []))) (span_of (place ts (FieldTree e n))) (span_of (place us (FieldTree e n))) (rows_alike ts us e)
    assigned_alike ts us (IndexTree a i) =
        let x = behind ts (spell a ++ LeftBracket ∷ []) in
        let y = behind us (spell a ++ LeftBracket ∷ []) in
        index_alike ts us x y a i (inner_span (place ts a)) (inner_span (place us a)) (rows_alike ts us a) (rows_alike x y i)
    assigned_alike ts us (LiteralTree l) = refl
    assigned_alike ts us ThisTree = refl
    assigned_alike ts us (ParenTree e) = refl
    assigned_alike ts us (CallTree e n es) = refl
    assigned_alike ts us (OwnCallTree n es) = refl
    assigned_alike ts us (SuperCallTree n es) = refl
    assigned_alike ts us (NewTree n es) = refl
    assigned_alike ts us (NewArrayTree ns b e) = refl
    assigned_alike ts us (ArrayOfTree ns b es) = refl
    assigned_alike ts us (PostfixTree e o) = refl
    assigned_alike ts us (PrefixTree o e) = refl
    assigned_alike ts us (UnaryTree o e) = refl
    assigned_alike ts us (CastTree n e) = refl
    assigned_alike ts us (BinaryTree a o b) = refl
    assigned_alike ts us (InstanceOfTree e n) = refl
    assigned_alike ts us (ConditionalTree q a b) = refl
    assigned_alike ts us (AssignTree a o e) = refl

    pub list_alike : (ts us : List Token) (es : Trees) → Same (L ts es) (L' us es)
    list_alike ts us NoTrees = refl
    list_alike ts us (MoreTrees e es) =
        let a = behind ts (spell e ++ Comma ∷ []) in
        let b = behind us (spell e ++ Comma ∷ []) in
        both (R ts e) (L a es) (R' us e) (L' b es) (rows_alike ts us e) (list_alike a b es)
