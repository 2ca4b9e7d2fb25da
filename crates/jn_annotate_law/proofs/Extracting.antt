-- Heads of annotated trees differ from those of the trees in places and in what is written alone.
use Rattle.std.proofs.Common.{◌≡◌, ℕ, suc, Bool, true, false, cond, ◌||◌, List, [], ◌∷◌, ◌++◌, Option, Some, None, refl, sym, ap, ◌∙◌}
use Rattle.std.specs.Prelude.{drop, eqb, map, flat_map, option_map, ℤ}
use Rattle.jn_known.specs.Known.{non_null_name, nullable_name, monotonic_name}
use Rattle.std.proofs.Math.Path.{fun_ext}
use Rattle.std.proofs.lemmas.List.{append-nil, map-append}
use Rattle.jn_base.specs.declared.number.NameNo.{NameNo}
use Rattle.jn_base.specs.declared.number.SlotNo.{SlotNo}
use Rattle.jn_quals.specs.Qualifier.{Qualifier}
use Rattle.jn_points.specs.Members.{some_of}
use Rattle.jn_points.specs.declared.program.Field.{Field}
use Rattle.jn_points.specs.declared.program.Method.{Method}
use Rattle.jn_points.specs.declared.program.SlotInfo.{SlotInfo}
use Rattle.jn_trees.specs.declared.token.Token.{Token}
use Rattle.jn_trees.specs.declared.token.TokenKind.TheVariants.{Id, This, Comma, LeftParen, LeftBrace, Class, Interface, Implements, Extends}
use Rattle.jn_trees.specs.declared.expression.Identifier.{Identifier}
use Rattle.jn_trees.specs.declared.expression.UnaryOperator.TheVariants.{Plus as PlusSign, Minus as MinusSign, Not as NotSign}
use Rattle.jn_trees.specs.Trees.{BaseTree, ClassBase, IntBase, BooleanBase, Tree, Trees, LiteralTree, NameTree, ThisTree, ParenTree, FieldTree, CallTree, OwnCallTree, SuperCallTree, IndexTree, NewTree, NewArrayTree, ArrayOfTree, PostfixTree, PrefixTree, UnaryTree, CastTree, BinaryTree, InstanceOfTree, ConditionalTree, AssignTree, NoTrees, MoreTrees, LocalMark, AnnotationMark, FinalMark, TypeUseTree, DeclaratorTree, Statement, Statements, BlockStatement, EmptyStatement, ExpressionStatement, BreakStatement, ContinueStatement, ReturnStatement, LocalStatement, IfStatement, IfElseStatement, WhileStatement, DoStatement, ForStatement, ForEachStatement, ThisCallStatement, SuperCallStatement, NoStatements, MoreStatements, Mark, NoteMark, PublicMark, ProtectedMark, PrivateMark, StaticMark, ConstantMark, AbstractMark, ParameterTree, ReceiverTree, MemberTree, FieldMember, MethodMember, ConstructorMember, TypeDeclaration, ClassType, InterfaceType, SourceTree}
use Rattle.jn_trees.specs.Spelling.{spell, spell_marks, spell_mark, spell_all_marks, spell_type_use, spell_declarator, spell_parameters, spell_result, spell_member, spell_parent, spell_names, spell_type, spell_package_line, spell_imports}
use Rattle.jn_base.specs.declared.place.Span.{Span}
use Rattle.jn_trees.specs.declared.declaration.Modifier.{Modifier}
use Rattle.jn_places.specs.Placed.{PlacedFile, PlacedMember, PlacedMethod, PlacedConstructor, PlacedResult, PlacedReceiver, PlacedParameter, PlacedStatements}
use Rattle.jn_places.specs.Forget.{forget_file}
use Rattle.jn_annotate_law.specs.Meaning.{AllPlaced}
use Rattle.jn_places.specs.Places.{behind, over, place, place_list, place_name, place_base, place_type_use, place_value, place_declarator, place_next_declarator, place_more_declarators, spell_next_declarator, place_statement, place_body, place_mark, place_marks, place_local_mark, spell_local_mark, place_local_marks, place_parameter, place_parameters, spell_parameter_through, place_receiver, spell_receiver, place_result, place_method_body, place_member, place_members, place_next_names, place_parent, place_type, place_file, place_each, place_annotations, spell_annotation}
use Rattle.jn_heads.specs.declared.head.Notes.{Notes}
use Rattle.jn_heads.specs.declared.notes.Word.{Word}
use Rattle.jn_heads.specs.declared.notes.Word.TheVariants.{Public as PublicWord, Private as PrivateWord, Static as StaticWord, Final as FinalWord, Abstract as AbstractWord}
use Rattle.jn_heads.specs.declared.head.TypeHead.{TypeHead}
use Rattle.jn_heads.specs.declared.head.FieldHead.{FieldHead}
use Rattle.jn_heads.specs.declared.head.ParamHead.{ParamHead}
use Rattle.jn_heads.specs.declared.head.MethodHead.{MethodHead}
use Rattle.jn_heads.specs.declared.head.ClassHead.{ClassHead}
use Rattle.jn_heads.specs.Heads.{no_notes, no_span, unwritten_constructor}
use Rattle.jn_heads.specs.Extract.{is_word, has_word, is_named, is_note, is_local_note, count, negated_tree, tree_value, first_value, this_call, first_call, has_statements, has_constructor, with_constructor, notes_by, modifier_notes, local_notes, type_head, field_head, param_head, result_head, field_heads, method_heads, class_head, heads}
use Rattle.jn_lowering.specs.FileRows.{is_int_start, is_number_tree, is_truth_start}
use Rattle.jn_annotate.specs.Insertions.{fields_in, methods_in, type_fields, type_methods, file_fields, file_methods, first_slot, inferred_qual}
use Rattle.jn_annotate_law.specs.Trees.{nullity_names, names_of, leading, at_brackets, noted_use, noted_marks, noted_parameter, noted_receiver, noted_result, noted_result_marks, both_at, noted_parameters, noted_member, noted_members, noted_type, noted_types, noted_file, noted_files}
use Rattle.jn_annotate_law.specs.Noted.{has_name}
use Rattle.jn_annotate_law.proofs.Meanings.{modifiers_more, annotations_more}
use Rattle.jn_heads_law.specs.Plain.{plain_name, plain_use, plain_type, plain_kind, plain_field, plain_param, plain_method, plain_head}

-- ---- modifiers

word_note : (w : Word) (ts : List Token) (n : NameNo) → is_word w (place_mark ts (NoteMark n)) ≡ false
word_note PublicWord ts n = refl
word_note PrivateWord ts n = refl
word_note StaticWord ts n = refl
word_note FinalWord ts n = refl
word_note AbstractWord ts n = refl

abbrev IsSameWord : List Token → List Token → Mark → Word → Type 0
IsSameWord ts us m w = is_word w (place_mark ts m) ≡ is_word w (place_mark us m)

each_word_same : (ts us : List Token) (m : Mark) → IsSameWord ts us m PublicWord × IsSameWord ts us m PrivateWord × IsSameWord ts us m StaticWord × IsSameWord ts us m FinalWord × IsSameWord ts us m AbstractWord
each_word_same ts us (NoteMark n) = (refl, refl, refl, refl, refl)
each_word_same ts us PublicMark = (refl, refl, refl, refl, refl)
each_word_same ts us ProtectedMark = (refl, refl, refl, refl, refl)
each_word_same ts us PrivateMark = (refl, refl, refl, refl, refl)
each_word_same ts us StaticMark = (refl, refl, refl, refl, refl)
each_word_same ts us ConstantMark = (refl, refl, refl, refl, refl)
each_word_same ts us AbstractMark = (refl, refl, refl, refl, refl)

word_same : (w : Word) (ts us : List Token) (m : Mark) → IsSameWord ts us m w
word_same PublicWord ts us m = (each_word_same ts us m).0
word_same PrivateWord ts us m = (each_word_same ts us m).1
word_same StaticWord ts us m = (each_word_same ts us m).2
word_same FinalWord ts us m = (each_word_same ts us m).3
word_same AbstractWord ts us m = (each_word_same ts us m).4

no_word : (w : Word) (ts : List Token) (ns : List NameNo) → has_word w (place_marks ts (map NoteMark ns)) ≡ false
no_word w ts [] = refl
no_word w ts (n ∷ ns) = ap (λ b. b || has_word w (place_marks (behind ts (spell_mark (NoteMark n))) (map NoteMark ns))) (word_note w ts n) ∙ no_word w (behind ts (spell_mark (NoteMark n))) ns

pub words_same : (w : Word) (ts us : List Token) (ms : List Mark) (ns : List NameNo) → has_word w (place_marks ts ms) ≡ has_word w (place_marks us (ms ++ map NoteMark ns))
words_same w ts us [] ns = sym (no_word w us ns)
words_same w ts us (m ∷ ms) ns =
    ap (λ b. b || has_word w (place_marks (behind ts (spell_mark m)) ms)) (word_same w ts us m)
    ∙ ap (λ b. is_word w (place_mark us m) || b) (words_same w (behind ts (spell_mark m)) (behind us (spell_mark m)) ms ns)

pub words_alone : (w : Word) (ts us : List Token) (ms : List Mark) → has_word w (place_marks ts ms) ≡ has_word w (place_marks us ms)
words_alone w ts us ms = words_same w ts us ms [] ∙ ap (λ x. has_word w (place_marks us x)) (append-nil ms)

note_same : (n : ℕ) (ts us : List Token) (m : Mark) → is_note n (place_mark ts m) ≡ is_note n (place_mark us m)
note_same n ts us (NoteMark k) = refl
note_same n ts us PublicMark = refl
note_same n ts us ProtectedMark = refl
note_same n ts us PrivateMark = refl
note_same n ts us StaticMark = refl
note_same n ts us ConstantMark = refl
note_same n ts us AbstractMark = refl

notes_same : (ts us : List Token) (ms : List Mark) (n : ℕ) → some_of (is_note n) (place_marks ts ms) ≡ some_of (is_note n) (place_marks us ms)
notes_same ts us [] n = refl
notes_same ts us (m ∷ ms) n =
    ap (λ b. b || some_of (is_note n) (place_marks (behind ts (spell_mark m)) ms)) (note_same n ts us m)
    ∙ ap (λ b. is_note n (place_mark us m) || b) (notes_same (behind ts (spell_mark m)) (behind us (spell_mark m)) ms n)

pub modifiers_same : (ts us : List Token) (ms : List Mark) → modifier_notes (place_marks ts ms) ≡ modifier_notes (place_marks us ms)
modifiers_same ts us ms = ap notes_by (fun_ext (notes_same ts us ms))

local_note_same : (n : ℕ) (ts us : List Token) (m : LocalMark) → is_local_note n (place_local_mark ts m) ≡ is_local_note n (place_local_mark us m)
local_note_same n ts us (AnnotationMark k) = refl
local_note_same n ts us FinalMark = refl

local_notes_same : (ts us : List Token) (ms : List LocalMark) (n : ℕ) → some_of (is_local_note n) (place_local_marks ts ms) ≡ some_of (is_local_note n) (place_local_marks us ms)
local_notes_same ts us [] n = refl
local_notes_same ts us (m ∷ ms) n =
    ap (λ b. b || some_of (is_local_note n) (place_local_marks (behind ts (spell_local_mark m)) ms)) (local_note_same n ts us m)
    ∙ ap (λ b. is_local_note n (place_local_mark us m) || b) (local_notes_same (behind ts (spell_local_mark m)) (behind us (spell_local_mark m)) ms n)

pub locals_same : (ts us : List Token) (ms : List LocalMark) → local_notes (place_local_marks ts ms) ≡ local_notes (place_local_marks us ms)
locals_same ts us ms = ap notes_by (fun_ext (local_notes_same ts us ms))

-- ---- types

base_same : (ts us : List Token) (b : BaseTree) → plain_use (place_base ts b) ≡ plain_use (place_base us b)
base_same ts us (ClassBase n) = refl
base_same ts us IntBase = refl
base_same ts us BooleanBase = refl

-- what stands before an array's type is its elements', and stays
type_same : (base : BaseTree) (array : Option (List NameNo)) (names : List NameNo) (ts us : List Token) (old new : Notes) → ((notes : List NameNo) → array ≡ Some notes → old ≡ new) → plain_type (type_head old (place_type_use ts (record { base = base; array = array }))) ≡ plain_type (type_head new (place_type_use us (record { base = base; array = at_brackets names array })))
type_same base None names ts us old new h = ap (λ b. record { base = b; array = false; notes = no_notes; elements = no_notes }) (base_same ts us base)
type_same base (Some notes) names ts us old new h =
    ap (λ b. record { base = b; array = true; notes = no_notes; elements = old }) (base_same ts us base) ∙ ap (λ e. record { base = plain_use (place_base us base); array = true; notes = no_notes; elements = e }) (h notes refl)

pub marked_same : (u : TypeUseTree) (names : List NameNo) (ms : List Mark) (ts us ms_at new_at : List Token) → plain_type (type_head (modifier_notes (place_marks ms_at ms)) (place_type_use ts u)) ≡ plain_type (type_head (modifier_notes (place_marks new_at (noted_marks names u ms))) (place_type_use us (noted_use names u)))
marked_same u names ms ts us ms_at new_at = type_same u.base u.array names ts us (modifier_notes (place_marks ms_at ms)) (modifier_notes (place_marks new_at (noted_marks names u ms)))
    (λ notes e. modifiers_same ms_at new_at ms ∙ ap (λ x. modifier_notes (place_marks new_at x)) (sym (append-nil ms) ∙ ap (λ a. ms ++ map NoteMark (leading names a)) (sym e)))

-- of a field it stays that it is monotonic, since no word of a qualifier says so
abbrev with_mark : TypeHead → Bool → TypeHead
with_mark t b = record { base = t.base; array = t.array; notes = record { non_null = false; nullable = false; initialized = false; under = false; unknown = false; monotonic = b }; elements = t.elements }

or_nothing : (a b : Bool) → b ≡ false → a ≡ (a || b)
or_nothing true b e = refl
or_nothing false b e = sym e

named_same : (ts us : List Token) (notes : List NameNo) (n : ℕ) → some_of (is_named n) (place_annotations ts notes) ≡ some_of (is_named n) (place_annotations us notes)
named_same ts us [] n = refl
named_same ts us (m ∷ notes) n = ap (λ b. eqb m.0 n || b) (named_same (behind ts (spell_annotation m)) (behind us (spell_annotation m)) notes n)

monotonic_same : (base : BaseTree) (array : Option (List NameNo)) (names : List NameNo) (ms : List Mark) (ts us ms_at new_at : List Token) → has_name names monotonic_name ≡ false →
    (type_head (modifier_notes (place_marks ms_at ms)) (place_type_use ts (record { base = base; array = array }))).notes.monotonic
    ≡ (type_head (modifier_notes (place_marks new_at (ms ++ map NoteMark (leading names array)))) (place_type_use us (record { base = base; array = at_brackets names array }))).notes.monotonic
monotonic_same base None names ms ts us ms_at new_at plain =
    ap (λ (x : Notes). x.monotonic) (modifiers_same ms_at new_at ms)
    ∙ or_nothing (some_of (is_note monotonic_name) (place_marks new_at ms)) (has_name names monotonic_name) plain
    ∙ ap (λ (x : Notes). x.monotonic) (sym (modifiers_more new_at ms names))
monotonic_same base (Some notes) names ms ts us ms_at new_at plain =
    named_same (drop 1 ts) (drop 1 us) notes monotonic_name
    ∙ or_nothing (some_of (is_named monotonic_name) (place_annotations (drop 1 us) notes)) (has_name names monotonic_name) plain
    ∙ ap (λ (x : Notes). x.monotonic) (sym (annotations_more (drop 1 us) notes names))

kind_same : (u : TypeUseTree) (names : List NameNo) (ms : List Mark) (ts us ms_at new_at : List Token) → has_name names monotonic_name ≡ false → plain_kind (type_head (modifier_notes (place_marks ms_at ms)) (place_type_use ts u)) ≡ plain_kind (type_head (modifier_notes (place_marks new_at (noted_marks names u ms))) (place_type_use us (noted_use names u)))
kind_same u names ms ts us ms_at new_at plain =
    ap (λ x. with_mark x (type_head (modifier_notes (place_marks ms_at ms)) (place_type_use ts u)).notes.monotonic) (marked_same u names ms ts us ms_at new_at)
    ∙ ap (with_mark (plain_type (type_head (modifier_notes (place_marks new_at (noted_marks names u ms))) (place_type_use us (noted_use names u))))) (monotonic_same u.base u.array names ms ts us ms_at new_at plain)

nullity_plain : (o : Option Qualifier) → has_name (names_of nullity_names o) monotonic_name ≡ false
nullity_plain None = refl
nullity_plain (Some q) = go q.null
  where
    go : (b : Bool) → (eqb (cond b nullable_name non_null_name) monotonic_name || false) ≡ false
    go true = refl
    go false = refl

use_alone : (base : BaseTree) (array : Option (List NameNo)) (ts us : List Token) (old new : Notes) → old ≡ new → plain_type (type_head old (place_type_use ts (record { base = base; array = array }))) ≡ plain_type (type_head new (place_type_use us (record { base = base; array = array })))
use_alone base None ts us old new e = ap (λ b. record { base = b; array = false; notes = no_notes; elements = no_notes }) (base_same ts us base)
use_alone base (Some notes) ts us old new e = ap (λ b. record { base = b; array = true; notes = no_notes; elements = old }) (base_same ts us base) ∙ ap (λ x. record { base = plain_use (place_base us base); array = true; notes = no_notes; elements = x }) e

-- ---- values and calls

-- what an initializer says, and which initializers a field that isn't of a class may have
pub initializer_same : (ts us : List Token) (e : Tree) →
    (negated_tree (place ts e) ≡ negated_tree (place us e)) × (tree_value (place ts e) ≡ tree_value (place us e))
    × (is_number_tree (place ts e) ≡ is_number_tree (place us e)) × (is_int_start (place ts e) ≡ is_int_start (place us e))
    × (is_truth_start (place ts e) ≡ is_truth_start (place us e))
initializer_same ts us (LiteralTree l) = (refl, refl, refl, refl, refl)
initializer_same ts us (NameTree n) = (refl, refl, refl, refl, refl)
initializer_same ts us ThisTree = (refl, refl, refl, refl, refl)
initializer_same ts us (ParenTree e) = (refl, refl, refl, refl, refl)
initializer_same ts us (FieldTree e n) = (refl, refl, refl, refl, refl)
initializer_same ts us (CallTree e n es) = (refl, refl, refl, refl, refl)
initializer_same ts us (OwnCallTree n es) = (refl, refl, refl, refl, refl)
initializer_same ts us (SuperCallTree n es) = (refl, refl, refl, refl, refl)
initializer_same ts us (IndexTree e i) = (refl, refl, refl, refl, refl)
initializer_same ts us (NewTree n es) = (refl, refl, refl, refl, refl)
initializer_same ts us (NewArrayTree ns b e) = (refl, refl, refl, refl, refl)
initializer_same ts us (ArrayOfTree ns b es) = (refl, refl, refl, refl, refl)
initializer_same ts us (PostfixTree e s) = (refl, refl, refl, refl, refl)
initializer_same ts us (PrefixTree s e) = (refl, refl, refl, refl, refl)
initializer_same ts us (UnaryTree MinusSign e) = let inner = initializer_same (drop 1 ts) (drop 1 us) e in (refl, inner.0, refl, inner.2, refl)
initializer_same ts us (UnaryTree PlusSign e) = (refl, refl, refl, refl, refl)
initializer_same ts us (UnaryTree NotSign e) = (refl, refl, refl, refl, refl)
initializer_same ts us (CastTree n e) = (refl, refl, refl, refl, refl)
initializer_same ts us (BinaryTree l o r) = (refl, refl, refl, refl, refl)
initializer_same ts us (InstanceOfTree e n) = (refl, refl, refl, refl, refl)
initializer_same ts us (ConditionalTree c a b) = (refl, refl, refl, refl, refl)
initializer_same ts us (AssignTree l o r) = (refl, refl, refl, refl, refl)

first_same : (static : Bool) (ts us : List Token) (e : Option Tree) → first_value static (place_value ts e) ≡ first_value static (place_value us e)
first_same false ts us None = refl
first_same false ts us (Some e) = refl
first_same true ts us None = refl
first_same true ts us (Some e) = (initializer_same (drop 1 ts) (drop 1 us) e).1

count_same : (ts us : List Token) (es : Trees) → count (place_list ts es) ≡ count (place_list us es)
count_same ts us NoTrees = refl
count_same ts us (MoreTrees e es) = ap suc (count_same (behind ts (spell e ++ Comma ∷ [])) (behind us (spell e ++ Comma ∷ [])) es)

call_same : (ts us : List Token) (s : Statement) → this_call (place_statement ts s) ≡ this_call (place_statement us s)
call_same ts us (BlockStatement ss) = refl
call_same ts us EmptyStatement = refl
call_same ts us (ExpressionStatement e) = refl
call_same ts us BreakStatement = refl
call_same ts us ContinueStatement = refl
call_same ts us (ReturnStatement e) = refl
call_same ts us (LocalStatement l) = refl
call_same ts us (IfStatement c s) = refl
call_same ts us (IfElseStatement c s u) = refl
call_same ts us (WhileStatement c s) = refl
call_same ts us (DoStatement s c) = refl
call_same ts us (ForStatement i c xs s) = refl
call_same ts us (ForEachStatement ms u n e s) = refl
call_same ts us (ThisCallStatement es) = ap Some (count_same (behind ts (This ∷ LeftParen ∷ [])) (behind us (This ∷ LeftParen ∷ [])) es)
call_same ts us (SuperCallStatement es) = refl

first_call_same : (ts us : List Token) (ss : Statements) → first_call (place_body ts ss) ≡ first_call (place_body us ss)
first_call_same ts us NoStatements = refl
first_call_same ts us (MoreStatements s ss) = call_same ts us s

statements_same : (ts us : List Token) (body : Option Statements) → has_statements (place_method_body ts body) ≡ has_statements (place_method_body us body)
statements_same ts us None = refl
statements_same ts us (Some ss) = refl

-- ---- members

module _ (slots : List SlotInfo) (s : List Qualifier) where
  pub param_same : (p : ParameterTree) (names : List NameNo) (ts us : List Token) → plain_param (param_head (place_parameter ts p)) ≡ plain_param (param_head (place_parameter us (noted_parameter names p)))
  param_same p names ts us =
      let new : List LocalMark = p.marks ++ map AnnotationMark (leading names p.type_use.array) in
      ap (λ k. record { name = record { name = p.name; span = no_span }; kind = k })
      (type_same p.type_use.base p.type_use.array names (behind ts (spell_marks p.marks)) (behind us (spell_marks new)) (local_notes (place_local_marks ts p.marks)) (local_notes (place_local_marks us new))
      (λ notes e. locals_same ts us p.marks ∙ ap (λ x. local_notes (place_local_marks us x)) (sym (append-nil p.marks) ∙ ap (λ a. p.marks ++ map AnnotationMark (leading names a)) (sym e))))

  param_alone : (p : ParameterTree) (ts us : List Token) → plain_param (param_head (place_parameter ts p)) ≡ plain_param (param_head (place_parameter us p))
  param_alone p ts us =
      ap (λ k. record { name = record { name = p.name; span = no_span }; kind = k })
      (use_alone p.type_use.base p.type_use.array (behind ts (spell_marks p.marks)) (behind us (spell_marks p.marks)) (local_notes (place_local_marks ts p.marks)) (local_notes (place_local_marks us p.marks)) (locals_same ts us p.marks))

  params_alone : (ps : List ParameterTree) (ts us : List Token) → map plain_param (map param_head (place_parameters ts ps)) ≡ map plain_param (map param_head (place_parameters us ps))
  params_alone [] ts us = refl
  params_alone (p ∷ ps) ts us =
      ap (λ x. x ∷ map plain_param (map param_head (place_parameters (behind ts (spell_parameter_through p)) ps))) (param_alone p ts us)
      ∙ ap (λ x. plain_param (param_head (place_parameter us p)) ∷ x) (params_alone ps (behind ts (spell_parameter_through p)) (behind us (spell_parameter_through p)))

  params_same : (ps : List ParameterTree) (xs : List (Option SlotNo)) (ts us : List Token) → map plain_param (map param_head (place_parameters ts ps)) ≡ map plain_param (map param_head (place_parameters us (noted_parameters slots s ps xs)))
  params_same [] xs ts us = refl
  params_same (p ∷ ps) [] ts us = params_alone (p ∷ ps) ts us
  params_same (p ∷ ps) (x ∷ xs) ts us =
      let new : ParameterTree = noted_parameter (both_at slots s x) p in
      ap (λ y. y ∷ map plain_param (map param_head (place_parameters (behind ts (spell_parameter_through p)) ps))) (param_same p (both_at slots s x) ts us)
      ∙ ap (λ y. plain_param (param_head (place_parameter us new)) ∷ y) (params_same ps xs (behind ts (spell_parameter_through p)) (behind us (spell_parameter_through new)))

  result_same : (u : Option TypeUseTree) (names : List NameNo) (ms : List Mark) (ts us old_at new_at : List Token) → option_map plain_type (result_head (place_marks old_at ms) (place_result ts u)) ≡ option_map plain_type (result_head (place_marks new_at (noted_result_marks names u ms)) (place_result us (noted_result names u)))
  result_same None names ms ts us old_at new_at = refl
  result_same (Some u) names ms ts us old_at new_at = ap Some (marked_same u names ms ts us old_at new_at)

  pub result_words : (w : Word) (u : Option TypeUseTree) (names : List NameNo) (ms : List Mark) (ts us : List Token) → has_word w (place_marks ts ms) ≡ has_word w (place_marks us (noted_result_marks names u ms))
  result_words w None names ms ts us = words_alone w ts us ms
  result_words w (Some u) names ms ts us = words_same w ts us ms (leading names u.array)

  abbrev field_made : NameNo → Bool → Bool → Bool → TypeHead → ℤ → FieldHead
  field_made n a b c k v = record { name = record { name = n; span = no_span }; kind = k; is_static = a; is_final = b; is_private = c; first = v }

  field_same : (ms : List Mark) (u : TypeUseTree) (d : DeclaratorTree) (names : List NameNo) (ts us t1 u1 t2 u2 : List Token) → has_name names monotonic_name ≡ false → plain_field (field_head (place_marks ts ms) (place_type_use t1 u) (place_declarator t2 d)) ≡ plain_field (field_head (place_marks us (noted_marks names u ms)) (place_type_use u1 (noted_use names u)) (place_declarator u2 d))
  field_same ms u d names ts us t1 u1 t2 u2 monotonic =
      let lead : List NameNo = leading names u.array in
      let w : Word → Bool = λ x. has_word x (place_marks ts ms) in
      let v : Word → Bool = λ x. has_word x (place_marks us (noted_marks names u ms)) in
      let e : (x : Word) → w x ≡ v x = λ x. words_same x ts us ms lead in
      let old : TypeHead = plain_kind (type_head (modifier_notes (place_marks ts ms)) (place_type_use t1 u)) in
      let new : TypeHead = plain_kind (type_head (modifier_notes (place_marks us (noted_marks names u ms))) (place_type_use u1 (noted_use names u))) in
      ap (λ x. field_made d.name x (w FinalWord) (w PrivateWord) old (first_value x (place_value (drop 1 t2) d.value))) (e StaticWord)
      ∙ ap (λ x. field_made d.name (v StaticWord) x (w PrivateWord) old (first_value (v StaticWord) (place_value (drop 1 t2) d.value))) (e FinalWord)
      ∙ ap (λ x. field_made d.name (v StaticWord) (v FinalWord) x old (first_value (v StaticWord) (place_value (drop 1 t2) d.value))) (e PrivateWord)
      ∙ ap (λ x. field_made d.name (v StaticWord) (v FinalWord) (v PrivateWord) x (first_value (v StaticWord) (place_value (drop 1 t2) d.value))) (kind_same u names ms t1 u1 ts us monotonic)
      ∙ ap (λ x. field_made d.name (v StaticWord) (v FinalWord) (v PrivateWord) new x) (first_same (v StaticWord) (drop 1 t2) (drop 1 u2) d.value)

  more_same : (ms : List Mark) (u : TypeUseTree) (ds : List DeclaratorTree) (names : List NameNo) (ts us t1 u1 t2 u2 : List Token) → has_name names monotonic_name ≡ false → map plain_field (map (field_head (place_marks ts ms) (place_type_use t1 u)) (place_more_declarators t2 ds)) ≡ map plain_field (map (field_head (place_marks us (noted_marks names u ms)) (place_type_use u1 (noted_use names u))) (place_more_declarators u2 ds))
  more_same ms u [] names ts us t1 u1 t2 u2 plain = refl
  more_same ms u (d ∷ ds) names ts us t1 u1 t2 u2 plain =
      ap (λ x. x ∷ map plain_field (map (field_head (place_marks ts ms) (place_type_use t1 u)) (place_more_declarators (behind t2 (spell_next_declarator d)) ds))) (field_same ms u d names ts us t1 u1 (drop 1 t2) (drop 1 u2) plain)
      ∙ ap (λ x. plain_field (field_head (place_marks us (noted_marks names u ms)) (place_type_use u1 (noted_use names u)) (place_next_declarator u2 d)) ∷ x) (more_same ms u ds names ts us t1 u1 (behind t2 (spell_next_declarator d)) (behind u2 (spell_next_declarator d)) plain)

  abbrev fields_at : PlacedMember → List FieldHead
  fields_at m = map plain_field (field_heads m)

  member_fields : (c : NameNo) (m : MemberTree) (fs : List Field) (methods : List Method) (ts us : List Token) → fields_at (place_member ts m) ≡ fields_at (place_member us (noted_member slots s c m fs methods))
  member_fields c (FieldMember ms u d ds) fs methods ts us =
      let names : List NameNo = names_of nullity_names (inferred_qual slots s (first_slot fs)) in
      let new : List Mark = noted_marks names u ms in
      let t1 : List Token = behind ts (spell_all_marks ms) in
      let u1 : List Token = behind us (spell_all_marks new) in
      let t2 : List Token = behind t1 (spell_type_use u) in
      let u2 : List Token = behind u1 (spell_type_use (noted_use names u)) in
      ap (λ x. x ∷ map plain_field (map (field_head (place_marks ts ms) (place_type_use t1 u)) (place_more_declarators (behind t2 (spell_declarator d)) ds))) (field_same ms u d names ts us t1 u1 t2 u2 (nullity_plain (inferred_qual slots s (first_slot fs))))
      ∙ ap (λ x. plain_field (field_head (place_marks us new) (place_type_use u1 (noted_use names u)) (place_declarator u2 d)) ∷ x) (more_same ms u ds names ts us t1 u1 (behind t2 (spell_declarator d)) (behind u2 (spell_declarator d)) (nullity_plain (inferred_qual slots s (first_slot fs))))
  member_fields c (MethodMember ms u n r ps body) fs [] ts us = refl
  member_fields c (MethodMember ms u n r ps body) fs (m ∷ methods) ts us = refl
  member_fields c (ConstructorMember ms n ps ss) fs [] ts us = refl
  member_fields c (ConstructorMember ms n ps ss) fs (m ∷ methods) ts us = refl

  -- ---- methods

  abbrev method_made : NameNo → Option TypeHead → List ParamHead → Bool → Bool → Bool → Bool → Bool → Bool → Bool → Option ℕ → MethodHead
  method_made n result params ctor a b c d e f calls = record { name = record { name = n; span = no_span }; result = result; receiver = no_notes; params = params; ctor = ctor; is_public = a; is_static = b; is_private = c; is_abstract = d; is_final = e; has_body = f; calls = calls }

  method_plain : (interface : Bool) (n : NameNo) (A B : List Modifier) (ra rb : PlacedResult) (na nb : Identifier) (qa qb : Option PlacedReceiver) (pa pb : List PlacedParameter) (oa ob : Option PlacedStatements) (sa sb : Span) → na.name ≡ nb.name → ((w : Word) → has_word w A ≡ has_word w B) → option_map plain_type (result_head A ra) ≡ option_map plain_type (result_head B rb) → map plain_param (map param_head pa) ≡ map plain_param (map param_head pb) → has_statements oa ≡ has_statements ob → map plain_method (method_heads interface (PlacedMethod A ra na qa pa oa sa)) ≡ map plain_method (method_heads interface (PlacedMethod B rb nb qb pb ob sb))
  method_plain interface n A B ra rb na nb qa qb pa pb oa ob sa sb en e er ep eo =
      let r : Option TypeHead = option_map plain_type (result_head A ra) in
      let r' : Option TypeHead = option_map plain_type (result_head B rb) in
      let p : List ParamHead = map plain_param (map param_head pa) in
      let p' : List ParamHead = map plain_param (map param_head pb) in
      let w : Word → Bool = λ x. has_word x A in
      let v : Word → Bool = λ x. has_word x B in
      ap (λ x. x ∷ [])
      (ap (λ x. method_made x r p false (w PublicWord) (w StaticWord) (w PrivateWord) (interface || w AbstractWord) (w FinalWord) (has_statements oa) None) en
      ∙ ap (λ x. method_made nb.name x p false (w PublicWord) (w StaticWord) (w PrivateWord) (interface || w AbstractWord) (w FinalWord) (has_statements oa) None) er
      ∙ ap (λ x. method_made nb.name r' x false (w PublicWord) (w StaticWord) (w PrivateWord) (interface || w AbstractWord) (w FinalWord) (has_statements oa) None) ep
      ∙ ap (λ x. method_made nb.name r' p' false x (w StaticWord) (w PrivateWord) (interface || w AbstractWord) (w FinalWord) (has_statements oa) None) (e PublicWord)
      ∙ ap (λ x. method_made nb.name r' p' false (v PublicWord) x (w PrivateWord) (interface || w AbstractWord) (w FinalWord) (has_statements oa) None) (e StaticWord)
      ∙ ap (λ x. method_made nb.name r' p' false (v PublicWord) (v StaticWord) x (interface || w AbstractWord) (w FinalWord) (has_statements oa) None) (e PrivateWord)
      ∙ ap (λ x. method_made nb.name r' p' false (v PublicWord) (v StaticWord) (v PrivateWord) (interface || x) (w FinalWord) (has_statements oa) None) (e AbstractWord)
      ∙ ap (λ x. method_made nb.name r' p' false (v PublicWord) (v StaticWord) (v PrivateWord) (interface || v AbstractWord) x (has_statements oa) None) (e FinalWord)
      ∙ ap (λ x. method_made nb.name r' p' false (v PublicWord) (v StaticWord) (v PrivateWord) (interface || v AbstractWord) (v FinalWord) x None) eo)

  constructor_plain : (n : NameNo) (A B : List Modifier) (na nb : Identifier) (pa pb : List PlacedParameter) (ba bb : PlacedStatements) (sa sb : Span) → na.name ≡ nb.name → ((w : Word) → has_word w A ≡ has_word w B) → map plain_param (map param_head pa) ≡ map plain_param (map param_head pb) → first_call ba ≡ first_call bb → map plain_method (method_heads false (PlacedConstructor A na pa ba sa)) ≡ map plain_method (method_heads false (PlacedConstructor B nb pb bb sb))
  constructor_plain n A B na nb pa pb ba bb sa sb en e ep ec =
      let p : List ParamHead = map plain_param (map param_head pa) in
      let p' : List ParamHead = map plain_param (map param_head pb) in
      let w : Word → Bool = λ x. has_word x A in
      let v : Word → Bool = λ x. has_word x B in
      ap (λ x. x ∷ [])
      (ap (λ x. method_made x None p true (w PublicWord) false (w PrivateWord) false false true (first_call ba)) en
      ∙ ap (λ x. method_made nb.name None x true (w PublicWord) false (w PrivateWord) false false true (first_call ba)) ep
      ∙ ap (λ x. method_made nb.name None p' true x false (w PrivateWord) false false true (first_call ba)) (e PublicWord)
      ∙ ap (λ x. method_made nb.name None p' true (v PublicWord) false x false false true (first_call ba)) (e PrivateWord)
      ∙ ap (λ x. method_made nb.name None p' true (v PublicWord) false (v PrivateWord) false false true x) ec)

  result_alone : (u : Option TypeUseTree) (ms : List Mark) (ts us old_at new_at : List Token) → option_map plain_type (result_head (place_marks old_at ms) (place_result ts u)) ≡ option_map plain_type (result_head (place_marks new_at ms) (place_result us u))
  result_alone None ms ts us old_at new_at = refl
  result_alone (Some u) ms ts us old_at new_at = ap Some (use_alone u.base u.array ts us (modifier_notes (place_marks old_at ms)) (modifier_notes (place_marks new_at ms)) (modifiers_same old_at new_at ms))

  abbrev methods_at : Bool → PlacedMember → List MethodHead
  methods_at interface m = map plain_method (method_heads interface m)

  method_at : (interface : Bool) (ts us : List Token) (ms ns : List Mark) (u v : Option TypeUseTree) (n : NameNo) (r q : Option ReceiverTree) (ps qs : List ParameterTree) (body : Option Statements) → ((w : Word) → has_word w (place_marks ts ms) ≡ has_word w (place_marks us ns)) → ((a b : List Token) → option_map plain_type (result_head (place_marks ts ms) (place_result a u)) ≡ option_map plain_type (result_head (place_marks us ns) (place_result b v))) → ((a b : List Token) → map plain_param (map param_head (place_parameters a ps)) ≡ map plain_param (map param_head (place_parameters b qs))) → methods_at interface (place_member ts (MethodMember ms u n r ps body)) ≡ methods_at interface (place_member us (MethodMember ns v n q qs body))
  method_at interface ts us ms ns u v n r q ps qs body e er ep =
      let result : List Token = behind ts (spell_all_marks ms) in
      let name : List Token = behind result (spell_result u) in
      let receiver : List Token = behind name (Id n ∷ LeftParen ∷ []) in
      let parameters : List Token = behind receiver (spell_receiver r) in
      let brace : List Token = behind receiver (spell_parameters r ps) in
      let result' : List Token = behind us (spell_all_marks ns) in
      let name' : List Token = behind result' (spell_result v) in
      let receiver' : List Token = behind name' (Id n ∷ LeftParen ∷ []) in
      let parameters' : List Token = behind receiver' (spell_receiver q) in
      let brace' : List Token = behind receiver' (spell_parameters q qs) in
      method_plain interface n (place_marks ts ms) (place_marks us ns) (place_result result u) (place_result result' v) (place_name name n) (place_name name' n) (place_receiver receiver r) (place_receiver receiver' q) (place_parameters parameters ps) (place_parameters parameters' qs) (place_method_body brace body) (place_method_body brace' body) (over ts (spell_member (MethodMember ms u n r ps body))) (over us (spell_member (MethodMember ns v n q qs body)))
      refl e (er result result') (ep parameters parameters') (statements_same brace brace' body)

  constructor_at : (ts us : List Token) (ms : List Mark) (n : NameNo) (ps qs : List ParameterTree) (ss : Statements) → ((a b : List Token) → map plain_param (map param_head (place_parameters a ps)) ≡ map plain_param (map param_head (place_parameters b qs))) → methods_at false (place_member ts (ConstructorMember ms n ps ss)) ≡ methods_at false (place_member us (ConstructorMember ms n qs ss))
  constructor_at ts us ms n ps qs ss ep =
      let name : List Token = behind ts (spell_all_marks ms) in
      let parameters : List Token = behind name (Id n ∷ LeftParen ∷ []) in
      let body : List Token = behind parameters (spell_parameters None ps ++ LeftBrace ∷ []) in
      let name' : List Token = behind us (spell_all_marks ms) in
      let parameters' : List Token = behind name' (Id n ∷ LeftParen ∷ []) in
      let body' : List Token = behind parameters' (spell_parameters None qs ++ LeftBrace ∷ []) in
      constructor_plain n (place_marks ts ms) (place_marks us ms) (place_name name n) (place_name name' n) (place_parameters parameters ps) (place_parameters parameters' qs) (place_body body ss) (place_body body' ss) (over ts (spell_member (ConstructorMember ms n ps ss))) (over us (spell_member (ConstructorMember ms n qs ss)))
      refl (λ w. words_alone w ts us ms) (ep parameters parameters') (first_call_same body body' ss)

  member_methods : (interface : Bool) (c : NameNo) (m : MemberTree) (fs : List Field) (methods : List Method) (ts us : List Token) → methods_at interface (place_member ts m) ≡ methods_at interface (place_member us (noted_member slots s c m fs methods))
  member_methods false c (FieldMember ms u d ds) fs methods ts us = refl
  member_methods true c (FieldMember ms u d ds) fs methods ts us = refl
  member_methods interface c (MethodMember ms u n r ps body) fs [] ts us =
      method_at interface ts us ms ms u u n r r ps ps body (λ w. words_alone w ts us ms) (λ a b. result_alone u ms a b ts us) (params_alone ps)
  member_methods interface c (MethodMember ms u n r ps body) fs (m ∷ methods) ts us =
      let names : List NameNo = both_at slots s m.result_slot in
      method_at interface ts us ms (noted_result_marks names u ms) u (noted_result names u) n r (noted_receiver c r (inferred_qual slots s m.receiver)) ps (noted_parameters slots s ps m.param_slots) body
      (λ w. result_words w u names ms ts us) (λ a b. result_same u names ms a b ts us) (params_same ps m.param_slots)
  member_methods true c (ConstructorMember ms n ps ss) fs [] ts us = refl
  member_methods true c (ConstructorMember ms n ps ss) fs (m ∷ methods) ts us = refl
  member_methods false c (ConstructorMember ms n ps ss) fs [] ts us = constructor_at ts us ms n ps ps ss (params_alone ps)
  member_methods false c (ConstructorMember ms n ps ss) fs (m ∷ methods) ts us = constructor_at ts us ms n ps (noted_parameters slots s ps m.param_slots) ss (params_same ps m.param_slots)

  members_fields : (c : NameNo) (ms : List MemberTree) (fs : List Field) (methods : List Method) (ts us : List Token) → map plain_field (flat_map field_heads (place_members ts ms)) ≡ map plain_field (flat_map field_heads (place_members us (noted_members slots s c ms fs methods)))
  members_fields c [] fs methods ts us = refl
  members_fields c (m ∷ ms) fs methods ts us =
      let new : MemberTree = noted_member slots s c m fs methods in
      let others : List MemberTree = noted_members slots s c ms (drop (fields_in m) fs) (drop (methods_in m) methods) in
      map-append plain_field (field_heads (place_member ts m)) (flat_map field_heads (place_members (behind ts (spell_member m)) ms))
      ∙ ap (λ x. x ++ map plain_field (flat_map field_heads (place_members (behind ts (spell_member m)) ms))) (member_fields c m fs methods ts us)
      ∙ ap (λ x. fields_at (place_member us new) ++ x) (members_fields c ms (drop (fields_in m) fs) (drop (methods_in m) methods) (behind ts (spell_member m)) (behind us (spell_member new)))
      ∙ sym (map-append plain_field (field_heads (place_member us new)) (flat_map field_heads (place_members (behind us (spell_member new)) others)))

  pub members_methods : (interface : Bool) (c : NameNo) (ms : List MemberTree) (fs : List Field) (methods : List Method) (ts us : List Token) → map plain_method (flat_map (method_heads interface) (place_members ts ms)) ≡ map plain_method (flat_map (method_heads interface) (place_members us (noted_members slots s c ms fs methods)))
  members_methods interface c [] fs methods ts us = refl
  members_methods interface c (m ∷ ms) fs methods ts us =
      let new : MemberTree = noted_member slots s c m fs methods in
      let others : List MemberTree = noted_members slots s c ms (drop (fields_in m) fs) (drop (methods_in m) methods) in
      map-append plain_method (method_heads interface (place_member ts m)) (flat_map (method_heads interface) (place_members (behind ts (spell_member m)) ms))
      ∙ ap (λ x. x ++ map plain_method (flat_map (method_heads interface) (place_members (behind ts (spell_member m)) ms))) (member_methods interface c m fs methods ts us)
      ∙ ap (λ x. methods_at interface (place_member us new) ++ x) (members_methods interface c ms (drop (fields_in m) fs) (drop (methods_in m) methods) (behind ts (spell_member m)) (behind us (spell_member new)))
      ∙ sym (map-append plain_method (method_heads interface (place_member us new)) (flat_map (method_heads interface) (place_members (behind us (spell_member new)) others)))

  -- ---- types

  pub has_constructor_plain : (ms : List MethodHead) → has_constructor (map plain_method ms) ≡ has_constructor ms
  has_constructor_plain [] = refl
  has_constructor_plain (m ∷ ms) = ap (λ b. m.ctor || b) (has_constructor_plain ms)

  with_plain : (n : Identifier) (ms : List MethodHead) → map plain_method (with_constructor n ms) ≡ with_constructor (plain_name n) (map plain_method ms)
  with_plain n ms = here (has_constructor ms) (has_constructor_plain ms)
    where
      here : (b : Bool) → has_constructor (map plain_method ms) ≡ b → map plain_method (cond b ms (ms ++ unwritten_constructor n ∷ [])) ≡ with_constructor (plain_name n) (map plain_method ms)
      here true e = ap (λ c. cond c (map plain_method ms) (map plain_method ms ++ unwritten_constructor (plain_name n) ∷ [])) (sym e)
      here false e = map-append plain_method ms (unwritten_constructor n ∷ []) ∙ ap (λ c. cond c (map plain_method ms) (map plain_method ms ++ unwritten_constructor (plain_name n) ∷ [])) (sym e)

  parent_same : (ts us : List Token) (p : Option NameNo) → option_map plain_name (place_parent ts p) ≡ option_map plain_name (place_parent us p)
  parent_same ts us None = refl
  parent_same ts us (Some n) = refl

  names_same : (ts us : List Token) (ns : List NameNo) → map plain_name (place_next_names ts ns) ≡ map plain_name (place_next_names us ns)
  names_same ts us [] = refl
  names_same ts us (n ∷ ns) = ap (λ x. record { name = n; span = no_span } ∷ x) (names_same (behind ts (Comma ∷ Id n ∷ [])) (behind us (Comma ∷ Id n ∷ [])) ns)

  abbrev head_made : NameNo → Bool → Bool → Bool → Option Identifier → List Identifier → List FieldHead → List MethodHead → ClassHead
  head_made n interface a b parent interfaces fields methods = record { name = record { name = n; span = no_span }; interface = interface; is_abstract = a; is_final = b; parent = parent; interfaces = interfaces; fields = fields; methods = methods }

  type_plain : (t : TypeDeclaration) (fs : List Field) (methods : List Method) (ts us : List Token) → plain_head (class_head (place_type ts t)) ≡ plain_head (class_head (place_type us (noted_type slots s t fs methods)))
  type_plain (ClassType ms n parent interfaces members) fs methods ts us =
      let at : List Token → List Token = λ x. behind x (spell_all_marks ms ++ Class ∷ []) in
      let tail : List Token → List Token = λ x. behind (drop 1 (at x)) (spell_parent parent) in
      let inside : List Token → List Token = λ x. behind (tail x) (spell_names Implements interfaces ++ LeftBrace ∷ []) in
      let new : List MemberTree = noted_members slots s n members fs methods in
      let name : Identifier = record { name = n; span = no_span } in
      let F : List MemberTree → List Token → List FieldHead = λ m x. map plain_field (flat_map field_heads (place_members (inside x) m)) in
      let M : List MemberTree → List Token → List MethodHead = λ m x. flat_map (method_heads false) (place_members (inside x) m) in
      ap (λ x. head_made n false x (has_word FinalWord (place_marks ts ms)) (option_map plain_name (place_parent (drop 1 (at ts)) parent)) (map plain_name (place_next_names (tail ts) interfaces)) (F members ts) (map plain_method (with_constructor (place_name (at ts) n) (M members ts)))) (words_alone AbstractWord ts us ms)
      ∙ ap (λ x. head_made n false (has_word AbstractWord (place_marks us ms)) x (option_map plain_name (place_parent (drop 1 (at ts)) parent)) (map plain_name (place_next_names (tail ts) interfaces)) (F members ts) (map plain_method (with_constructor (place_name (at ts) n) (M members ts)))) (words_alone FinalWord ts us ms)
      ∙ ap (λ x. head_made n false (has_word AbstractWord (place_marks us ms)) (has_word FinalWord (place_marks us ms)) x (map plain_name (place_next_names (tail ts) interfaces)) (F members ts) (map plain_method (with_constructor (place_name (at ts) n) (M members ts)))) (parent_same (drop 1 (at ts)) (drop 1 (at us)) parent)
      ∙ ap (λ x. head_made n false (has_word AbstractWord (place_marks us ms)) (has_word FinalWord (place_marks us ms)) (option_map plain_name (place_parent (drop 1 (at us)) parent)) x (F members ts) (map plain_method (with_constructor (place_name (at ts) n) (M members ts)))) (names_same (tail ts) (tail us) interfaces)
      ∙ ap (λ x. head_made n false (has_word AbstractWord (place_marks us ms)) (has_word FinalWord (place_marks us ms)) (option_map plain_name (place_parent (drop 1 (at us)) parent)) (map plain_name (place_next_names (tail us) interfaces)) x (map plain_method (with_constructor (place_name (at ts) n) (M members ts)))) (members_fields n members fs methods (inside ts) (inside us))
      ∙ ap (λ x. head_made n false (has_word AbstractWord (place_marks us ms)) (has_word FinalWord (place_marks us ms)) (option_map plain_name (place_parent (drop 1 (at us)) parent)) (map plain_name (place_next_names (tail us) interfaces)) (F new us) x)
      (with_plain (place_name (at ts) n) (M members ts) ∙ ap (with_constructor name) (members_methods false n members fs methods (inside ts) (inside us)) ∙ sym (with_plain (place_name (at us) n) (M new us)))
  type_plain (InterfaceType ms n parents members) fs methods ts us =
      let at : List Token → List Token = λ x. behind x (spell_all_marks ms ++ Interface ∷ []) in
      let inside : List Token → List Token = λ x. behind (drop 1 (at x)) (spell_names Extends parents ++ LeftBrace ∷ []) in
      let new : List MemberTree = noted_members slots s n members fs methods in
      let F : List MemberTree → List Token → List FieldHead = λ m x. map plain_field (flat_map field_heads (place_members (inside x) m)) in
      let M : List MemberTree → List Token → List MethodHead = λ m x. map plain_method (flat_map (method_heads true) (place_members (inside x) m)) in
      ap (λ x. head_made n true x (has_word FinalWord (place_marks ts ms)) None (map plain_name (place_next_names (drop 1 (at ts)) parents)) (F members ts) (M members ts)) (words_alone AbstractWord ts us ms)
      ∙ ap (λ x. head_made n true (has_word AbstractWord (place_marks us ms)) x None (map plain_name (place_next_names (drop 1 (at ts)) parents)) (F members ts) (M members ts)) (words_alone FinalWord ts us ms)
      ∙ ap (λ x. head_made n true (has_word AbstractWord (place_marks us ms)) (has_word FinalWord (place_marks us ms)) None x (F members ts) (M members ts)) (names_same (drop 1 (at ts)) (drop 1 (at us)) parents)
      ∙ ap (λ x. head_made n true (has_word AbstractWord (place_marks us ms)) (has_word FinalWord (place_marks us ms)) None (map plain_name (place_next_names (drop 1 (at us)) parents)) x (M members ts)) (members_fields n members fs methods (inside ts) (inside us))
      ∙ ap (λ x. head_made n true (has_word AbstractWord (place_marks us ms)) (has_word FinalWord (place_marks us ms)) None (map plain_name (place_next_names (drop 1 (at us)) parents)) (F new us) x) (members_methods true n members fs methods (inside ts) (inside us))

  types_plain : (types : List TypeDeclaration) (fs : List Field) (methods : List Method) (ts us : List Token) → map plain_head (map class_head (place_each place_type spell_type ts types)) ≡ map plain_head (map class_head (place_each place_type spell_type us (noted_types slots s types fs methods)))
  types_plain [] fs methods ts us = refl
  types_plain (t ∷ types) fs methods ts us =
      let new : TypeDeclaration = noted_type slots s t fs methods in
      ap (λ x. x ∷ map plain_head (map class_head (place_each place_type spell_type (behind ts (spell_type t)) types))) (type_plain t fs methods ts us)
      ∙ ap (λ x. plain_head (class_head (place_type us new)) ∷ x) (types_plain types (drop (type_fields t) fs) (drop (type_methods t) methods) (behind ts (spell_type t)) (behind us (spell_type new)))

  pub file_plain : (f : SourceTree) (fs : List Field) (methods : List Method) (ts us : List Token) → map plain_head (map class_head (place_file ts f).types) ≡ map plain_head (map class_head (place_file us (noted_file slots s f fs methods)).types)
  file_plain f fs methods ts us =
      let at : List Token → List Token = λ x. behind (behind x (spell_package_line f.package_line)) (spell_imports f.imports) in
      types_plain f.types fs methods (at ts) (at us)

  -- files whose trees are those of tokens
  pub heads_plain : (tokens others : List (List Token)) (trees places : List PlacedFile) (fs : List Field) (methods : List Method) → AllPlaced tokens trees → AllPlaced others places → map forget_file places ≡ noted_files slots s (map forget_file trees) fs methods → map plain_head (heads trees) ≡ map plain_head (heads places)
  heads_plain [] others [] [] fs methods p q e = refl
  heads_plain [] others [] (place ∷ places) fs methods p q e = cc
  heads_plain [] others (tree ∷ trees) places fs methods p q e = absurd p
  heads_plain (ts ∷ tokens) others [] places fs methods p q e = absurd p
  heads_plain (ts ∷ tokens) [] (tree ∷ trees) [] fs methods p q e = cc
  heads_plain (ts ∷ tokens) [] (tree ∷ trees) (place ∷ places) fs methods p q e = absurd q
  heads_plain (ts ∷ tokens) (us ∷ others) (tree ∷ trees) [] fs methods p q e = cc
  heads_plain (ts ∷ tokens) (us ∷ others) (tree ∷ trees) (place ∷ places) fs methods p q e =
      let bare : SourceTree = forget_file tree in
      let head : forget_file place ≡ noted_file slots s bare fs methods = cc in
      let tail : map forget_file places ≡ noted_files slots s (map forget_file trees) (drop (file_fields bare.types) fs) (drop (file_methods bare.types) methods) = cc in
      map-append plain_head (map class_head tree.types) (heads trees)
      ∙ ap (λ (x : PlacedFile). map plain_head (map class_head x.types) ++ map plain_head (heads trees)) p.0.1
      ∙ ap (λ x. x ++ map plain_head (heads trees)) (file_plain bare fs methods ts us)
      ∙ ap (λ (x : SourceTree). map plain_head (map class_head (place_file us x).types) ++ map plain_head (heads trees)) (sym head)
      ∙ ap (λ (x : PlacedFile). map plain_head (map class_head x.types) ++ map plain_head (heads trees)) (sym q.0.1)
      ∙ ap (λ x. map plain_head (map class_head place.types) ++ x) (heads_plain tokens others trees places (drop (file_fields bare.types) fs) (drop (file_methods bare.types) methods) p.1 q.1 tail)
      ∙ sym (map-append plain_head (map class_head place.types) (heads places))
