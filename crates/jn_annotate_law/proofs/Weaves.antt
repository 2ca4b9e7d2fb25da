-- Parts of a file's tokens with words between them, one before the other.
use Rattle.std.proofs.Common.{◌≡◌, ℕ, inl, List, [], ◌∷◌, ◌++◌, refl, sym, ap, ◌∙◌, subst, append_assoc}
use Rattle.std.specs.Prelude.{drop, Option, Some, None, codes}
use Rattle.std.proofs.lemmas.List.{append-nil}
use Rattle.jn_base.specs.declared.number.NameNo.{NameNo}
use Rattle.jn_quals.specs.Qualifier.{Qualifier}
use Rattle.jn_trees.specs.Pieces.{kinds}
use Rattle.jn_trees.specs.declared.token.Token.{Token}
use Rattle.jn_trees.specs.declared.token.TokenKind.{TokenKind}
use Rattle.jn_trees.specs.declared.token.TokenKind.TheVariants.{Id, At, LeftBracket, RightBracket}
use Rattle.jn_trees.specs.Trees.{BaseTree, TypeUseTree}
use Rattle.jn_trees.specs.Spelling.{base_token, spell_annotations, spell_type_use}
use Rattle.jn_places.specs.Places.{behind, front}
use Rattle.jn_splice_law.specs.Inserted.{Insertion}
use Rattle.jn_splice_law.specs.Woven.{Note, notes_text, notes_kinds, Wording, Notes, SpacedNotes, words_of, kinds_of, Item, Keep, Put, kept, put, woven, AreNotes, IsWording, AreWoven}
use Rattle.jn_annotate.specs.Insertions.{at_type}
use Rattle.jn_annotate.proofs.Cursors.{behind_append}
use Rattle.jn_annotate_law.specs.Trees.{names_of, leading, noted_use}

-- the first of the tokens, as many as these
abbrev pub taken : List Token → List TokenKind → List Token
taken ts [] = []
taken [] (k ∷ ks) = []
taken (t ∷ ts) (k ∷ ks) = t ∷ taken ts ks

taken_append : (ts : List Token) (ks ls : List TokenKind) → taken ts (ks ++ ls) ≡ taken ts ks ++ taken (behind ts ks) ls
taken_append ts [] ls = refl
taken_append [] (k ∷ ks) ls = nothing ks ls
  where
    none : (ks : List TokenKind) → behind [] ks ≡ []
    none [] = refl
    none (k ∷ ks) = none ks

    nothing : (ks ls : List TokenKind) → [] ≡ [] ++ taken (behind [] ks) ls
    nothing ks [] = refl
    nothing ks (l ∷ ls) = sym (ap (λ x. taken x (l ∷ ls)) (none ks))
taken_append (t ∷ ts) (k ∷ ks) ls = ap (λ x. t ∷ x) (taken_append ts ks ls)

pub behind_kinds : (ts : List Token) (ks ls : List TokenKind) → kinds ts ≡ ks ++ ls → kinds (behind ts ks) ≡ ls
behind_kinds ts [] ls e = e
behind_kinds [] (k ∷ ks) ls e = cc
behind_kinds (t ∷ ts) (k ∷ ks) ls e = behind_kinds ts ks ls (let tail : kinds ts ≡ ks ++ ls = cc in tail)

pub annotations_append : (ns ms : List NameNo) → spell_annotations (ns ++ ms) ≡ spell_annotations ns ++ spell_annotations ms
annotations_append [] ms = refl
annotations_append (n ∷ ns) ms = ap (λ x. At ∷ Id n ∷ x) (annotations_append ns ms)

-- notes that spell what is inferred
pub record Spells (old : List (List ℕ)) (text : Qualifier → List ℕ) (names : Qualifier → List NameNo) (q : Qualifier) : Type 0 where
  pub note : Note
  pub more : List Note
  pub known : AreNotes old (note ∷ more)
  pub text_is : text q ≡ notes_text (note ∷ more)
  pub kinds_is : notes_kinds (note ∷ more) ≡ spell_annotations (names q)

module _ (text : List ℕ) (old : List (List ℕ)) where
  -- the tokens after `before` with these words between them are of these kinds
  pub record Weave (before ts : List Token) (is : List Insertion) (ks : List TokenKind) : Type 0 where
    pub items : List Item
    pub kept_is : kept items ≡ ts
    pub put_is : put text items ≡ is
    pub woven_is : woven items ≡ ks
    pub are : AreWoven old before items

  pub weave_nil : (before : List Token) → Weave before [] [] []
  weave_nil before = record { items = []; kept_is = refl; put_is = refl; woven_is = refl; are = tt }

  pub weave_same : (before ts : List Token) (is js : List Insertion) (ks ls : List TokenKind) → is ≡ js → ks ≡ ls → Weave before ts is ks → Weave before ts js ls
  weave_same before ts is js ks ls a b w = subst (λ x. Weave before ts x ls) a (subst (Weave before ts is) b w)

  pub keep_one : (before : List Token) (t : Token) (ts : List Token) (is : List Insertion) (ks : List TokenKind) → Weave (before ++ t ∷ []) ts is ks → Weave before (t ∷ ts) is (t.kind ∷ ks)
  keep_one before t ts is ks w = record { items = Keep t ∷ w.items; kept_is = ap (λ x. t ∷ x) w.kept_is; put_is = w.put_is; woven_is = ap (λ x. t.kind ∷ x) w.woven_is; are = w.are }

  pub keep : (ks : List TokenKind) (before ts : List Token) (is : List Insertion) (ls new : List TokenKind) → kinds ts ≡ ks ++ ls → Weave (before ++ taken ts ks) (behind ts ks) is new → Weave before ts is (ks ++ new)
  keep [] before ts is ls new e w = subst (λ x. Weave x ts is new) (append-nil before) w
  keep (k ∷ ks) before [] is ls new e w = cc
  keep (k ∷ ks) before (t ∷ ts) is ls new e w =
      let head : t.kind ≡ k = cc in
      let tail : kinds ts ≡ ks ++ ls = cc in
      let inner = keep ks (before ++ t ∷ []) ts is ls new tail (subst (λ x. Weave x (behind ts ks) is new) (sym (append_assoc before (t ∷ []) (taken ts ks))) w) in
      subst (λ x. Weave before (t ∷ ts) is (x ∷ (ks ++ new))) head (keep_one before t ts is (ks ++ new) inner)

  -- words before a token
  pub put_before : (wording : Wording) (before : List Token) (t : Token) (ts : List Token) (is : List Insertion) (ks : List TokenKind) → ((items : List Item) → IsWording old wording before items) → Weave (before ++ t ∷ []) ts is ks → Weave before (t ∷ ts) (record { at = t.span.from; words = words_of text wording } ∷ is) (kinds_of wording ++ t.kind ∷ ks)
  put_before wording before t ts is ks h w = record {
    items = Put t.span.from wording ∷ Keep t ∷ w.items;
    kept_is = ap (λ x. t ∷ x) w.kept_is;
    put_is = ap (λ x. record { at = t.span.from; words = words_of text wording } ∷ x) w.put_is;
    woven_is = ap (λ x. kinds_of wording ++ t.kind ∷ x) w.woven_is;
    are = (inl (t, (w.items, refl), refl), h (Keep t ∷ w.items), w.are);
  }

  -- ---- types

  module _ (txt : Qualifier → List ℕ) (nms : Qualifier → List NameNo) (spells : (q : Qualifier) → Spells old txt nms q) where
    -- words before the first token of a type without brackets
    pub before_type : (q : Qualifier) (before ts : List Token) (k : TokenKind) (is : List Insertion) (ls new : List TokenKind) → kinds ts ≡ k ∷ ls → Weave (before ++ taken ts (k ∷ [])) (drop 1 ts) is new → Weave before ts (record { at = (front ts).from; words = txt q } ∷ is) (spell_annotations (nms q) ++ k ∷ new)
    before_type q before [] k is ls new e w = cc
    before_type q before (t ∷ ts) k is ls new e w =
        let sp = spells q in
        let head : t.kind ≡ k = cc in
        let r = put_before (Notes (sp.note ∷ sp.more)) before t ts is new (λ items. ((sp.note, sp.more, refl), sp.known)) w in
        weave_same before (t ∷ ts) (record { at = t.span.from; words = notes_text (sp.note ∷ sp.more) } ∷ is) (record { at = t.span.from; words = txt q } ∷ is) (notes_kinds (sp.note ∷ sp.more) ++ t.kind ∷ new) (spell_annotations (nms q) ++ k ∷ new)
        (ap (λ x. record { at = t.span.from; words = x } ∷ is) (sym sp.text_is)) (ap (λ x. x ++ t.kind ∷ new) sp.kinds_is ∙ ap (λ x. spell_annotations (nms q) ++ x ∷ new) head) r

    -- words with a space before them, before a bracket
    before_bracket : (q : Qualifier) (before ts : List Token) (k : TokenKind) (is : List Insertion) (ls new : List TokenKind) → kinds ts ≡ k ∷ ls → Weave (before ++ taken ts (k ∷ [])) (drop 1 ts) is new → Weave before ts (record { at = (front ts).from; words = codes " " ++ txt q } ∷ is) (spell_annotations (nms q) ++ k ∷ new)
    before_bracket q before [] k is ls new e w = cc
    before_bracket q before (t ∷ ts) k is ls new e w =
        let sp = spells q in
        let head : t.kind ≡ k = cc in
        let r = put_before (SpacedNotes (sp.note ∷ sp.more)) before t ts is new (λ items. ((sp.note, sp.more, refl), sp.known)) w in
        weave_same before (t ∷ ts) (record { at = t.span.from; words = codes " " ++ notes_text (sp.note ∷ sp.more) } ∷ is) (record { at = t.span.from; words = codes " " ++ txt q } ∷ is) (notes_kinds (sp.note ∷ sp.more) ++ t.kind ∷ new) (spell_annotations (nms q) ++ k ∷ new)
        (ap (λ x. record { at = t.span.from; words = codes " " ++ x } ∷ is) (sym sp.text_is)) (ap (λ x. x ++ t.kind ∷ new) sp.kinds_is ∙ ap (λ x. spell_annotations (nms q) ++ x ∷ new) head) r

    pub typed : (base : BaseTree) (array : Option (List NameNo)) (q : Option Qualifier) (before ts : List Token) (is : List Insertion) (ls new : List TokenKind) → let u : TypeUseTree = record { base = base; array = array } in kinds ts ≡ spell_type_use u ++ ls → Weave (before ++ taken ts (spell_type_use u)) (behind ts (spell_type_use u)) is new → Weave before ts (at_type txt ts u q ++ is) ((spell_annotations (leading (names_of nms q) array) ++ spell_type_use (noted_use (names_of nms q) u)) ++ new)
    typed base None None before ts is ls new e w = keep (base_token base ∷ []) before ts is ls new e w
    typed base None (Some q) before ts is ls new e w =
        weave_same before ts (record { at = (front ts).from; words = txt q } ∷ is) (record { at = (front ts).from; words = txt q } ∷ is) (spell_annotations (nms q) ++ base_token base ∷ new) ((spell_annotations (nms q) ++ base_token base ∷ []) ++ new) refl (sym (append_assoc (spell_annotations (nms q)) (base_token base ∷ []) new)) (before_type q before ts (base_token base) is ls new e w)
    typed base (Some notes) None before ts is ls new e w =
        let u : TypeUseTree = record { base = base; array = Some notes } in
        weave_same before ts is is (spell_type_use u ++ new) ((base_token base ∷ (spell_annotations (notes ++ []) ++ LeftBracket ∷ RightBracket ∷ [])) ++ new) refl (ap (λ ns. (base_token base ∷ (spell_annotations ns ++ LeftBracket ∷ RightBracket ∷ [])) ++ new) (sym (append-nil notes))) (keep (spell_type_use u) before ts is ls new e w)
    typed base (Some notes) (Some q) before ts is ls new e w =
        let front_kinds : List TokenKind = base_token base ∷ spell_annotations notes in
        let brackets : List TokenKind = LeftBracket ∷ RightBracket ∷ [] in
        let rest : List Token = behind ts front_kinds in
        let old_kinds : kinds ts ≡ front_kinds ++ (brackets ++ ls) = e ∙ append_assoc front_kinds brackets ls in
        let rest_kinds : kinds rest ≡ brackets ++ ls = behind_kinds ts front_kinds (brackets ++ ls) old_kinds in
        let one : List Token = before ++ taken ts front_kinds in
        let at_end : Weave (one ++ taken rest brackets) (behind rest brackets) is new =
        subst (λ x. Weave x (behind rest brackets) is new) (ap (λ x. before ++ x) (taken_append ts front_kinds brackets) ∙ sym (append_assoc before (taken ts front_kinds) (taken rest brackets)))
        (subst (λ x. Weave (before ++ taken ts (front_kinds ++ brackets)) x is new) (behind_append ts front_kinds brackets) w) in
        let closing : Weave ((one ++ taken rest (LeftBracket ∷ [])) ++ taken (drop 1 rest) (RightBracket ∷ [])) (drop 1 (drop 1 rest)) is new =
        subst (λ x. Weave x (drop 1 (drop 1 rest)) is new) (ap (λ x. one ++ x) (taken_append rest (LeftBracket ∷ []) (RightBracket ∷ [])) ∙ sym (append_assoc one (taken rest (LeftBracket ∷ [])) (taken (drop 1 rest) (RightBracket ∷ [])))) at_end in
        let second = keep (RightBracket ∷ []) (one ++ taken rest (LeftBracket ∷ [])) (drop 1 rest) is ls new (behind_kinds rest (LeftBracket ∷ []) (RightBracket ∷ ls) rest_kinds) closing in
        let first = before_bracket q one rest LeftBracket is (RightBracket ∷ ls) (RightBracket ∷ new) rest_kinds second in
        let i : Insertion = record { at = (front rest).from; words = codes " " ++ txt q } in
        let all = keep front_kinds before ts (i ∷ is) (brackets ++ ls) (spell_annotations (nms q) ++ (brackets ++ new)) old_kinds first in
        weave_same before ts (i ∷ is) (i ∷ is) (front_kinds ++ (spell_annotations (nms q) ++ (brackets ++ new))) ((base_token base ∷ (spell_annotations (notes ++ nms q) ++ brackets)) ++ new) refl
        (ap (λ x. base_token base ∷ x) (sym (append_assoc (spell_annotations notes) (spell_annotations (nms q)) (brackets ++ new)) ∙ ap (λ x. x ++ (brackets ++ new)) (sym (annotations_append notes (nms q))) ∙ sym (append_assoc (spell_annotations (notes ++ nms q)) brackets new))) all

  -- ---- parts of trees

  -- tokens spelled `sp` with words between them are spelled `new`, wherever they stand after tokens of which C holds
  abbrev pub Part : (C : List Token → Type 0) → List TokenKind → (List Token → List Insertion) → List TokenKind → Type 0
  Part C sp is new = (before ts : List Token) (ls others : List TokenKind) (more : List Insertion) → C before → kinds ts ≡ sp ++ ls → Weave (before ++ taken ts sp) (behind ts sp) more others → Weave before ts (is ts ++ more) (new ++ others)

  module _ (C : List Token → Type 0) where
    pub part_same : (sp tp : List TokenKind) (is js : List Token → List Insertion) (new others : List TokenKind) → sp ≡ tp → ((ts : List Token) → is ts ≡ js ts) → new ≡ others → Part C sp is new → Part C tp js others
    part_same sp tp is js new others a b c f before ts ls rest more h e w =
        weave_same before ts (is ts ++ more) (js ts ++ more) (new ++ rest) (others ++ rest) (ap (λ x. x ++ more) (b ts)) (ap (λ x. x ++ rest) c)
        (f before ts ls rest more h (e ∙ ap (λ x. x ++ ls) (sym a)) (subst (λ x. Weave (before ++ taken ts x) (behind ts x) more rest) (sym a) w))

    pub keep_part : (sp : List TokenKind) → Part C sp (λ ts. []) sp
    keep_part sp before ts ls rest more h e w = keep sp before ts more ls rest e w

    pub next : (stays : (before more : List Token) → C before → C (before ++ more)) (sp tp : List TokenKind) (is js : List Token → List Insertion) (new others : List TokenKind) → Part C sp is new → Part C tp js others → Part C (sp ++ tp) (λ ts. is ts ++ js (behind ts sp)) (new ++ others)
    next stays sp tp is js new others f g before ts ls rest more h e w =
        let old_kinds : kinds ts ≡ sp ++ (tp ++ ls) = e ∙ append_assoc sp tp ls in
        let mid : List Token = behind ts sp in
        let one : List Token = before ++ taken ts sp in
        let at_end : Weave (one ++ taken mid tp) (behind mid tp) more rest =
        subst (λ x. Weave x (behind mid tp) more rest) (ap (λ x. before ++ x) (taken_append ts sp tp) ∙ sym (append_assoc before (taken ts sp) (taken mid tp)))
        (subst (λ x. Weave (before ++ taken ts (sp ++ tp)) x more rest) (behind_append ts sp tp) w) in
        let second = g one mid ls rest more (stays before (taken ts sp) h) (behind_kinds ts sp (tp ++ ls) old_kinds) at_end in
        let first = f before ts (tp ++ ls) (others ++ rest) (js mid ++ more) h old_kinds second in
        weave_same before ts (is ts ++ (js mid ++ more)) ((is ts ++ js mid) ++ more) (new ++ (others ++ rest)) ((new ++ others) ++ rest) (sym (append_assoc (is ts) (js mid) more)) (sym (append_assoc new others rest)) first
