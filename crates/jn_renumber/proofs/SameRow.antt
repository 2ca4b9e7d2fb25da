-- Renumbered tokens have the same syntax row, where the numbers can be undone.
use Rattle.std.proofs.Common.{◌≡◌, ℕ, zero, ◌+◌, ◌≤◌, ◌<◌, List, [], ◌∷◌, ◌++◌, Bool, Some, map, length, take, refl, ap, sym, ◌∙◌, subst, suc}
use mathlib.Core.Logic.{inl, inr}
use Rattle.std.proofs.lemmas.List.{map-append}
use Rattle.jn_base.specs.declared.number.NameNo.{NameNo}
use Rattle.jn_base.specs.declared.number.FileNo.{FileNo}
use Rattle.jn_base.specs.declared.place.Row.{Row}
use Rattle.jn_base.specs.declared.code.Code.{Code}
use Rattle.jn_base.specs.declared.code.Code.TheVariants.{S1, S2}
use Rattle.jn_base.specs.declared.place.Span.{Span}
use Rattle.jn_trees.specs.declared.token.Token.{Token}
use Rattle.jn_trees.specs.declared.token.TokenKind.{TokenKind}
use Rattle.jn_trees.specs.declared.token.TokenKind.TheVariants.{LeftBrace, Semicolon}
use Rattle.jn_trees.specs.declared.context.Owner.{Owner}
use Rattle.jn_trees.specs.Trees.{SourceTree}
use Rattle.jn_trees.specs.Spelling.{spell_file, spell_method_head, spell_constructor_head}
use Rattle.jn_trees.specs.WellFormed.{GoodFile, body_context}
use Rattle.jn_trees.specs.Pieces.{spell_pieces, InOrder, Begins, IsPlace, Piece, PackagePiece, ImportPiece, ClassHead, InterfaceHead, FieldPiece, MethodPiece, MethodHead, ConstructorHead, StatementPiece, BodyEnd, TypeEnd, spell_piece, Around, AtStart, BehindLines, BehindTypes, InType, InBody, MayHead, MayMember, MayStatement, MayImport, MayPackage, May, behind, pieces, kinds, opened_from, token_place, IsTooDeep, Shallow, IsSyntaxRow}
use Rattle.jn_renumber.specs.Names.{entry}
use Rattle.jn_renumber.specs.ByNumbers.{entries, declarator_by, declarators_by, file_by, import_by, dotted_by, marks_by, parameters_by, parent_by, receiver_by, result_by, statement_by, type_use_by}
use Rattle.jn_renumber.specs.Tokens.{kind_by, tokens_by}
use Rattle.jn_renumber.proofs.Spelled.{two_parts, package_spelled, import_spelled, class_head_spelled, interface_head_spelled, field_spelled, method_head_spelled, constructor_head_spelled, statement_spelled, file_spelled}
use Rattle.jn_renumber.proofs.StillGood.{good_class_marks, good_interface_marks, owner_by, good_field, good_method_head, good_constructor_head, good_statement, statement_nested, good_file}
use Rattle.jn_renumber.proofs.TreesOfTokens.{kinds_by, opened_from_by, take_by, length_by, shallow}

module _ (ns : List NameNo) where
  abbrev by : List TokenKind → List TokenKind
  by ks = map (kind_by ns) ks

  abbrev piece_by : Piece → Piece
  piece_by (PackagePiece q) = PackagePiece (dotted_by ns q)
  piece_by (ImportPiece i) = ImportPiece (import_by ns i)
  piece_by (ClassHead ms n parent interfaces) = ClassHead (marks_by ns ms) (entry ns n) (parent_by ns parent) (entries ns interfaces)
  piece_by (InterfaceHead ms n parents) = InterfaceHead (marks_by ns ms) (entry ns n) (entries ns parents)
  piece_by (FieldPiece ms u d ds) = FieldPiece (marks_by ns ms) (type_use_by ns u) (declarator_by ns d) (declarators_by ns ds)
  piece_by (MethodPiece ms u n r ps) = MethodPiece (marks_by ns ms) (result_by ns u) (entry ns n) (receiver_by ns r) (parameters_by ns ps)
  piece_by (MethodHead ms u n r ps) = MethodHead (marks_by ns ms) (result_by ns u) (entry ns n) (receiver_by ns r) (parameters_by ns ps)
  piece_by (ConstructorHead ms n ps) = ConstructorHead (marks_by ns ms) (entry ns n) (parameters_by ns ps)
  piece_by (StatementPiece s) = StatementPiece (statement_by ns s)
  piece_by BodyEnd = BodyEnd
  piece_by TypeEnd = TypeEnd

  abbrev around_by : Around → Around
  around_by AtStart = AtStart
  around_by BehindLines = BehindLines
  around_by BehindTypes = BehindTypes
  around_by (InType o) = InType (owner_by ns o)
  around_by (InBody o leading) = InBody (owner_by ns o) leading

  piece_spelled : (p : Piece) → spell_piece (piece_by p) ≡ by (spell_piece p)
  piece_spelled (PackagePiece q) = package_spelled ns (Some q)
  piece_spelled (ImportPiece i) = import_spelled ns i
  piece_spelled (ClassHead ms n parent interfaces) = class_head_spelled ns ms n parent interfaces
  piece_spelled (InterfaceHead ms n parents) = interface_head_spelled ns ms n parents
  piece_spelled (FieldPiece ms u d ds) = field_spelled ns ms u d ds
  piece_spelled (MethodPiece ms u n r ps) = two_parts ns _ (Semicolon ∷ []) (spell_method_head ms u n r ps) (Semicolon ∷ []) (method_head_spelled ns ms u n r ps) refl
  piece_spelled (MethodHead ms u n r ps) = two_parts ns _ (LeftBrace ∷ []) (spell_method_head ms u n r ps) (LeftBrace ∷ []) (method_head_spelled ns ms u n r ps) refl
  piece_spelled (ConstructorHead ms n ps) = two_parts ns _ (LeftBrace ∷ []) (spell_constructor_head ms n ps) (LeftBrace ∷ []) (constructor_head_spelled ns ms n ps) refl
  piece_spelled (StatementPiece s) = statement_spelled ns s
  piece_spelled BodyEnd = refl
  piece_spelled TypeEnd = refl

  may_head : (p : Piece) → MayHead p → MayHead (piece_by p)
  may_head (PackagePiece q) g = g
  may_head (ImportPiece i) g = g
  may_head (ClassHead ms n parent interfaces) g = good_class_marks ns ms g
  may_head (InterfaceHead ms n parents) g = good_interface_marks ns ms g
  may_head (FieldPiece ms u d ds) g = g
  may_head (MethodPiece ms u n r ps) g = g
  may_head (MethodHead ms u n r ps) g = g
  may_head (ConstructorHead ms n ps) g = g
  may_head (StatementPiece s) g = g
  may_head BodyEnd g = g
  may_head TypeEnd g = g

  may_import : (p : Piece) → MayImport p → MayImport (piece_by p)
  may_import (PackagePiece q) g = may_head (PackagePiece q) g
  may_import (ImportPiece i) g = g
  may_import (ClassHead ms n parent interfaces) g = may_head (ClassHead ms n parent interfaces) g
  may_import (InterfaceHead ms n parents) g = may_head (InterfaceHead ms n parents) g
  may_import (FieldPiece ms u d ds) g = may_head (FieldPiece ms u d ds) g
  may_import (MethodPiece ms u n r ps) g = may_head (MethodPiece ms u n r ps) g
  may_import (MethodHead ms u n r ps) g = may_head (MethodHead ms u n r ps) g
  may_import (ConstructorHead ms n ps) g = may_head (ConstructorHead ms n ps) g
  may_import (StatementPiece s) g = may_head (StatementPiece s) g
  may_import BodyEnd g = may_head BodyEnd g
  may_import TypeEnd g = may_head TypeEnd g

  may_package : (p : Piece) → MayPackage p → MayPackage (piece_by p)
  may_package (PackagePiece q) g = g
  may_package (ImportPiece i) g = may_import (ImportPiece i) g
  may_package (ClassHead ms n parent interfaces) g = may_import (ClassHead ms n parent interfaces) g
  may_package (InterfaceHead ms n parents) g = may_import (InterfaceHead ms n parents) g
  may_package (FieldPiece ms u d ds) g = may_import (FieldPiece ms u d ds) g
  may_package (MethodPiece ms u n r ps) g = may_import (MethodPiece ms u n r ps) g
  may_package (MethodHead ms u n r ps) g = may_import (MethodHead ms u n r ps) g
  may_package (ConstructorHead ms n ps) g = may_import (ConstructorHead ms n ps) g
  may_package (StatementPiece s) g = may_import (StatementPiece s) g
  may_package BodyEnd g = may_import BodyEnd g
  may_package TypeEnd g = may_import TypeEnd g

  may_member : (o : Owner) (p : Piece) → MayMember o p → MayMember (owner_by ns o) (piece_by p)
  may_member o (PackagePiece q) g = g
  may_member o (ImportPiece i) g = g
  may_member o (ClassHead ms n parent interfaces) g = g
  may_member o (InterfaceHead ms n parents) g = g
  may_member o (FieldPiece ms u d ds) g = good_field ns ms d ds g
  may_member o (MethodPiece ms u n r ps) g = good_method_head ns o ms r ps g
  may_member o (MethodHead ms u n r ps) g = (g.0, good_method_head ns o ms r ps g.1)
  may_member o (ConstructorHead ms n ps) g = good_constructor_head ns o ms n ps g
  may_member o (StatementPiece s) g = g
  may_member o BodyEnd g = g
  may_member o TypeEnd g = g

  may_statement : (leading : Bool) (p : Piece) → MayStatement leading p → MayStatement leading (piece_by p)
  may_statement leading (PackagePiece q) g = g
  may_statement leading (ImportPiece i) g = g
  may_statement leading (ClassHead ms n parent interfaces) g = g
  may_statement leading (InterfaceHead ms n parents) g = g
  may_statement leading (FieldPiece ms u d ds) g = g
  may_statement leading (MethodPiece ms u n r ps) g = g
  may_statement leading (MethodHead ms u n r ps) g = g
  may_statement leading (ConstructorHead ms n ps) g = g
  may_statement leading (StatementPiece s) g = (good_statement ns (body_context leading) s g.0, subst (λ n. n ≤ 500) (sym (statement_nested ns s)) g.1)
  may_statement leading BodyEnd g = g
  may_statement leading TypeEnd g = g

  may_by : (a : Around) (p : Piece) → May a p → May (around_by a) (piece_by p)
  may_by AtStart p g = may_package p g
  may_by BehindLines p g = may_import p g
  may_by BehindTypes p g = may_head p g
  may_by (InType o) p g = may_member o p g
  may_by (InBody o leading) p g = may_statement leading p g

  next_by : (a : Around) (p : Piece) → behind (around_by a) (piece_by p) ≡ around_by (behind a p)
  next_by AtStart (PackagePiece q) = refl
  next_by AtStart (ImportPiece i) = refl
  next_by AtStart (ClassHead ms n parent interfaces) = refl
  next_by AtStart (InterfaceHead ms n parents) = refl
  next_by AtStart (FieldPiece ms u d ds) = refl
  next_by AtStart (MethodPiece ms u n r ps) = refl
  next_by AtStart (MethodHead ms u n r ps) = refl
  next_by AtStart (ConstructorHead ms n ps) = refl
  next_by AtStart (StatementPiece s) = refl
  next_by AtStart BodyEnd = refl
  next_by AtStart TypeEnd = refl
  next_by BehindLines (PackagePiece q) = refl
  next_by BehindLines (ImportPiece i) = refl
  next_by BehindLines (ClassHead ms n parent interfaces) = refl
  next_by BehindLines (InterfaceHead ms n parents) = refl
  next_by BehindLines (FieldPiece ms u d ds) = refl
  next_by BehindLines (MethodPiece ms u n r ps) = refl
  next_by BehindLines (MethodHead ms u n r ps) = refl
  next_by BehindLines (ConstructorHead ms n ps) = refl
  next_by BehindLines (StatementPiece s) = refl
  next_by BehindLines BodyEnd = refl
  next_by BehindLines TypeEnd = refl
  next_by BehindTypes (PackagePiece q) = refl
  next_by BehindTypes (ImportPiece i) = refl
  next_by BehindTypes (ClassHead ms n parent interfaces) = refl
  next_by BehindTypes (InterfaceHead ms n parents) = refl
  next_by BehindTypes (FieldPiece ms u d ds) = refl
  next_by BehindTypes (MethodPiece ms u n r ps) = refl
  next_by BehindTypes (MethodHead ms u n r ps) = refl
  next_by BehindTypes (ConstructorHead ms n ps) = refl
  next_by BehindTypes (StatementPiece s) = refl
  next_by BehindTypes BodyEnd = refl
  next_by BehindTypes TypeEnd = refl
  next_by (InType o) (PackagePiece q) = refl
  next_by (InType o) (ImportPiece i) = refl
  next_by (InType o) (ClassHead ms n parent interfaces) = refl
  next_by (InType o) (InterfaceHead ms n parents) = refl
  next_by (InType o) (FieldPiece ms u d ds) = refl
  next_by (InType o) (MethodPiece ms u n r ps) = refl
  next_by (InType o) (MethodHead ms u n r ps) = refl
  next_by (InType o) (ConstructorHead ms n ps) = refl
  next_by (InType o) (StatementPiece s) = refl
  next_by (InType o) BodyEnd = refl
  next_by (InType o) TypeEnd = refl
  next_by (InBody o leading) (PackagePiece q) = refl
  next_by (InBody o leading) (ImportPiece i) = refl
  next_by (InBody o leading) (ClassHead ms n parent interfaces) = refl
  next_by (InBody o leading) (InterfaceHead ms n parents) = refl
  next_by (InBody o leading) (FieldPiece ms u d ds) = refl
  next_by (InBody o leading) (MethodPiece ms u n r ps) = refl
  next_by (InBody o leading) (MethodHead ms u n r ps) = refl
  next_by (InBody o leading) (ConstructorHead ms n ps) = refl
  next_by (InBody o leading) (StatementPiece s) = refl
  next_by (InBody o leading) BodyEnd = refl
  next_by (InBody o leading) TypeEnd = refl

  in_order : (a : Around) (row : List Piece) → InOrder pieces a row → InOrder pieces (around_by a) (map piece_by row)
  in_order a [] g = g
  in_order a (p ∷ row) g = (may_by a p g.0, subst (λ (b : Around). InOrder pieces b (map piece_by row)) (sym (next_by a p)) (in_order (behind a p) row g.1))

  row_spelled : (row : List Piece) → spell_pieces pieces (map piece_by row) ≡ by (spell_pieces pieces row)
  row_spelled [] = refl
  row_spelled (p ∷ row) = two_parts ns (spell_piece (piece_by p)) (spell_pieces pieces (map piece_by row)) (spell_piece p) (spell_pieces pieces row) (piece_spelled p) (row_spelled row)

  pub begins : (ks : List TokenKind) (n : ℕ) → Begins pieces AtStart ks n → Begins pieces AtStart (by ks) n
  begins ks n b = record {
    pieces = map piece_by b.pieces;
    rest = by b.rest;
    ordered = in_order AtStart b.pieces b.ordered;
    spelled = ap (λ ls. by ls) b.spelled ∙ map-append (kind_by ns) (spell_pieces pieces b.pieces) b.rest ∙ ap (λ ls. ls ++ by b.rest) (sym (row_spelled b.pieces));
    place = b.place ∙ sym (length_by ns (spell_pieces pieces b.pieces)) ∙ ap length (sym (row_spelled b.pieces));
  }

  token_at : (file : FileNo) (end : ℕ) (ts : List Token) (n : ℕ) → token_place file end (tokens_by ns ts) n ≡ token_place file end ts n
  token_at file end [] n = refl
  token_at file end (t ∷ ts) zero = refl
  token_at file end (t ∷ ts) (suc n) = token_at file end ts n

  depth : (ks : List TokenKind) (n : ℕ) → opened_from 0 (take n (by ks)) ≡ opened_from 0 (take n ks)
  depth ks n = ap (opened_from 0) (take_by ns n ks) ∙ opened_from_by ns 0 (take n ks)

  too_deep : (ks : List TokenKind) (n : ℕ) → IsTooDeep ks n → IsTooDeep (by ks) n
  too_deep ks n d = record {
    inside = subst (λ m. n < m) (sym (length_by ns ks)) d.inside;
    passes = subst (λ m. 200 < m) (sym (depth ks (n + 1))) d.passes;
    first = λ m lt. subst (λ k. k ≤ 200) (sym (depth ks (m + 1))) (d.first m lt);
  }

  placed_row : (file : FileNo) (end : ℕ) (ts : List Token) (n : ℕ) (code : Code) (row : Row) → row ≡ record { span = token_place file end ts n; code = code } → row ≡ record { span = token_place file end (tokens_by ns ts) n; code = code }
  placed_row file end ts n code row e = e ∙ ap (λ (s : Span). (λ (r : Row). r) (record { span = s; code = code })) (sym (token_at file end ts n))

module _ (ns back : List NameNo) where
  undone : (ts : List Token) → tokens_by back (tokens_by ns ts) ≡ ts → map (kind_by back) (map (kind_by ns) (kinds ts)) ≡ kinds ts
  undone ts e = ap (map (kind_by back)) (sym (kinds_by ns ts)) ∙ sym (kinds_by back (tokens_by ns ts)) ∙ ap kinds e

  same_place : (ks : List TokenKind) (n : ℕ) → map (kind_by back) (map (kind_by ns) ks) ≡ ks → IsPlace pieces AtStart ks n → IsPlace pieces AtStart (map (kind_by ns) ks) n
  same_place ks n e p = record {
    reached = begins ns ks n p.reached;
    greatest = λ m b. p.greatest m (subst (λ (ls : List TokenKind). Begins pieces AtStart ls m) e (begins back (map (kind_by ns) ks) m b));
  }

  no_tree : (ks : List TokenKind) → map (kind_by back) (map (kind_by ns) ks) ≡ ks → ((t : SourceTree) → GoodFile t → ks ≡ spell_file t → ⊥) → (t : SourceTree) → GoodFile t → map (kind_by ns) ks ≡ spell_file t → ⊥
  no_tree ks e none t g s = none (file_by back t) (good_file back t g) (sym e ∙ ap (map (kind_by back)) s ∙ sym (file_spelled back t))

  pub same_row : (file : FileNo) (end : ℕ) (ts : List Token) (row : Row) → tokens_by back (tokens_by ns ts) ≡ ts → IsSyntaxRow file end ts row → IsSyntaxRow file end (tokens_by ns ts) row
  same_row file end ts row e (inl d) = inl (record {
    place = d.place;
    deep = subst (λ (ks : List TokenKind). IsTooDeep ks d.place) (sym (kinds_by ns ts)) (too_deep ns (kinds ts) d.place d.deep);
    is = placed_row ns file end ts d.place S2 row d.is;
  })
  same_row file end ts row e (inr f) = inr (record {
    place = f.place;
    shallow = subst Shallow (sym (kinds_by ns ts)) (shallow ns (kinds ts) f.shallow);
    no_tree = subst (λ (ks : List TokenKind). (t : SourceTree) → GoodFile t → ks ≡ spell_file t → ⊥) (sym (kinds_by ns ts)) (no_tree (kinds ts) (undone ts e) f.no_tree);
    ends = subst (λ (ks : List TokenKind). IsPlace pieces AtStart ks f.place) (sym (kinds_by ns ts)) (same_place (kinds ts) f.place (undone ts e) f.ends);
    is = placed_row ns file end ts f.place S1 row f.is;
  })
