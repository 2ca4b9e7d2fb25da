-- A run over pieces finds the one well-formed file that spells the tokens, or shows that there is none.
use Rattle.std.proofs.Common.{◌≡◌, ◌-◌, ◌<◌, List, [], ◌∷◌, ◌++◌, length, refl, sym, ap, ◌∙◌, subst, append-nil, Option, Some, None}
use Rattle.jn_trees.specs.declared.token.TokenKind.{TokenKind}
use Rattle.jn_trees.specs.Trees.{SourceTree}
use Rattle.jn_trees.specs.Spelling.{spell_file}
use Rattle.jn_trees.specs.WellFormed.{GoodFile}
use Rattle.jn_trees.specs.Pieces.{Piece, Around, AtStart, behind, pieces, spell_pieces, IsPlace}
use Rattle.jn_parse_decl_law.specs.Runs.{SoundPiece}
use Rattle.jn_parse_decl_law.specs.Built.{Built, nothing, add, add_all, finished}
use Rattle.jn_parse_decl_law.specs.TreePieces.{tree_pieces}
use Rattle.jn_parse_decl_law.specs.PieceReader.{piece_reader}
use Rattle.jn_parse_decl_law.specs.Progress.{file_run, IsReached}
use Rattle.jn_parse_decl_law.proofs.Places.{run_place, row_sound, row_more, row_place, row_one, row_full, last_state, nothing_left}
use Rattle.jn_parse_decl_law.proofs.PiecesRead.{file_reader}
use Rattle.jn_parse_decl_law.proofs.TreePieces.{tree_spelled, tree_ordered, tree_built, add_both}
use Rattle.jn_parse_decl_law.proofs.Building.{closed_row}

pub begun : (ts : List TokenKind) → IsReached ts nothing AtStart ts
begun ts = record { row = []; read = (refl, refl); made = refl }

pub more : (ts : List TokenKind) (built : Built) (around : Around) (rest : List TokenKind) (piece : Piece) (us : List TokenKind) → IsReached ts built around rest → piece_reader around rest ≡ Some (piece, us) → IsReached ts (add built piece) (behind around piece) us
more ts built around rest piece us h e = record {
  row = h.row ++ piece ∷ [];
  read = row_more pieces piece_reader AtStart ts h.row around rest piece us h.read e;
  made = ap (λ b. add b piece) h.made ∙ sym (add_both nothing h.row (piece ∷ []));
}

pub place : (ts : List TokenKind) → IsPlace pieces AtStart ts (length ts - length (file_run ts).1)
unfolding file_run
place ts = run_place pieces file_reader AtStart ts

pub shorter : (around : Around) (rest : List TokenKind) (piece : Piece) (us : List TokenKind) → piece_reader around rest ≡ Some (piece, us) → length us < length rest
shorter around rest piece us e =
    let h : SoundPiece pieces around rest (Some (piece, us)) = subst (λ o. SoundPiece pieces around rest o) e (file_reader.sound around rest) in
    h.2

pub stops : (ts : List TokenKind) (built : Built) (around : Around) (rest : List TokenKind) → IsReached ts built around rest → piece_reader around rest ≡ None → IsPlace pieces AtStart ts (length ts - length rest)
stops ts built around rest h e = row_place pieces file_reader AtStart ts h.row around rest h.read e

pub found : (ts : List TokenKind) (built : Built) (around : Around) (tree : SourceTree) → IsReached ts built around [] → finished built ≡ Some tree → GoodFile tree × (ts ≡ spell_file tree)
found ts built around tree h e =
    let row = row_sound pieces file_reader AtStart ts h.row around [] h.read in
    let c = closed_row h.row tree row.0 (ap finished (sym h.made) ∙ e) in
    (c.0, row.1 ∙ append-nil (spell_pieces pieces h.row) ∙ ap (spell_pieces pieces) c.1 ∙ tree_spelled tree)

pub only : (ts : List TokenKind) (built : Built) (around : Around) (rest : List TokenKind) → IsReached ts built around rest → piece_reader around rest ≡ None → (tree : SourceTree) → GoodFile tree → ts ≡ spell_file tree → (rest ≡ []) × (finished built ≡ Some tree)
only ts built around rest h e tree g spelled =
    let one = row_one pieces file_reader AtStart ts h.row (tree_pieces tree) around rest h.read e (tree_ordered tree g) (spelled ∙ sym (tree_spelled tree)) in
    (one.1, ap finished h.made ∙ ap (λ ps. finished (add_all nothing ps)) one.0 ∙ tree_built tree)

pub none : (ts : List TokenKind) (built : Built) (around : Around) (rest : List TokenKind) → IsReached ts built around rest → piece_reader around rest ≡ None → (rest ≡ [] → finished built ≡ None) → (tree : SourceTree) → GoodFile tree → ts ≡ spell_file tree → ⊥
none ts built around rest h e open_left tree g spelled =
    let o = only ts built around rest h e tree g spelled in
    let both : ◌≡◌ {A = Option SourceTree} None (Some tree) = sym (open_left o.0) ∙ o.1 in
    cc

pub one_tree : (t u : SourceTree) → GoodFile t → GoodFile u → spell_file t ≡ spell_file u → t ≡ u
one_tree t u g k e =
    let ts = spell_pieces pieces (tree_pieces t) ++ [] in
    let all : IsReached ts (add_all nothing (tree_pieces t)) (last_state pieces AtStart (tree_pieces t)) [] = record { row = tree_pieces t; read = row_full pieces file_reader AtStart (tree_pieces t) (tree_ordered t g); made = refl } in
    let end = nothing_behind (last_state pieces AtStart (tree_pieces t)) in
    let o = only ts (add_all nothing (tree_pieces t)) (last_state pieces AtStart (tree_pieces t)) [] all end u k (append-nil (spell_pieces pieces (tree_pieces t)) ∙ tree_spelled t ∙ e) in
    let both : ◌≡◌ {A = Option SourceTree} (Some t) (Some u) = sym (tree_built t) ∙ o.1 in
    cc
  where
    nothing_behind : (around : Around) → piece_reader around [] ≡ None
    nothing_behind around = nothing_left pieces around (piece_reader around []) (file_reader.sound around [])
