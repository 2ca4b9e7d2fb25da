-- A tree whose names have numbers gets others by what leads from the ones to the others.
use Rattle.std.proofs.Common.{◌≡◌, ℕ, ◌<◌, ◌≤◌, List, [], ◌∷◌, length, Option, Some, None, refl, sym, ap, ◌∙◌, subst, arith}
use Rattle.std.specs.Prelude.{encode_utf8_all, slice_get, Vec}
use Rattle.std.specs.declared.alloc.Global.{Global}
use Rattle.jn_base.specs.declared.number.FileNo.{FileNo}
use Rattle.jn_base.specs.declared.number.NameNo.{NameNo}
use Rattle.jn_known.specs.Known.{known_names}
use Rattle.jn_trees.specs.Names.{with_name, number_in}
use Rattle.jn_trees.proofs.Numbers.{number_found}
use Rattle.jn_trees.specs.declared.token.Token.{Token}
use Rattle.jn_trees.specs.declared.token.TokenKind.{TokenKind}
use Rattle.jn_trees.specs.declared.token.TokenKind.TheVariants.{Id, Str}
use Rattle.jn_lexer.specs.Lexemes.{Lexeme, Word, Quoted, Numeral, Fixed, IsSpelling}
use Rattle.jn_lexer.specs.Spelling.{spelling}
use Rattle.jn_lexer.specs.Pieces.{Piece, Behind}
use Rattle.jn_lexer.specs.Lexed.{names_with, kind_of, names_after, tokens_of, Lexed}
use Rattle.jn_places.specs.Placed.{PlacedFile}
use Rattle.jn_places.specs.PlacedView.{placed_file}
use Rattle.jn_places.specs.Places.{IsPlacedFile}
use Rattle.jn_renumber.specs.Names.{entry}
use Rattle.jn_renumber.specs.Renumbered.{renumbered_file}
use Rattle.jn_renumber.specs.Tokens.{kind_by, tokens_by}
use Rattle.jn_renumber.proofs.Entries.{numbered}
use Rattle.jn_renumber.proofs.TreesOfTokens.{placed_renumbered}
use Rattle.jn_front.specs.Numbered.{numbered_by}
use Rattle.jn_front.specs.Phases.{file_no}
use Rattle.jn_kept_trees.specs.declared.kept.KeptTree.{KeptTree}
use Rattle.jn_kept_trees.specs.KeptTrees.{AreNumbersOf}
use Rattle.jn_kept_trees.specs.Merges.{IsNumberedBy, IsWay}
use Rattle.jn_kept_trees.specs.Shifts.{LeadsFrom}
use Rattle.jn_kept_trees.proofs.Ways.{below_length, numbers_long, stays_with}

-- ---- tokens

lexeme_stays : (names : List (List ℕ)) (l : Lexeme) (n : ℕ) (text : List ℕ) → slice_get names n ≡ Some text → slice_get (names_with names l) n ≡ Some text
lexeme_stays names (Word word) n text h = stays_with names (encode_utf8_all word) n text h
lexeme_stays names (Quoted word) n text h = stays_with names (encode_utf8_all word) n text h
lexeme_stays names (Numeral value) n text h = h
lexeme_stays names (Fixed kind) n text h = h

stays_after : (names : List (List ℕ)) (ps : List Piece) (n : ℕ) (text : List ℕ) → slice_get names n ≡ Some text → slice_get (names_after names ps) n ≡ Some text
stays_after names [] n text h = h
stays_after names (p ∷ ps) n text h = stays_after (names_with names p.lexeme) ps n text (lexeme_stays names p.lexeme n text h)

-- the number of a token's name is below that of all names
inside : (names : List (List ℕ)) (text : List ℕ) (ps : List Piece) → number_in names text < length (names_after (with_name names text) ps)
inside names text ps = below_length (names_after (with_name names text) ps) (number_in names text) text (stays_after (with_name names text) ps (number_in names text) text (number_found names text))

-- a token with one spelling has no name
kind_fixed : (numbers : List NameNo) (kind : TokenKind) → 1 ≤ length (spelling kind) → kind_by numbers kind ≡ kind
kind_fixed numbers (Id name) h = absurd (omega (arith, h))
kind_fixed numbers (Str name) h = absurd (omega (arith, h))
kind_fixed numbers kind h = refl

two : {A B C : Type 0} (f : A → B → C) {a x : A} {b y : B} → a ≡ x → b ≡ y → f a b ≡ f x y
two f p q = cc

module _ (old by new : List NameNo) (size : ℕ) (each : (n : NameNo) → n.0 < size → entry by (entry old n) ≡ entry new n) where
  kind_twice : (names : List (List ℕ)) (l : Lexeme) (word : List ℕ) (ps : List Piece) → IsSpelling l word → size ≡ length (names_after (names_with names l) ps) → kind_by by (kind_by old (kind_of names l)) ≡ kind_by new (kind_of names l)
  kind_twice names (Word text) word ps s e = ap Id (each (numbered (number_in names (encode_utf8_all text))) (subst (λ n. number_in names (encode_utf8_all text) < n) (sym e) (inside names (encode_utf8_all text) ps)))
  kind_twice names (Quoted text) word ps s e = ap Str (each (numbered (number_in names (encode_utf8_all text))) (subst (λ n. number_in names (encode_utf8_all text) < n) (sym e) (inside names (encode_utf8_all text) ps)))
  kind_twice names (Numeral value) word ps s e = refl
  kind_twice names (Fixed kind) word ps s e =
      let fixed = subst (λ (w : List ℕ). 1 ≤ length w) s.0 s.1 in
      ap (kind_by by) (kind_fixed old kind fixed) ∙ kind_fixed by kind fixed ∙ sym (kind_fixed new kind fixed)

  tokens_twice : (file : FileNo) (names : List (List ℕ)) (ps : List Piece) (text rest : List ℕ) (at place : ℕ) → Behind text at ps rest place → size ≡ length (names_after names ps) → tokens_by by (tokens_by old (tokens_of file names ps)) ≡ tokens_by new (tokens_of file names ps)
  tokens_twice file names [] text rest at place b e = refl
  tokens_twice file names (p ∷ ps) text rest at place b e =
      two (λ k (r : List Token). (record { kind = k; span = record { file = file; from = p.from; to = p.to } }) ∷ r)
      (kind_twice names p.lexeme b.1.word ps b.1.spelled e)
      (tokens_twice file (names_with names p.lexeme) ps b.0 rest p.to place b.2 e)

-- ---- trees

module _ (one : (tokens : List Token) (tree other : PlacedFile) → IsPlacedFile tokens tree → IsPlacedFile tokens other → tree ≡ other) where
  -- the tree of a text, with the old numbers, then by what leads from them to the new ones
  tree_twice : (file : FileNo) (text : List ℕ) (known : List (List ℕ)) (tokens : List Token) (own : List (List ℕ)) (tree : PlacedFile) (old by new : List NameNo) → Lexed file text known tokens own → IsPlacedFile tokens tree → length old ≡ length own → LeadsFrom old new by → renumbered_file by (renumbered_file old tree) ≡ renumbered_file new tree
  tree_twice file text known tokens own tree old by new l is long leads =
      let each : (n : NameNo) → n.0 < length own → entry by (entry old n) ≡ entry new n = λ n lt. leads n.0 n (entry old n) n (subst (λ m. n.0 < m) (sym long) lt) in
      let same : tokens_by by (tokens_by old tokens) ≡ tokens_by new tokens =
      ap (λ ts. tokens_by by (tokens_by old ts)) l.tokens_are
      ∙ tokens_twice old by new (length own) each file known l.pieces _ _ _ _ l.are.behind (ap length l.names_are)
      ∙ ap (tokens_by new) (sym l.tokens_are) in
      let then = placed_renumbered by (tokens_by old tokens) (renumbered_file old tree) (placed_renumbered old tokens tree is) in
      one (tokens_by new tokens) (renumbered_file by (renumbered_file old tree)) (renumbered_file new tree)
      (subst (λ ts. IsPlacedFile ts (renumbered_file by (renumbered_file old tree))) same then) (placed_renumbered new tokens tree is)

  pub numbered_way : (kept : KeptTree) (new : List NameNo) (by : Option (Vec NameNo Global)) → AreNumbersOf kept.numbers kept.own → IsWay kept.numbers new by → IsNumberedBy kept new (numbered_by by (placed_file kept.tree))
  numbered_way kept new by numbers way = λ k file is. (go (placed_file is.own_tree) is.is.0 (file_no k) file.bytes known_names is.is.1 is.is.2 kept.numbers by numbers way is.numbered)
    where
      go : (own_tree : PlacedFile) (tokens : List Token) (number : FileNo) (text : List ℕ) (known : List (List ℕ)) → Lexed number text known tokens kept.own → IsPlacedFile tokens own_tree → (old by : Option (Vec NameNo Global)) → AreNumbersOf old kept.own → IsWay old new by → placed_file kept.tree ≡ numbered_by old own_tree → numbered_by by (placed_file kept.tree) ≡ renumbered_file new own_tree
      go own_tree tokens number text known l is None None numbers way e = absurd way
      go own_tree tokens number text known l is None (Some by) numbers way e = ap (renumbered_file by.items) e ∙ ap (λ ns. renumbered_file ns own_tree) way
      go own_tree tokens number text known l is (Some old) None numbers way e = e ∙ ap (λ ns. renumbered_file ns own_tree) way
      go own_tree tokens number text known l is (Some old) (Some by) numbers way e =
          ap (renumbered_file by.items) e
          ∙ tree_twice number text known tokens kept.own own_tree old.items by.items new l is (ap length numbers.1 ∙ numbers_long numbers.0 kept.own) way
