-- Files that have trees have names: at least the known ones.
use Rattle.std.proofs.Common.{◌≡◌, ℕ, ◌+◌, List, [], ◌∷◌, ◌++◌, refl, sym, ◌∙◌, subst}
use Rattle.jn_trees.specs.declared.token.Token.{Token}
use Rattle.jn_places.specs.Placed.{PlacedFile}
use Rattle.jn_known.specs.Known.{known_names}
use Rattle.jn_lexer.proofs.Reading.{after_extends}
use Rattle.jn_front.specs.declared.source.SourceFile.{SourceFile}
use Rattle.jn_front.specs.Phases.{AreParsed, LexedFrom}
use Rattle.jn_phases.specs.Phases.{AreTreesOrNone}

abbrev AreSome : List (List ℕ) → Type 0
AreSome names = names ≡ [] → ⊥

front_some : (xs ys : List (List ℕ)) → AreSome xs → AreSome (xs ++ ys)
front_some [] ys some e = some refl
front_some (x ∷ xs) ys some e = cc

still_some : (k : ℕ) (names : List (List ℕ)) (files : List SourceFile) (tss : List (List Token)) (last : List (List ℕ)) → LexedFrom k names files tss last → AreSome names → AreSome last
still_some k names [] [] last lexed some e = some (sym lexed ∙ e)
still_some k names [] (ts ∷ tss) last lexed some e = lexed
still_some k names (file ∷ files) [] last lexed some e = lexed
still_some k names (file ∷ files) (ts ∷ tss) last (new, lexed, rest) some e =
    let more = after_extends names lexed.pieces in
    still_some (k + 1) new files tss last rest (subst AreSome (sym (lexed.names_are ∙ more.1)) (front_some names more.0 some)) e

known_some : AreSome known_names
known_some e = cc

pub trees_or_none : (files : List SourceFile) (names : List (List ℕ)) (tokens : List (List Token)) (trees : List PlacedFile) → AreParsed files names tokens trees → AreTreesOrNone files names trees
trees_or_none files [] tokens trees parsed = absurd (still_some 0 known_names files tokens [] parsed.lexed known_some refl)
trees_or_none files (name ∷ names) tokens trees parsed = (tokens, parsed)
