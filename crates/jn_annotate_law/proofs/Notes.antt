-- The notes that spell qualifiers.
use Rattle.std.proofs.Common.{◌≡◌, ℕ, Bool, true, false, cond, List, [], ◌∷◌, ◌++◌, refl}
use Rattle.std.specs.Prelude.{codes, eqb}
use Rattle.std.specs.List.{list_all}
use Rattle.jn_known.specs.Known.{known_names}
use Rattle.jn_quals.specs.Qualifier.{Qualifier}
use Rattle.jn_splice_law.specs.Woven.{is_ascii, Note, import_kinds, import_text, IsLineEnd, IsNamed, IsNote, AreNotes}
use Rattle.jn_lexer.specs.Characters.{is_line_end, AllAre}
use Rattle.jn_lexer.specs.Lexemes.{Word, IsSpelling}
use Rattle.jn_splice_law.proofs.Wording.{non_null_is, nullable_is, initialized_is, under_is, unknown_is, org_is, checkerframework_is, checker_is, nullness_is, initialization_is, qual_is}
use Rattle.jn_trees.specs.Spelling.{spell_import}
use Rattle.jn_annotate.specs.declared.imports.Package.{Package}
use Rattle.jn_annotate.specs.declared.imports.Package.TheVariants.{Nullness, Initialization}
use Rattle.jn_annotate.specs.Imports.{import_line, import_of, line_end, line_feed}
use Rattle.jn_annotate.specs.Words.{nullity_text, initialization_text, both_texts, initialization_name}
use Rattle.jn_annotate_law.specs.Trees.{nullity_names, both_names}
use Rattle.jn_annotate_law.proofs.Weaves.{Spells}

-- the names have the known ones, by their numbers
abbrev pub HasKnown : List (List ℕ) → Type 0
HasKnown old = (text : List ℕ) (n : ℕ) → IsNamed known_names text n → IsNamed old text n

-- ---- lines that import annotations

abbrev pub note : List ℕ → ℕ → Note
note name n = record { name = name; number = record { 0 = n } }

abbrev pub org_note : Note
org_note = note (codes "org") 23

-- the parts of a package's name after the first
abbrev pub rest_notes : Package → List Note
rest_notes Nullness = note (codes "checkerframework") 24 ∷ note (codes "checker") 26 ∷ note (codes "nullness") 27 ∷ note (codes "qual") 28 ∷ []
rest_notes Initialization = note (codes "checkerframework") 24 ∷ note (codes "checker") 26 ∷ note (codes "initialization") 29 ∷ note (codes "qual") 28 ∷ []

pub line_is : (p : Package) → import_text org_note (rest_notes p) ≡ import_line p
line_is Nullness = refl
line_is Initialization = refl

pub line_kinds : (p : Package) → import_kinds org_note (rest_notes p) ≡ spell_import (import_of p)
line_kinds Nullness = refl
line_kinds Initialization = refl

pub line_end_is : (text : List ℕ) → IsLineEnd (line_end text)
unfolding is_line_end
line_end_is [] = (refl, tt)
line_end_is (c ∷ cs) = here (eqb c 10) (eqb c 13) (line_end_is cs)
  where
    feed : (xs : List ℕ) → AllAre is_line_end (line_feed xs)
    feed [] = tt
    feed (x ∷ xs) = at_feed (eqb x 10)
      where
        at_feed : (b : Bool) → AllAre is_line_end (cond b (10 ∷ []) [])
        at_feed true = (refl, tt)
        at_feed false = tt

    here : (a b : Bool) → IsLineEnd (line_end cs) → IsLineEnd (cond a (10 ∷ []) (cond b (13 ∷ line_feed cs) (line_end cs)))
    here true b h = (refl, tt)
    here false true h = (refl, feed cs)
    here false false h = h

module _ (old : List (List ℕ)) (known : HasKnown old) where
  part_note : (name : List ℕ) (n : ℕ) → list_all is_ascii name ≡ true → IsSpelling (Word name) name → IsNamed known_names name n → IsNote old (note name n)
  part_note name n a h k = record { ascii = a; spelled = h; named = known name n k }

  pub notes_known : (p : Package) → AreNotes old (org_note ∷ rest_notes p)
  notes_known Nullness = (
    part_note (codes "org") 23 refl org_is (refl, refl),
    (
      part_note (codes "checkerframework") 24 refl checkerframework_is (refl, refl),
      (part_note (codes "checker") 26 refl checker_is (refl, refl), (part_note (codes "nullness") 27 refl nullness_is (refl, refl), (part_note (codes "qual") 28 refl qual_is (refl, refl), tt))),
    ),
  )
  notes_known Initialization = (
    part_note (codes "org") 23 refl org_is (refl, refl),
    (
      part_note (codes "checkerframework") 24 refl checkerframework_is (refl, refl),
      (part_note (codes "checker") 26 refl checker_is (refl, refl), (part_note (codes "initialization") 29 refl initialization_is (refl, refl), (part_note (codes "qual") 28 refl qual_is (refl, refl), tt))),
    ),
  )

  non_null_note : IsNote old (record { name = codes "NonNull"; number = record { 0 = 17 } })
  non_null_note = record { ascii = refl; spelled = non_null_is; named = known (codes "NonNull") 17 (refl, refl) }

  nullable_note : IsNote old (record { name = codes "Nullable"; number = record { 0 = 18 } })
  nullable_note = record { ascii = refl; spelled = nullable_is; named = known (codes "Nullable") 18 (refl, refl) }

  initialized_note : IsNote old (record { name = codes "Initialized"; number = record { 0 = 19 } })
  initialized_note = record { ascii = refl; spelled = initialized_is; named = known (codes "Initialized") 19 (refl, refl) }

  under_note : IsNote old (record { name = codes "UnderInitialization"; number = record { 0 = 20 } })
  under_note = record { ascii = refl; spelled = under_is; named = known (codes "UnderInitialization") 20 (refl, refl) }

  unknown_note : IsNote old (record { name = codes "UnknownInitialization"; number = record { 0 = 21 } })
  unknown_note = record { ascii = refl; spelled = unknown_is; named = known (codes "UnknownInitialization") 21 (refl, refl) }

  nullity_of : (n c f : Bool) → Spells old nullity_text nullity_names (record { null = n; committed = c; free = f })
  nullity_of true c f = record { note = record { name = codes "Nullable"; number = record { 0 = 18 } }; more = []; known = (nullable_note, tt); text_is = refl; kinds_is = refl }
  nullity_of false c f = record { note = record { name = codes "NonNull"; number = record { 0 = 17 } }; more = []; known = (non_null_note, tt); text_is = refl; kinds_is = refl }

  pub nullity_spells : (q : Qualifier) → Spells old nullity_text nullity_names q
  nullity_spells q = nullity_of q.null q.committed q.free

  -- the one note of a receiver
  pub record Init (q : Qualifier) : Type 0 where
    pub note : Note
    pub is_note : IsNote old note
    pub text_is : initialization_text q ≡ codes "@" ++ (note.name ++ codes " ")
    pub number_is : note.number ≡ initialization_name q

  init_of : (n c f : Bool) → Init (record { null = n; committed = c; free = f })
  init_of n c false = record { note = record { name = codes "Initialized"; number = record { 0 = 19 } }; is_note = initialized_note; text_is = refl; number_is = refl }
  init_of n true true = record { note = record { name = codes "UnknownInitialization"; number = record { 0 = 21 } }; is_note = unknown_note; text_is = refl; number_is = refl }
  init_of n false true = record { note = record { name = codes "UnderInitialization"; number = record { 0 = 20 } }; is_note = under_note; text_is = refl; number_is = refl }

  pub init_note : (q : Qualifier) → Init q
  init_note q = init_of q.null q.committed q.free

  spells_of : (n c f : Bool) → Spells old initialization_text (λ q. initialization_name q ∷ []) (record { null = n; committed = c; free = f })
  spells_of n c false = record { note = record { name = codes "Initialized"; number = record { 0 = 19 } }; more = []; known = (initialized_note, tt); text_is = refl; kinds_is = refl }
  spells_of n true true = record { note = record { name = codes "UnknownInitialization"; number = record { 0 = 21 } }; more = []; known = (unknown_note, tt); text_is = refl; kinds_is = refl }
  spells_of n false true = record { note = record { name = codes "UnderInitialization"; number = record { 0 = 20 } }; more = []; known = (under_note, tt); text_is = refl; kinds_is = refl }

  pub init_spells : (q : Qualifier) → Spells old initialization_text (λ q. initialization_name q ∷ []) q
  init_spells q = spells_of q.null q.committed q.free

  both_of : (n c f : Bool) → Spells old both_texts both_names (record { null = n; committed = c; free = f })
  both_of true c false = record { note = record { name = codes "Nullable"; number = record { 0 = 18 } }; more = record { name = codes "Initialized"; number = record { 0 = 19 } } ∷ []; known = (nullable_note, (initialized_note, tt)); text_is = refl; kinds_is = refl }
  both_of true true true = record { note = record { name = codes "Nullable"; number = record { 0 = 18 } }; more = record { name = codes "UnknownInitialization"; number = record { 0 = 21 } } ∷ []; known = (nullable_note, (unknown_note, tt)); text_is = refl; kinds_is = refl }
  both_of true false true = record { note = record { name = codes "Nullable"; number = record { 0 = 18 } }; more = record { name = codes "UnderInitialization"; number = record { 0 = 20 } } ∷ []; known = (nullable_note, (under_note, tt)); text_is = refl; kinds_is = refl }
  both_of false c false = record { note = record { name = codes "NonNull"; number = record { 0 = 17 } }; more = record { name = codes "Initialized"; number = record { 0 = 19 } } ∷ []; known = (non_null_note, (initialized_note, tt)); text_is = refl; kinds_is = refl }
  both_of false true true = record { note = record { name = codes "NonNull"; number = record { 0 = 17 } }; more = record { name = codes "UnknownInitialization"; number = record { 0 = 21 } } ∷ []; known = (non_null_note, (unknown_note, tt)); text_is = refl; kinds_is = refl }
  both_of false false true = record { note = record { name = codes "NonNull"; number = record { 0 = 17 } }; more = record { name = codes "UnderInitialization"; number = record { 0 = 20 } } ∷ []; known = (non_null_note, (under_note, tt)); text_is = refl; kinds_is = refl }

  pub both_spells : (q : Qualifier) → Spells old both_texts both_names q
  both_spells q = both_of q.null q.committed q.free
