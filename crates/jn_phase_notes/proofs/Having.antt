-- Each row J7 has a note.
use Rattle.std.proofs.Common.{◌≡◌, ◌⊎◌, ⊎_elim, ℕ, Bool, true, false, cond, ◌&&◌, List, [], ◌∷◌, Option, Some, refl, sym, ap, ◌∙◌, subst, map}
use Rattle.std.specs.Prelude.{Contains, eqb, find}
use Rattle.std.proofs.lemmas.Bool.{eq-eqb}
use Rattle.jn_base.specs.declared.code.Code.{Code}
use Rattle.jn_base.specs.declared.code.Code.TheVariants.{J7}
use Rattle.jn_base.specs.declared.place.Row.{Row}
use Rattle.jn_base.specs.declared.place.Span.{Span}
use Rattle.jn_places.specs.Placed.{PlacedFile}
use Rattle.jn_heads.specs.Extract.{heads}
use Rattle.jn_classtable.specs.Table.{table}
use Rattle.jn_note_words.specs.declared.note.Note.{Note}
use Rattle.jn_notes.specs.Asked.{same_span}
use Rattle.jn_type_notes.specs.Wording.{note_span, type_notes}
use Rattle.jn_type_notes.proofs.Containing.{in_cases, none_in}
use Rattle.jn_phase_notes.specs.Stops.{one_note}
use Rattle.jn_phase_notes.specs.Trees.{gathered, notes_by, row_notes}
use Rattle.jn_phase_notes.specs.Wanting.{note_at}

itself : (a b c : ℕ) → (eqb a a && eqb b b && eqb c c) ≡ true
itself a b c = λ i. eq-eqb a a refl i && eq-eqb b b refl i && eq-eqb c c refl i

same_itself : (x y : Span) → x ≡ y → same_span x y ≡ true
same_itself x y e = ap (λ (z : Span). same_span x z) (sym e) ∙ itself x.file.0 x.from x.to

-- where one stands there
pub found_at : (notes : List Note) (span : Span) → Contains (map note_span notes) span → (note : Note) × (note_at notes span ≡ Some note)
found_at [] span h = absurd (none_in span h)
found_at (n ∷ ns) span h = by (same_span n.span span) refl (in_cases n.span span (map note_span ns) h) (λ c. found_at ns span c)
  where
    never : true ≡ false → ⊥
    never e = cc

    by : (b : Bool) → same_span n.span span ≡ b → (n.span ≡ span) ⊎ Contains (map note_span ns) span → (Contains (map note_span ns) span → (note : Note) × (note_at ns span ≡ Some note)) → (note : Note) × (cond b (Some n) (note_at ns span) ≡ Some note)
    by true is k later = (n, refl)
    by false is k later = ⊎_elim (λ e. absurd (never (sym (same_itself n.span span e) ∙ is))) later k

pub has_note : (names : List (List ℕ)) (trees : List PlacedFile) (row : Row) → row.code ≡ J7 → Contains (map note_span (type_notes names trees)) row.span → (note : Note) × ((row_notes names trees row).shown ≡ note ∷ [])
has_note names trees row c h =
    let f : (note : Note) × (note_at (type_notes names trees) row.span ≡ Some note) = found_at (type_notes names trees) row.span h in
    subst (λ (code : Code). (note : Note) × ((notes_by names (heads trees) (table (heads trees)) (gathered true names trees) row.span code).shown ≡ note ∷ [])) (sym c)
    (f.0, ap (λ (o : Option Note). (one_note o).shown) f.1)
