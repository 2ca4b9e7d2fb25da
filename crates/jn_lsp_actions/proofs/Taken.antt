-- What a written `@Nullable` says.
use Rattle.std.proofs.Common.{◌≡◌, ℕ, Bool, true, false, not, ◌||◌, cond, refl, sym, subst}
use Rattle.jn_heads.specs.Extract.{notes_by}
use Rattle.jn_heads.specs.Types.{field_qual, is_written, slot_of, written_qual}
use Rattle.jn_heads.specs.declared.head.Notes.{Notes}
use Rattle.jn_known.specs.Known.{nullable_name}
use Rattle.jn_quals.specs.Qualifier.{Qualifier}
use Rattle.jn_lsp_actions.specs.Taking.{SaysNull, TakesNull}

-- some annotation stands there
second : (a b c d e f : Bool) → b ≡ true → (a || b || c || d || e || f) ≡ true
second true true c d e f h = refl
second false true c d e f h = refl
second a false c d e f h = absurd (clash h)
  where
    clash : false ≡ true → ⊥
    clash e = cc

-- so that the slot is written
kept : (infers : Bool) (n : Notes) (q : Qualifier) → is_written n ≡ true → slot_of infers n q ≡ record { start = q; inferred = false }
kept false n q h = refl
kept true n q h = λ i. cond (not (h i)) (record { start = record { null = false; committed = false; free = false }; inferred = true }) (record { start = q; inferred = false })

says : (n : Notes) (q : Qualifier) (infers : Bool) → is_written n ≡ true → q.null ≡ true → TakesNull (slot_of infers n q)
says n q infers h null = subst TakesNull (sym (kept infers n q h)) (null, refl)

written : (has : ℕ → Bool) → has nullable_name ≡ true → is_written (notes_by has) ≡ true
written has h = second (notes_by has).non_null (has nullable_name) (notes_by has).initialized (notes_by has).under (notes_by has).unknown (notes_by has).monotonic h

pub values_say : SaysNull written_qual
values_say has infers h = says (notes_by has) (written_qual (notes_by has)) infers (written has h) h

pub fields_say : SaysNull field_qual
fields_say has infers h = says (notes_by has) (field_qual (notes_by has)) infers (written has h) (λ i. h i || (notes_by has).monotonic)
