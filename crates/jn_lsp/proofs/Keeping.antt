-- What is told of a file where a report ends before the rules.
use Rattle.std.proofs.Common.{◌≡◌, ◌<◌, List, [], ◌∷◌, length, refl, ap, ◌∙◌, arith}
use Rattle.jn_lsp_text.specs.declared.reply.Diagnostic.{Diagnostic}
use Rattle.jn_lsp.specs.Reported.{or_else}

own_first : (own other : List Diagnostic) → 0 < length own → own ≡ or_else own other
own_first [] other lt = absurd (omega (arith, lt))
own_first (first ∷ rest) other lt = refl

other_then : (own other : List Diagnostic) → length own ≡ 0 → other ≡ or_else own other
other_then [] other e = refl
other_then (first ∷ rest) other e = absurd (omega (arith, e))

-- the file has rows
pub told_rows : (own found other : List Diagnostic) → own ≡ found → 0 < length own → own ≡ or_else found other
told_rows own found other same lt = own_first own other lt ∙ ap (λ l. or_else l other) same

-- it has none
pub told_kept : (own found other kept : List Diagnostic) → own ≡ found → length own ≡ 0 → kept ≡ other → kept ≡ or_else found other
told_kept own found other kept same e is = is ∙ other_then own other e ∙ ap (λ l. or_else l other) same
