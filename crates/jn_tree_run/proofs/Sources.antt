-- Sources by their number.
use Rattle.std.proofs.Common.{◌≡◌, ◌<◌, ◌≤◌, ℕ, zero, suc, List, [], ◌∷◌, length, get_or, Some, None, refl, sym, ap, ◌∙◌, arith}
use Rattle.std.specs.Prelude.{option_map, slice_get}
use Rattle.std.proofs.lemmas.Option.{slice_get-get_or}
use Rattle.jn_lower_stmt.specs.declared.body.Source.{Source}
use Rattle.jn_lower_stmt.specs.Sources.{source_of, sources_of}

seen_found : (ss : List Source) (i : ℕ) (s : Source) → slice_get ss i ≡ Some s → slice_get (sources_of ss) i ≡ Some (source_of s)
seen_found [] i s e = absurd (cc)
seen_found (x ∷ xs) zero s e = ap (λ o. option_map source_of o) e
seen_found (x ∷ xs) (suc i) s e = seen_found xs i s e

pub seen_there : (ss : List Source) (i : ℕ) (s : Source) → i < length ss → s ≡ get_or ss i s → slice_get (sources_of ss) i ≡ Some (source_of s)
seen_there ss i s lt is = seen_found ss i s (slice_get-get_or ss i s lt ∙ ap Some (sym is))

pub seen_past : (ss : List Source) (i : ℕ) → length ss ≤ i → slice_get (sources_of ss) i ≡ None
seen_past [] i le = refl
seen_past (x ∷ xs) zero le = absurd (omega (arith, le))
seen_past (x ∷ xs) (suc i) le = seen_past xs i (omega (arith, le))
