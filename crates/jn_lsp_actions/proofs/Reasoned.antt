-- Hints with what tells why, one after the other.
use Rattle.std.proofs.Common.{◌≡◌, ℕ, ◌+◌, ◌<◌, ◌≤◌, List, [], ◌∷◌, ◌++◌, length, take, get_or, map, refl, sym, subst}
use Rattle.std.proofs.lemmas.List.{take_more, take_all}
use Rattle.jn_env.specs.Order.{Table}
use Rattle.jn_front.specs.declared.source.SourceFile.{SourceFile}
use Rattle.jn_lsp_text.specs.declared.encoding.Encoding.{Encoding}
use Rattle.jn_lsp_text.specs.declared.reply.Hint.{Hint}
use Rattle.jn_points.specs.declared.program.Program.{Program}
use Rattle.jn_quals.specs.Qualifier.{Qualifier}
use Rattle.jn_lsp_actions.specs.Annotating.{bare}
use Rattle.jn_lsp_actions.specs.Hinted.{AreExplained, IsExplained}
use Rattle.jn_lsp_actions.specs.declared.hints.SlotHint.{SlotHint}

module _ (encoding : Encoding) (files : List SourceFile) (names : List (List ℕ)) (P : Program) (s : List Qualifier) (tables : List Table) where
  both_more : (shown : List SlotHint) (one : SlotHint) (hints : List Hint) (hint : Hint) → AreExplained encoding files names P s tables shown hints → IsExplained encoding files names P s tables one hint → AreExplained encoding files names P s tables (shown ++ one ∷ []) (hints ++ hint ∷ [])
  both_more [] one [] hint h g = (g, tt)
  both_more [] one (k ∷ hints) hint h g = absurd h
  both_more (r ∷ shown) one [] hint h g = absurd h
  both_more (r ∷ shown) one (k ∷ hints) hint h g = (h.0, both_more shown one hints hint h.1 g)

  pub hint_more : (shown : List SlotHint) (i : ℕ) (d : SlotHint) (hint : Hint) (old new : List Hint) → i < length shown → IsExplained encoding files names P s tables (get_or shown i d) hint → new ≡ old ++ hint ∷ []
      → AreExplained encoding files names P s tables (take i shown) old → AreExplained encoding files names P s tables (take (i + 1) shown) new
  hint_more shown i d hint old new lt g h e =
      subst (AreExplained encoding files names P s tables (take (i + 1) shown)) (sym h)
      (subst (λ (hs : List SlotHint). AreExplained encoding files names P s tables hs (old ++ hint ∷ [])) (sym (take_more shown i d lt))
      (both_more (take i shown) (get_or shown i d) old hint e g))

  pub hints_done : (shown : List SlotHint) (i : ℕ) (hints : List Hint) → length shown ≤ i → AreExplained encoding files names P s tables (take i shown) hints → AreExplained encoding files names P s tables shown hints
  hints_done shown i hints le h = subst (λ (hs : List SlotHint). AreExplained encoding files names P s tables hs hints) (take_all i shown le) h

  pub no_hints : (shown : List SlotHint) (hints : List Hint) → hints ≡ [] → AreExplained encoding files names P s tables (take 0 shown) hints
  no_hints [] hints e = subst (AreExplained encoding files names P s tables []) (sym e) tt
  no_hints (one ∷ shown) hints e = subst (AreExplained encoding files names P s tables []) (sym e) tt

  -- without what tells why they are as they were
  pub all_bare : (shown : List SlotHint) (hints : List Hint) → AreExplained encoding files names P s tables shown hints → map bare hints ≡ map (λ (one : SlotHint). bare one.hint) shown
  all_bare [] [] h = refl
  all_bare [] (hint ∷ hints) h = absurd h
  all_bare (one ∷ shown) [] h = absurd h
  all_bare (one ∷ shown) (hint ∷ hints) (each, more) = λ i. bare (each.2 i) ∷ all_bare shown hints more i
