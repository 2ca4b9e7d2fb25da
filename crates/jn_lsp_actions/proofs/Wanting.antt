-- Slots at which rows want null, one list of them after the other.
use Rattle.std.proofs.Common.{◌≡◌, ℕ, suc, List, [], ◌∷◌, ◌++◌, map, Some, refl, ap, ◌∙◌, append_assoc}
use Rattle.std.specs.Prelude.{flat_map, slice_get}
use Rattle.jn_base.specs.declared.place.Span.{Span}
use Rattle.jn_contrib.specs.Entries.{AreOverriders}
use Rattle.jn_contrib.specs.declared.listed.Overrider.{Overrider}
use Rattle.jn_notes.specs.declared.pairs.Part.{Part}
use Rattle.jn_points.specs.Lookup.{method_at}
use Rattle.jn_points.specs.declared.program.Program.{Program}
use Rattle.jn_quals.specs.Qualifier.{Qualifier}
use Rattle.jn_transfer.specs.Pairs.{under}
use Rattle.jn_lsp_actions.specs.Own.{all_wants, listed_wants, method_wants}

-- what is left of a list is put after its next part
pub next_slots : (old one a rest whole : List ℕ) → one ≡ old ++ a → old ++ (a ++ rest) ≡ whole → one ++ rest ≡ whole
next_slots old one a rest whole h k = ap (λ x. x ++ rest) h ∙ append_assoc old a rest ∙ k

-- one part after the other
pub both_want : (old one two a b : List ℕ) → one ≡ old ++ a → two ≡ one ++ b → two ≡ old ++ (a ++ b)
both_want old one two a b h k = k ∙ ap (λ x. x ++ b) h ∙ append_assoc old a b

-- the listed methods are those that override
module _ (s : List Qualifier) (P : Program) (span : Span) (part : Part) where
  each_wants : (list : List Overrider) → ((j : ℕ) (o : Overrider) → slice_get list j ≡ Some o → o.under ≡ under P o.method)
      → flat_map (listed_wants s P span part) list ≡ flat_map (λ m. method_wants s P span part (method_at P m) (under P m)) (map (λ (o : Overrider). o.method) list)
  each_wants [] each = refl
  each_wants (o ∷ list) each = λ i. method_wants s P span part (method_at P o.method) (each 0 o refl i) ++ each_wants list (λ j other e. each (suc j) other e) i

  pub pairs_want : (list : List Overrider) (old new : List ℕ) → AreOverriders P list → new ≡ old ++ flat_map (listed_wants s P span part) list → new ≡ old ++ all_wants s P span part
  pairs_want list old new are h =
      h ∙ ap (λ x. old ++ x) (each_wants list are.under ∙ ap (flat_map (λ m. method_wants s P span part (method_at P m) (under P m))) are.methods)
