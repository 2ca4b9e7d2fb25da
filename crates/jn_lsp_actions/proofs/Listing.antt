-- Diagnostics, one after the other.
use Rattle.std.proofs.Common.{◌≡◌, List, [], ◌∷◌, ◌++◌, ap, ◌∙◌, append_assoc}
use Rattle.jn_lsp_text.specs.declared.reply.Diagnostic.{Diagnostic}

-- what is left of a list is put after its next part
pub next_part : (old one a rest whole : List Diagnostic) → one ≡ old ++ a → old ++ (a ++ rest) ≡ whole → one ++ rest ≡ whole
next_part old one a rest whole h k = ap (λ x. x ++ rest) h ∙ append_assoc old a rest ∙ k

pub next_diagnostic : (old one rest whole : List Diagnostic) (d : Diagnostic) → one ≡ old ++ d ∷ [] → old ++ (d ∷ rest) ≡ whole → one ++ rest ≡ whole
next_diagnostic old one rest whole d h k = next_part old one (d ∷ []) rest whole h k
