-- Changes, one after the other.
use Rattle.std.proofs.Common.{◌≡◌, ℕ, ◌+◌, ◌<◌, List, [], ◌∷◌, ◌++◌, length, get_or, take, refl, sym, subst}
use Rattle.std.proofs.lemmas.List.{take_more}
use Rattle.jn_lsp_text.specs.declared.encoding.Encoding.{Encoding}
use Rattle.jn_lsp_text.specs.declared.message.Change.{Change}
use Rattle.jn_lsp.specs.Edits.{AreChanged, IsChanged}

one_more : (encoding : Encoding) (changes : List Change) (change : Change) (text mid made : List ℕ) → AreChanged encoding changes text mid → IsChanged encoding change mid made → AreChanged encoding (changes ++ change ∷ []) text made
one_more encoding [] change text mid made are is = (made, subst (λ t. IsChanged encoding change t made) are is, refl)
one_more encoding (first ∷ changes) change text mid made are is = (are.0, are.1, one_more encoding changes change are.0 mid made are.2 is)

pub changed_more : (encoding : Encoding) (changes : List Change) (item : Change) (at : ℕ) (text mid same made : List ℕ) → at < length changes → item ≡ get_or changes at item → same ≡ mid → AreChanged encoding (take at changes) text mid → IsChanged encoding item same made → AreChanged encoding (take (at + 1) changes) text made
changed_more encoding changes item at text mid same made lt is e are changed =
    let here = subst (λ t. IsChanged encoding (get_or changes at item) t made) e (subst (λ c. IsChanged encoding c same made) is changed) in
    subst (λ cs. AreChanged encoding cs text made) (sym (take_more changes at item lt)) (one_more encoding (take at changes) (get_or changes at item) text mid made are here)
