-- The slots that are left without words, one after the other.
use Rattle.std.proofs.Common.{◌≡◌, ℕ, suc, ◌+◌, Bool, cond, List, [], ◌∷◌, ◌++◌, length, sym, ap, ◌∙◌, arith}
use Rattle.std.specs.Prelude.{filter}
use Rattle.std.proofs.lemmas.List.Elements.{filter-append}
use Rattle.jn_quals.specs.Qualifier.{Qualifier}
use Rattle.jn_points.specs.declared.program.Program.{Program}
use Rattle.jn_points.specs.Members.{below}
use Rattle.jn_annotate.specs.Annotated.{has_no_spelling, unspelled_slots}

module _ (P : Program) (s : List Qualifier) where
  pub next_left : (old new : List ℕ) (k : ℕ) (b : Bool) → b ≡ has_no_spelling P s k → new ≡ old ++ cond b (k ∷ []) [] → old ≡ filter (has_no_spelling P s) (below k) → new ≡ filter (has_no_spelling P s) (below (k + 1))
  next_left old new k b is made h =
      made ∙ ap (λ x. x ++ cond b (k ∷ []) []) h ∙ ap (λ c. filter (has_no_spelling P s) (below k) ++ cond c (k ∷ []) []) is
      ∙ sym (filter-append (has_no_spelling P s) (below k) (k ∷ []))
      ∙ ap (λ n. filter (has_no_spelling P s) (below n)) (let e : suc k ≡ k + 1 = omega arith in e)

  pub all_left : (left : List ℕ) (n : ℕ) → n ≡ length s → length s ≡ length P.slots → left ≡ filter (has_no_spelling P s) (below n) → left ≡ unspelled_slots P s
  all_left left n e long h = h ∙ ap (λ k. filter (has_no_spelling P s) (below k)) (e ∙ long)
