-- Items put after tokens one after another.
use Rattle.std.proofs.Common.{◌≡◌, ℕ, ◌+◌, ◌<◌, ◌≤◌, List, [], ◌∷◌, ◌++◌, length, drop, get_or, sym, ap, ◌∙◌, append_assoc}
use Rattle.std.proofs.lemmas.List.{drop_more}
use Rattle.std.proofs.Math.ListN.{drop_of_length-le}
use Rattle.jn_trees.specs.declared.token.TokenKind.{TokenKind}

-- a step of a loop, where F spells the items that are left and G one of them
pub put_more : {X : Type 0} (F : List X → List TokenKind) (G : X → List TokenKind) (step : (x : X) (xs : List X) → F (x ∷ xs) ≡ G x ++ F xs) (xs : List X) (i : ℕ) (d x : X) (old new : List TokenKind) → i < length xs → x ≡ get_or xs i d → new ≡ old ++ G x → new ++ F (drop (i + 1) xs) ≡ old ++ F (drop i xs)
put_more F G step xs i d x old new lt is n =
    ap (λ k. k ++ F (drop (i + 1) xs)) n
    ∙ append_assoc old (G x) (F (drop (i + 1) xs))
    ∙ ap (λ k. old ++ k) (ap (λ y. G y ++ F (drop (i + 1) xs)) is ∙ sym (step (get_or xs i d) (drop (i + 1) xs)) ∙ sym (ap F (drop_more xs i d lt)))

-- and its end
pub put_none : {X : Type 0} (F : List X → List TokenKind) (xs : List X) (i : ℕ) → length xs ≤ i → F (drop i xs) ≡ F []
put_none F xs i le = ap F (drop_of_length-le xs le)
