-- Where the table stops no file goes on.
use Rattle.std.proofs.Common.{◌≡◌, ℕ, ◌+◌, ◌<◌, List, [], ◌∷◌, ◌++◌, length, take, refl, sym, ap, ◌∙◌, subst, arith, ◌⊎◌, inl, inr, ◌≤◌, drop, Option, Some, None, Bool, true, false}
use Rattle.std.proofs.lemmas.List.{take-append-drop, take_all}
use Rattle.jn_trees.specs.declared.token.TokenKind.{TokenKind}
use Rattle.jn_trees.specs.Trees.{SourceTree}
use Rattle.jn_trees.specs.Spelling.{spell_file}
use Rattle.jn_trees.specs.WellFormed.{GoodFile}
use Rattle.jn_follow.specs.declared.frame.Frame.{Frame}
use Rattle.jn_follow.specs.declared.frame.Frame.TheVariants.{Start}
use Rattle.jn_follow.specs.Follow.{Next, bind, run, may_end}
use Rattle.jn_follow.specs.Place.{from_start, Whole, IsStop, NoFileBegins}
use Rattle.jn_follow.proofs.Steps.{run_append}
use Rattle.jn_follow.proofs.Files.{file_taken}

pub some_none : (st : List Frame) → ◌≡◌ {A = Next} (Some st) None → ⊥
some_none st h = cc

same_some : (a b : List Frame) → ◌≡◌ {A = Next} (Some a) (Some b) → a ≡ b
same_some a b h = cc

true_false : true ≡ false → ⊥
true_false h = cc

pub taken : (f : SourceTree) → GoodFile f → Whole (spell_file f)
taken f g = file_taken f g

pub cut : (ts us rest : List TokenKind) → from_start ts ≡ None → us ≡ ts ++ rest → from_start us ≡ None
cut ts us rest h e =
    ap (λ x. from_start x) e
    ∙ run_append ts rest (Start ∷ [])
    ∙ ap (λ x. bind x (run rest)) h

pub none_by : (ts : List TokenKind) (n : ℕ) (stack : List Frame) → ((n < length ts) × (from_start (take (n + 1) ts) ≡ None)) ⊎ ((n ≡ length ts) × (may_end stack ≡ false)) → n < length ts → from_start (take (n + 1) ts) ≡ None
none_by ts n stack (inl k) h = k.1
none_by ts n stack (inr k) h = absurd (omega (arith, h, k.0))

pub none_begins : (ts : List TokenKind) (n : ℕ) → IsStop ts n → n < length ts → NoFileBegins (take (n + 1) ts)
none_begins ts n s h f rest g e =
    let whole = file_taken f g in
    some_none whole.0 (sym whole.1 ∙ cut (take (n + 1) ts) (spell_file f) rest (none_by ts n s.stack s.stops h) e)

-- at the end of the text, too, the tokens are no file
pub no_whole : (ts : List TokenKind) (n : ℕ) (stack : List Frame) → from_start (take n ts) ≡ Some stack → ((n < length ts) × (from_start (take (n + 1) ts) ≡ None)) ⊎ ((n ≡ length ts) × (may_end stack ≡ false)) → Whole ts → ⊥
no_whole ts n stack t (inl k) w = some_none w.0 (sym w.1 ∙ cut (take (n + 1) ts) ts (drop (n + 1) ts) k.1 (sym (take-append-drop (n + 1) ts)))
no_whole ts n stack t (inr k) w =
    let all : take n ts ≡ ts = take_all n ts (omega (arith, k.0)) in
    let one : stack ≡ w.0 = same_some stack w.0 (sym t ∙ ap (λ x. from_start x) all ∙ w.1) in
    true_false (sym w.2 ∙ ap (λ x. may_end x) (sym one) ∙ k.1)

pub no_file : (ts : List TokenKind) (n : ℕ) → IsStop ts n → (f : SourceTree) → GoodFile f → spell_file f ≡ ts → ⊥
no_file ts n s f g e = no_whole ts n s.stack s.taken s.stops (subst (λ x. Whole x) e (file_taken f g))
