-- A header told line by line.
use Rattle.std.proofs.Common.{◌≡◌, ℕ, ◌+◌, ◌-◌, List, [], ◌∷◌, ◌++◌, length, take, drop, refl, sym, ap, ◌∙◌, arith, append-nil, append_assoc, length-take, subst}
use Rattle.std.specs.List.{All}
use Rattle.std.proofs.lemmas.List.{take-append-drop, take_rest, drop-drop}
use Rattle.std.proofs.lemmas.List.Elements.{All-nil, All-head, All-tail}
use Rattle.jn_lsp_frames.specs.declared.header.Said.{Said}
use Rattle.jn_lsp_frames.specs.declared.header.Said.TheVariants as said
use Rattle.jn_lsp_frames.specs.Header.{IsLine, ended, IsHeader, IsOther}
use Rattle.jn_lsp_frames.specs.Lines.{HasNoEnd, EndsAt, Heard}
use Rattle.jn_lsp_frames.proofs.Lines.{one_line, ended_first, no_line, empty_ends, end_of_first}

-- some lines were told, and the rest is the others, and the empty line
pub record Told (lines : List (List ℕ)) (rest : List ℕ) (so_far : Said) : Type 0 where
  pub done : List (List ℕ)
  pub others : List (List ℕ)
  pub parts : lines ≡ done ++ others
  pub each : All IsLine others
  pub rest_is : rest ≡ ended others ++ 13 ∷ 10 ∷ []
  pub heard : Heard done so_far

pub told_none : (lines : List (List ℕ)) (block : List ℕ) → IsHeader lines block → Told lines block said.Nothing
told_none lines block is = record { done = []; others = lines; parts = refl; each = is.each; rest_is = is.parts; heard = All-nil IsOther }

line_parts : (rest : List ℕ) (at : ℕ) → EndsAt rest at → rest ≡ take at rest ++ 13 ∷ 10 ∷ drop (at + 2) rest
line_parts rest at is = sym (take-append-drop at rest) ∙ ap (λ l. take at rest ++ l) is.behind

pub never_open : (lines : List (List ℕ)) (rest : List ℕ) (so_far : Said) → HasNoEnd rest → Told lines rest so_far → ⊥
never_open lines rest so_far none t = end_of_first t.others rest [] none t.rest_is

last_of : (others : List (List ℕ)) (rest : List ℕ) (at : ℕ) → All IsLine others → rest ≡ ended others ++ 13 ∷ 10 ∷ [] → EndsAt rest at → at ≡ 0 → others ≡ []
last_of [] rest at p e is z = refl
last_of (line ∷ lines) rest at p e is z =
    let l : IsLine line = All-head IsLine line lines p in
    let whole : take at rest ++ 13 ∷ 10 ∷ drop (at + 2) rest ≡ line ++ 13 ∷ 10 ∷ (ended lines ++ 13 ∷ 10 ∷ []) = sym (line_parts rest at is) ∙ e ∙ ended_first line lines (13 ∷ 10 ∷ []) in
    let one = one_line (take at rest) line (drop (at + 2) rest) (ended lines ++ 13 ∷ 10 ∷ []) is.none l.whole whole in
    absurd (no_line line l (sym (ap (λ n. take n rest) z) ∙ one.0))

-- the empty line stands here
pub told_all : (lines : List (List ℕ)) (rest : List ℕ) (so_far : Said) (at : ℕ) → EndsAt rest at → at ≡ 0 → Told lines rest so_far → Heard lines so_far
told_all lines rest so_far at is z t = subst (λ l. Heard l so_far) (sym (t.parts ∙ ap (λ l. t.done ++ l) (last_of t.others rest at t.each t.rest_is is z) ∙ append-nil t.done)) t.heard

record First (others : List (List ℕ)) (rest : List ℕ) (at : ℕ) : Type 0 where
  pub more : List (List ℕ)
  pub others_are : others ≡ take at rest ∷ more
  pub each : All IsLine more
  pub rest_is : drop (at + 2) rest ≡ ended more ++ 13 ∷ 10 ∷ []

first_of : (others : List (List ℕ)) (rest : List ℕ) (at : ℕ) → All IsLine others → rest ≡ ended others ++ 13 ∷ 10 ∷ [] → EndsAt rest at → (at ≡ 0 → ⊥) → First others rest at
first_of [] rest at p e is some =
    let one = one_line (take at rest) [] (drop (at + 2) rest) [] is.none empty_ends (sym (line_parts rest at is) ∙ e) in
    absurd (omega (arith, some, ap length one.0, length-take at rest, is.within))
first_of (line ∷ lines) rest at p e is some =
    let l : IsLine line = All-head IsLine line lines p in
    let whole : take at rest ++ 13 ∷ 10 ∷ drop (at + 2) rest ≡ line ++ 13 ∷ 10 ∷ (ended lines ++ 13 ∷ 10 ∷ []) = sym (line_parts rest at is) ∙ e ∙ ended_first line lines (13 ∷ 10 ∷ []) in
    let one = one_line (take at rest) line (drop (at + 2) rest) (ended lines ++ 13 ∷ 10 ∷ []) is.none l.whole whole in
    record { more = lines; others_are = ap (λ l. l ∷ lines) (sym one.0); each = All-tail IsLine line lines p; rest_is = one.1 }

-- one line more
pub told_more : (lines : List (List ℕ)) (rest line behind : List ℕ) (so_far then_ : Said) (at : ℕ) → EndsAt rest at → (at ≡ 0 → ⊥) → line ≡ take at rest → behind ≡ drop at rest → ((done : List (List ℕ)) → Heard done so_far → Heard (done ++ line ∷ []) then_) → Told lines rest so_far → Told lines (take (length behind - 2) (drop 2 behind)) then_
told_more lines rest line behind so_far then_ at is some f e next t =
    let first = first_of t.others rest at t.each t.rest_is is some in
    record {
      done = t.done ++ line ∷ [];
      others = first.more;
      parts = t.parts ∙ ap (λ l. t.done ++ l) (first.others_are ∙ ap (λ l. l ∷ first.more) (sym f)) ∙ sym (append_assoc t.done (line ∷ []) first.more);
      each = first.each;
      rest_is = take_rest behind 2 ∙ ap (drop 2) e ∙ drop-drop 2 at rest ∙ first.rest_is;
      heard = next t.done t.heard;
    }
