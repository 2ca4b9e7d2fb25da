-- Members at the front and those at the back whose places are set one after the other.
use Rattle.std.proofs.Common.{◌≡◌, ◌≤◌, ℕ, List, [], ◌∷◌, ◌++◌, length, drop, map, refl, sym, ap, ◌∙◌, append_assoc, subst, arith, zero, suc}
use Rattle.std.proofs.lemmas.List.{map-append}
use Rattle.std.specs.List.{flat_map}
use Rattle.jn_trees.specs.declared.token.Token.{Token}
use Rattle.jn_trees.specs.declared.declaration.Member.{Member}
use Rattle.jn_trees.specs.Spelling.{spell_member}
use Rattle.jn_trees.specs.Trees.{MemberTree}
use Rattle.jn_trees.specs.View.{member_view, member_views}
use Rattle.jn_places.specs.Forget.{forget_member}
use Rattle.jn_places.specs.PlacedView.{placed_member, placed_members}
use Rattle.jn_places.specs.Places.{behind, place_member, place_members}
use Rattle.jn_places.specs.Turn.{InTurn}
use Rattle.jn_places.proofs.Behind.{behind_append}
use Rattle.jn_places.proofs.Spans.{behind_drop}
use Rattle.jn_places.proofs.ViewForgotten.{members_seen}
use Rattle.jn_places.proofs.PlaceForgotten.{members_same}

spelled_append : (a b : List MemberTree) → flat_map spell_member (a ++ b) ≡ flat_map spell_member a ++ flat_map spell_member b
spelled_append [] b = refl
spelled_append (m ∷ a) b = ap (λ r. spell_member m ++ r) (spelled_append a b) ∙ sym (append_assoc (spell_member m) (flat_map spell_member a) (flat_map spell_member b))

placed_append : (ts : List Token) (a b : List MemberTree) → place_members ts (a ++ b) ≡ place_members ts a ++ place_members (behind ts (flat_map spell_member a)) b
placed_append ts [] b = refl
placed_append ts (m ∷ a) b =
    ap (λ r. place_member ts m ∷ r)
    (placed_append (behind ts (spell_member m)) a b ∙ ap (λ us. place_members (behind ts (spell_member m)) a ++ place_members us b) (sym (behind_append ts (spell_member m) (flat_map spell_member a))))

both_in_turn : (ts rest end : List Token) (front front' back back' : List Member) → InTurn ts front front' rest → InTurn rest back back' end → InTurn ts (front ++ back) (front' ++ back') end
both_in_turn ts rest end front front' back back' f b =
    let views : member_views (front ++ back) ≡ member_views front ++ member_views back = map-append member_view front back in
    let from : behind ts (flat_map spell_member (member_views front)) ≡ rest = sym f.behind in
    record {
      placed =
          map-append placed_member front' back'
          ∙ ap (λ r. r ++ placed_members back') f.placed
          ∙ ap (λ r. place_members ts (member_views front) ++ r) (b.placed ∙ ap (λ us. place_members us (member_views back)) f.behind)
          ∙ sym (ap (λ ms. place_members ts ms) views ∙ placed_append ts (member_views front) (member_views back));
      behind =
          b.behind
          ∙ ap (λ us. behind us (flat_map spell_member (member_views back))) f.behind
          ∙ sym (ap (λ ms. behind ts (flat_map spell_member ms)) views ∙ ap (behind ts) (spelled_append (member_views front) (member_views back)) ∙ behind_append ts (flat_map spell_member (member_views front)) (flat_map spell_member (member_views back)));
    }

-- members whose places were set are the same but for these
same_members : (ts rest : List Token) (old new : List Member) → InTurn ts old new rest → member_views new ≡ member_views old
same_members ts rest old new t = sym (members_seen new) ∙ ap (λ ms. map forget_member ms) t.placed ∙ members_same ts (member_views old)

drop_shorter : (n : ℕ) (ts : List Token) → length (drop n ts) ≤ length ts
drop_shorter zero ts = omega arith
drop_shorter (suc n) [] = omega arith
drop_shorter (suc n) (t ∷ ts) =
    let h = drop_shorter n ts in
    omega (arith, h)

-- two ends of one list that are as long are one
same_end : (m n : ℕ) (ts : List Token) → length (drop m ts) ≡ length (drop n ts) → drop m ts ≡ drop n ts
same_end zero zero ts e = refl
same_end zero (suc n) [] e = refl
same_end zero (suc n) (t ∷ ts) e =
    let h = drop_shorter n ts in
    absurd (omega (arith, h, e))
same_end (suc m) zero [] e = refl
same_end (suc m) zero (t ∷ ts) e =
    let h = drop_shorter m ts in
    absurd (omega (arith, h, e))
same_end (suc m) (suc n) [] e = refl
same_end (suc m) (suc n) (t ∷ ts) e = same_end m n ts e

-- where the tokens that follow the front are as many as those from which the places at the back were set
pub met : (ts guess rest end : List Token) (front front' back back' : List Member) → (n : ℕ) × (guess ≡ drop n ts) → InTurn ts front front' rest → InTurn guess back back' end → length rest ≡ length guess → InTurn ts (front ++ back) (front' ++ back') end
met ts guess rest end front front' back back' is f b e =
    let spelling = flat_map spell_member (member_views front) in
    let at : rest ≡ drop (length spelling) ts = f.behind ∙ behind_drop ts spelling in
    let same : guess ≡ rest = is.1 ∙ sym (same_end (length spelling) is.0 ts (sym (ap length at) ∙ e ∙ ap length is.1)) ∙ sym at in
    both_in_turn ts rest end front front' back back' f (subst (λ us. InTurn us back back' end) same b)

-- where the places at the back are set once more
pub once_more : (ts guess rest end last : List Token) (front front' back back' back'' : List Member) → InTurn ts front front' rest → InTurn guess back back' end → InTurn rest back' back'' last → InTurn ts (front ++ back) (front' ++ back'') last
once_more ts guess rest end last front front' back back' back'' f b c =
    let same = same_members guess end back back' b in
    both_in_turn ts rest last front front' back back'' f (record { placed = c.placed ∙ ap (λ ms. place_members rest ms) same; behind = c.behind ∙ ap (λ ms. behind rest (flat_map spell_member ms)) same })
