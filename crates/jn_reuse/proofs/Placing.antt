-- Operands with their places or without.
use Rattle.std.proofs.Common.{◌≡◌, ℕ, ◌+◌, Bool, true, false, List, [], ◌∷◌, drop, get_or, Option, Some, None, refl, sym, ap, ◌∙◌}
use Rattle.std.specs.Prelude.{◌↔◌, map, option_map}
use Rattle.jn_points.specs.declared.point.Operand.{Operand}
use Rattle.jn_points.specs.declared.point.PointKind.{PointKind}
use Rattle.jn_points.specs.declared.point.PointKind.TheVariants.{Const, Move, Unary, Binary, Concat, SameRef, FieldRead, FieldWrite, StaticRead, StaticWrite, ElemRead, ElemWrite, ArrayLen, NewArray, ArrayOf, New, CtorCall, Call, StrOp, Print, Cast, TestInst, TestNull, Branch, Goto, Return}
use Rattle.jn_recheck_law.specs.Alike.{AllAlike, acting_kind, bare_kind as bare_string}
use Rattle.jn_places_law.specs.Bare.{bare_kind, bare_operand, bare_operands, bare_optional}
use Rattle.jn_reuse.specs.Seen.{SameRegister, seen, seen_all, seen_kind, seen_maybe}

-- with places each is as it is
all_placed : (xs : List Operand) → seen_all true xs ≡ xs
all_placed [] = refl
all_placed (x ∷ xs) = ap (λ (ys : List Operand). x ∷ ys) (all_placed xs)

maybe_placed : (o : Option Operand) → seen_maybe true o ≡ o
maybe_placed None = refl
maybe_placed (Some a) = refl

-- without places each is bare
all_bare : (xs : List Operand) → seen_all false xs ≡ bare_operands xs
all_bare [] = refl
all_bare (x ∷ xs) = ap (λ (ys : List Operand). bare_operand x ∷ ys) (all_bare xs)

maybe_bare : (o : Option Operand) → seen_maybe false o ≡ bare_optional o
maybe_bare None = refl
maybe_bare (Some a) = refl

pub kind_placed : (k : PointKind) → seen_kind true k ≡ k
kind_placed (ArrayOf dst base xs) = ap (ArrayOf dst base) (all_placed xs)
kind_placed (New dst m args) = ap (New dst m) (all_placed args)
kind_placed (CtorCall m args own) = ap (λ (xs : List Operand). CtorCall m xs own) (all_placed args)
kind_placed (Call dst m r direct args) = (λ i. Call dst m (maybe_placed r i) direct (all_placed args i))
kind_placed (StrOp dst op of other) = ap (StrOp dst op of) (maybe_placed other)
kind_placed (Return v) = ap Return (maybe_placed v)
kind_placed k = refl

pub kind_unplaced : (k : PointKind) → seen_kind false k ≡ bare_kind k
kind_unplaced (ArrayOf dst base xs) = ap (ArrayOf dst base) (all_bare xs)
kind_unplaced (New dst m args) = ap (New dst m) (all_bare args)
kind_unplaced (CtorCall m args own) = ap (λ (xs : List Operand). CtorCall m xs own) (all_bare args)
kind_unplaced (Call dst m r direct args) = (λ i. Call dst m (maybe_bare r i) direct (all_bare args i))
kind_unplaced (StrOp dst op of other) = ap (StrOp dst op (bare_operand of)) (maybe_bare other)
kind_unplaced (Return v) = ap Return (maybe_bare v)
kind_unplaced k = refl

-- lists of operands with one register each
listed : (i : ℕ) (xs ys : List Operand) → AllAlike SameRegister i xs ys → seen_all false xs ≡ seen_all false ys
listed i [] [] h = refl
listed i [] (y ∷ ys) h = absurd h
listed i (x ∷ xs) [] h = absurd h
listed i (x ∷ xs) (y ∷ ys) h =
    let one = h.0 in
    let rest = listed (i + 1) xs ys h.1 in
    (λ j. one j ∷ rest j)

unlisted : (i : ℕ) (xs ys : List Operand) → seen_all false xs ≡ seen_all false ys → AllAlike SameRegister i xs ys
unlisted i [] [] e = tt
unlisted i [] (y ∷ ys) e = absurd cc
unlisted i (x ∷ xs) [] e = absurd cc
unlisted i (x ∷ xs) (y ∷ ys) e = (ap (λ (us : List Operand). get_or us 0 (bare_operand x)) e, unlisted (i + 1) xs ys (ap (drop 1) e))

pub all_seen : (xs ys : List Operand) (r : Bool) → (r ≡ true) ↔ (xs ≡ ys) → (r ≡ true) ↔ (seen_all true xs ≡ seen_all true ys)
all_seen xs ys r h = (
  (λ e. all_placed xs ∙ h.0 e ∙ sym (all_placed ys)),
  (λ e. h.1 (sym (all_placed xs) ∙ e ∙ all_placed ys)),
)

pub registers_seen : (xs ys : List Operand) (r : Bool) → (r ≡ true) ↔ AllAlike SameRegister 0 xs ys → (r ≡ true) ↔ (seen_all false xs ≡ seen_all false ys)
registers_seen xs ys r h = ((λ e. listed 0 xs ys (h.0 e)), (λ e. h.1 (unlisted 0 xs ys e)))

-- points that do the same, as they are and without the places of operands
pub placed_same : (x y : PointKind) (r : Bool) → (r ≡ true) ↔ (bare_string (seen_kind true x) ≡ bare_string (seen_kind true y)) → (r ≡ true) ↔ (bare_string x ≡ bare_string y)
placed_same x y r h = (
  (λ e. sym (ap bare_string (kind_placed x)) ∙ h.0 e ∙ ap bare_string (kind_placed y)),
  (λ e. h.1 (ap bare_string (kind_placed x) ∙ e ∙ sym (ap bare_string (kind_placed y)))),
)

pub unplaced_same : (x y : PointKind) (r : Bool) → (r ≡ true) ↔ (bare_string (seen_kind false x) ≡ bare_string (seen_kind false y)) → (r ≡ true) ↔ (acting_kind x ≡ acting_kind y)
unplaced_same x y r h = (
  (λ e. sym (ap bare_string (kind_unplaced x)) ∙ h.0 e ∙ ap bare_string (kind_unplaced y)),
  (λ e. h.1 (ap bare_string (kind_unplaced x) ∙ e ∙ sym (ap bare_string (kind_unplaced y)))),
)
