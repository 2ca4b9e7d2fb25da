-- Points but for the number of a string.
use Rattle.std.proofs.Common.{◌≡◌, Bool, true, false, refl, sym, ap, ◌∙◌}
use Rattle.std.specs.Prelude.{◌↔◌}
use Rattle.jn_base.specs.declared.number.RegNo.{RegNo}
use Rattle.jn_points.specs.declared.point.Literal.{Literal}
use Rattle.jn_points.specs.declared.point.Literal.TheVariants.{Int, Truth, Str, Null}
use Rattle.jn_points.specs.declared.point.PointKind.{PointKind}
use Rattle.jn_points.specs.declared.point.PointKind.TheVariants.{Const}
use Rattle.jn_recheck_law.specs.Alike.{bare_kind}

abbrev pub is_const : PointKind → Bool
is_const (Const dst value) = true
is_const kind = false

bare_const : (k : PointKind) → is_const (bare_kind k) ≡ is_const k
bare_const (Const dst (Int n)) = refl
bare_const (Const dst (Truth n)) = refl
bare_const (Const dst (Str n)) = refl
bare_const (Const dst Null) = refl
bare_const k = refl

never : true ≡ false → ⊥
never e = cc

bare_plain : (k : PointKind) → is_const k ≡ false → bare_kind k ≡ k
bare_plain (Const dst value) e = absurd (never e)
bare_plain k e = refl

-- points without a literal are alike where they are equal
pub plain_alike : (x y : PointKind) (r : Bool) → is_const x ≡ false → (r ≡ true) ↔ (x ≡ y) → (r ≡ true) ↔ (bare_kind x ≡ bare_kind y)
plain_alike x y r plain h = (
  (λ e. ap bare_kind (h.0 e)),
  (λ e. h.1 (sym (bare_plain x plain) ∙ e ∙ bare_plain y (sym (bare_const y) ∙ ap is_const (sym e) ∙ bare_const x ∙ plain))),
)

-- a literal and what is none
pub const_apart : (dst : RegNo) (value : Literal) (y : PointKind) → is_const y ≡ false → (false ≡ true) ↔ (bare_kind (Const dst value) ≡ bare_kind y)
const_apart dst value y plain = (
  (λ e. absurd (never (sym e))),
  (λ e. absurd (never (sym (bare_const (Const dst value)) ∙ ap is_const e ∙ bare_const y ∙ plain))),
)
