-- Temporaries that need not be looked at again: those of a type below a number are all taken.
use Rattle.std.specs.Prelude.{ℕ, zero, suc, ◌+◌, ◌≡◌, Bool, false, cond, not, ◌&&◌, List, [], ◌∷◌}
use Rattle.jn_points.specs.declared.point.BaseType.{BaseType}
use Rattle.jn_lowering.specs.Temporaries.{is_among, same_base}
use Rattle.jn_lower_expr.specs.declared.ways.Way.{Way}

-- none of the first n, which begin at number i, is of the type and not taken
abbrev pub Passes : ℕ → ℕ → List BaseType → List ℕ → BaseType → Type 0
Passes i zero bases taken base = Unit {0}
Passes i (suc n) [] taken base = ⊥
Passes i (suc n) (b ∷ bs) taken base = ((same_base b base && not (is_among i taken)) ≡ false) × Passes (i + 1) n bs taken base

-- so it is for each of these types and its number
abbrev pub AllPast : List BaseType → List ℕ → List Way → Type 0
AllPast bases taken [] = Unit {0}
AllPast bases taken (w ∷ ws) = Passes 0 w.from bases taken w.base × AllPast bases taken ws

-- the number of the type: that of the first one there, else 0
abbrev pub begin : List Way → BaseType → ℕ
begin [] base = 0
begin (w ∷ ws) base = cond (same_base w.base base) w.from (begin ws base)
