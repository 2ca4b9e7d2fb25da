-- The limits.
use Rattle.std.proofs.Common.{◌≡◌, true, refl}
use Rattle.jn_base.specs.declared.code.Code.TheVariants.{B1, B2, B3}
use Rattle.jn_diag.specs.Order.{code_place}
use Rattle.jn_reporters.specs.Excerpts.{is_limit}

pub b1_is_limit : is_limit B1 ≡ true
unfolding code_place
b1_is_limit = refl

pub b2_is_limit : is_limit B2 ≡ true
unfolding code_place
b2_is_limit = refl

pub b3_is_limit : is_limit B3 ≡ true
unfolding code_place
b3_is_limit = refl
