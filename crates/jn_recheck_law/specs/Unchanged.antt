-- Which bodies of a program send what the bodies of those numbers sent in an earlier one.
use Rattle.std.specs.Prelude.{ℕ}
use Rattle.jn_points.specs.Lookup.{body_at}
use Rattle.jn_inference_law.specs.Reading.{body_reads}
use Rattle.jn_recheck_law.specs.Alike.{SameDeclarations}
use Rattle.jn_recheck_law.specs.Slots.{Agree}
use Rattle.jn_recheck_law.specs.Reusable.{ActAlike, Solved}

-- the programs declare the same, the bodies do the same, wherever their points stand and whatever the texts of their strings, and the signatures agree on
-- the slots that a body reads when it runs; this asks for fewer slots than rows do, since what is sent into a slot depends neither on a place nor on what
-- stands there
pub record IsUnchanged (old new : Solved) (b : ℕ) : Type 0 where
  pub declarations : SameDeclarations old.names new.names old.program new.program
  pub body : ActAlike (body_at old.program b) (body_at new.program b)
  pub slots : Agree old.signature new.signature (body_reads new.program b)
