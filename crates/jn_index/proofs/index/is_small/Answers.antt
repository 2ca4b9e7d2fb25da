use Rattle.std.proofs.Common.{◌≡◌, ◌<◌, ℕ, Bool, false, leb, sym, ◌∙◌, arith}
use Rattle.jn_index.proofs.index.is_small.Goals as goal
use Rattle.jn_index.proofs.index.is_small.Goals.{then-len-most, else-len-most}

-- a number that isn't within a limit is above it
above : (n m : ℕ) → leb n m ≡ false → m < n
above n m e = grind arith

pub returns-then-len-most-2-clause-large : goal.returns-then-len-most-2-clause-large
returns-then-len-most-2-clause-large c e h = omega (arith, h.few_methods, above c.len-then-len-most-2.result 4294967295 e, c.len-then-len-most-2.ensures)

pub returns-else-len-most-2-clause-large : goal.returns-else-len-most-2-clause-large
returns-else-len-most-2-clause-large c e h =
    elim c.if-len-most.branch [
      | then-len-most w ↦ omega (arith, h.few_fields, above w.len-then-len-most.result 4294967295 (sym w.value-is ∙ e), w.len-then-len-most.ensures)
      | else-len-most w ↦ omega (arith, h.few_classes, w.if-len-most.false, c.len.ensures)
    ]
