-- Ends of runs, and what operations give, as those of the definition.
use Rattle.jn_machine.specs.declared.prim.End.{End as Ended}
use Rattle.jn_machine.specs.declared.prim.End.TheVariants.{Done as IsDone, Arithmetic as IsArithmetic, Index as IsIndex, NegativeSize as IsNegativeSize, ClassCast as IsClassCast, ArrayStore as IsArrayStore, Deep as IsDeep, Long as IsLong}
use Rattle.jn_machine.specs.declared.prim.Got.{Got as Answer}
use Rattle.jn_machine.specs.declared.prim.Got.TheVariants.{Gives as IsGiven, Fails as HasFailed, Lacks as HasNone}
use Rattle.jn_heap.specs.Values.{End, Done, Arithmetic, Index, NegativeSize, ClassCast, ArrayStore, Deep, Long, Got, Gives, Fails, Lacks}

abbrev pub end_of : Ended → End
end_of IsDone = Done
end_of IsArithmetic = Arithmetic
end_of IsIndex = Index
end_of IsNegativeSize = NegativeSize
end_of IsClassCast = ClassCast
end_of IsArrayStore = ArrayStore
end_of IsDeep = Deep
end_of IsLong = Long

abbrev pub answer_of : {A : Type 0} → Answer A → Got A
answer_of (IsGiven x) = Gives x
answer_of (HasFailed e) = Fails (end_of e)
answer_of HasNone = Lacks
