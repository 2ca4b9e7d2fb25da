-- The numbers of the statuses, and what some tell.
use Rattle.std.specs.Prelude.{ℕ}
use Rattle.jn_command.specs.declared.status.Status.{Status}
use Rattle.jn_command.specs.declared.status.Status.TheVariants.{Ok, Rejected, Refused, RunFault, Stopped, ReadFault, WriteFault, OutOfMemory, Usage}

-- the number with which the process exits
abbrev pub number_of : Status → ℕ
number_of Ok = 0
number_of Rejected = 1
number_of Refused = 2
number_of RunFault = 3
number_of Stopped = 4
number_of ReadFault = 5
number_of WriteFault = 6
number_of OutOfMemory = 7
number_of Usage = 64

-- statuses of accepted files: there is nothing to run, or the run came to an end or to a limit
abbrev pub IsAcceptance : Status → Type 0
IsAcceptance Ok = Unit {0}
IsAcceptance RunFault = Unit {0}
IsAcceptance Stopped = Unit {0}
IsAcceptance Rejected = ⊥
IsAcceptance Refused = ⊥
IsAcceptance ReadFault = ⊥
IsAcceptance WriteFault = ⊥
IsAcceptance OutOfMemory = ⊥
IsAcceptance Usage = ⊥
