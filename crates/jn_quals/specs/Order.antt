-- Operations on qualifiers as sets of three bits (Summers and Mueller, OOPSLA 2011, section on types): order is inclusion, join is union.
use Rattle.std.specs.Prelude.{Bool, true, false, not, ◌&&◌, ◌||◌}
use Rattle.jn_quals.specs.Qualifier.{Qualifier}

-- nothing: what an unreached or plain value has
abbrev pub no_qual : Qualifier
no_qual = record { null = false; committed = false; free = false }

-- {N}: nothing but null, as the literal `null`
abbrev pub null_only : Qualifier
null_only = record { null = true; committed = false; free = false }

-- {C}: an initialized object and not null, as a text
abbrev pub committed_only : Qualifier
committed_only = record { null = false; committed = true; free = false }

-- {F}: an object under construction and not null, as `this` in a constructor
abbrev pub free_only : Qualifier
free_only = record { null = false; committed = false; free = true }

-- {N, C}: null or an initialized object
abbrev pub null_or_committed : Qualifier
null_or_committed = record { null = true; committed = true; free = false }

-- {N, C, F}: null, an initialized object or one under construction
abbrev pub all_quals : Qualifier
all_quals = record { null = true; committed = true; free = true }

-- union
abbrev pub join : Qualifier → Qualifier → Qualifier
join a b = record { null = a.null || b.null; committed = a.committed || b.committed; free = a.free || b.free }

-- inclusion
abbrev pub within : Qualifier → Qualifier → Bool
within a b = (not a.null || b.null) && (not a.committed || b.committed) && (not a.free || b.free)

-- what is left where the value isn't null
abbrev pub without_null : Qualifier → Qualifier
without_null a = record { null = false; committed = a.committed; free = a.free }

-- what is left where the value is no object under construction
abbrev pub without_free : Qualifier → Qualifier
without_free a = record { null = a.null; committed = a.committed; free = false }

-- what is left where the value is null
abbrev pub null_part : Qualifier → Qualifier
null_part a = record { null = a.null; committed = false; free = false }

-- free becomes committed
abbrev pub settle : Qualifier → Qualifier
settle a = record { null = a.null; committed = a.committed || a.free; free = false }

-- whether none of the three bits is set, so that no reference can be there
abbrev pub is_none : Qualifier → Bool
is_none a = not (a.null || (a.committed || a.free))
