-- The size of what was read.
use Rattle.std.specs.Prelude.{ℕ, length, cond}
use Rattle.jn_front.specs.declared.source.SourceRead.{SourceRead}

abbrev pub counted_read : SourceRead → ℕ
counted_read read = cond read.whole (length read.file.bytes) 1048577
