-- The numbers with which a program ends that has no words to go by.
use Rattle.std.specs.Prelude.{ℕ}
use Rattle.jn_host.specs.declared.host.NoWords.{NoWords}
use Rattle.jn_host.specs.declared.host.NoWords.TheVariants.{OutOfMemory, NotText}

abbrev pub number : NoWords → ℕ
number OutOfMemory = 7
number NotText = 8
