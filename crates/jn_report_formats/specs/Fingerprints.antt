-- Fingerprints, by which a row is known again when lines around its own change.
use Rattle.std.specs.Prelude.{ℕ, ◌*◌, ◌%◌, ◌^◌, ◌==◌, ◌||◌, bit_xor, Bool, List, [], ◌∷◌, Option, Some, None, if◌then◌else◌}
use Rattle.jn_base.specs.Codes.{code_name}
use Rattle.jn_base.specs.declared.code.Code.{Code}
use Rattle.jn_reporters.specs.declared.shown.Extract.{Extract}

-- a space or a tab, which say nothing: a line may be indented anew
abbrev pub is_blank : ℕ → Bool
is_blank byte = byte == 32 || byte == 9

-- the hash FNV-1a of 64 bits (Fowler, Noll and Vo): what stands for no bytes, and one byte more
abbrev pub print_begin : ℕ
print_begin = 14695981039346656037

abbrev pub print_byte : ℕ → ℕ → ℕ
print_byte print byte = if is_blank byte then print else (bit_xor print byte * 1099511628211) % 2 ^ 64

-- the same after the bytes of a text that aren't blank
abbrev pub printed : ℕ → List ℕ → ℕ
printed print [] = print
printed print (byte ∷ rest) = printed (print_byte print byte) rest

-- of a code and of what is shown of a line, and once more of what is the row's, so that rows of one line differ where their texts do
abbrev pub print_of : Code → Extract → ℕ
print_of code e = printed (printed (printed (printed (printed print_begin (code_name code)) e.before) e.marked) e.behind) e.marked

-- none where no line is shown
abbrev pub print_for : Code → Option Extract → Option ℕ
print_for code None = None
print_for code (Some e) = Some (print_of code e)
