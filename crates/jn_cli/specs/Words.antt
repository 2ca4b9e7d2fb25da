-- What the words of the command line mean.
use Rattle.std.specs.Prelude.{ℕ, ◌+◌, ◌-◌, ◌*◌, ◌==◌, ◌&&◌, ◌||◌, Bool, true, false, not, List, [], ◌∷◌, length, Option, Some, None, is_some, nat_le, codes, unwrap_or, option_and_then, if◌then◌else◌}
use Rattle.std.specs.List.{filter, list_all, slice_split}
use Rattle.std.specs.Char.{is_ascii_digit}
use Rattle.std.specs.Option.{option_map_or}
use Rattle.clap.specs.Words.{App, Row, first_of, matches_of}
use Rattle.jn_cli.specs.Tables.{app_with, infer_of, is_chosen, is_on, names_in, table, takes}
use Rattle.jn_cli.specs.declared.command.Command.{Command}
use Rattle.jn_cli.specs.declared.options.Options.{Options}

-- ---- the command as clap sees it

-- the command as a whole: eight options, and files
unfoldable pub nullcheck_app : App
nullcheck_app =
    app_with (table (codes "nullcheck")
    (codes "workers" ∷ codes "report" ∷ codes "infer" ∷ codes "steps" ∷ codes "words" ∷ codes "gen" ∷ codes "codes" ∷ [])
    (codes "run" ∷ []))

-- the command takes the words
abbrev pub takes_words : List (List ℕ) → Bool
takes_words words = takes nullcheck_app words

-- the options and files by their names among what clap matched
abbrev pub options_in : List Row → Options
options_in rows = record {
  workers = first_of (codes "workers") rows;
  report = first_of (codes "report") rows;
  infer = first_of (codes "infer") rows;
  run = is_on (first_of (codes "run") rows);
  steps = first_of (codes "steps") rows;
  words = first_of (codes "words") rows;
  classes = first_of (codes "gen") rows;
  codes = first_of (codes "codes") rows;
  files = names_in rows;
}

-- the texts that stand after the options
abbrev pub options_of : List (List ℕ) → Options
options_of words = options_in (matches_of nullcheck_app words)

-- ---- numbers

-- the number whose decimal digits are those of n, and then these
abbrev pub value_after : ℕ → List ℕ → ℕ
value_after n [] = n
value_after n (digit ∷ rest) = value_after (10 * n + (digit - 48)) rest

-- one to ten decimal digits
abbrev pub is_number : List ℕ → Bool
is_number text = nat_le 1 (length text) && nat_le (length text) 10 && list_all is_ascii_digit text

-- the number that a text writes in decimal; none where it isn't one to ten digits
unfoldable pub number_of : List ℕ → Option ℕ
number_of text = if is_number text then Some (value_after 0 text) else None

-- there is a number, and it is in the range, whose ends count too
abbrev pub is_within : ℕ → ℕ → Option ℕ → Bool
is_within least most number = option_map_or (λ n. nat_le least n && nat_le n most) number false

-- the option is absent, or a number in the range
abbrev pub fits : ℕ → ℕ → Option (List ℕ) → Bool
fits least most text = option_map_or (λ t. is_within least most (number_of t)) text true

-- the number that an option writes, or the default where it writes none
abbrev pub number_or : ℕ → Option (List ℕ) → ℕ
number_or default text = unwrap_or (option_and_then number_of text) default

-- ---- usage

-- a list has no element
abbrev pub is_empty : {X : Type 0} → List X → Bool
is_empty xs = length xs == 0

-- a name that a reporter may have: any but the empty one
abbrev pub is_report : List ℕ → Bool
is_report name = not (is_empty name)

-- an address where codes may be explained: any but the empty one
abbrev pub is_address : List ℕ → Bool
is_address address = not (is_empty address)

-- a value is not one that its option takes
abbrev pub has_bad_value : Options → Bool
has_bad_value o =
    not (fits 1 16 o.workers)
    || not (fits 1 1000000000 o.steps)
    || not (fits 1 500 o.classes)
    || not (option_map_or is_report o.report true)
    || not (is_chosen o.infer)
    || not (option_map_or is_address o.codes true)

-- neither a FILE nor --gen; --gen with a FILE or with --run; --steps or --words without --run
abbrev pub is_bad_mix : Options → Bool
is_bad_mix o =
    (is_empty o.files && not (is_some o.classes))
    || (is_some o.classes && (not (is_empty o.files) || o.run))
    || ((is_some o.steps || is_some o.words) && not o.run)

-- the options are none of a command: a value is bad, or they don't go together
abbrev pub are_refused : Options → Bool
are_refused o = has_bad_value o || is_bad_mix o

-- the words are no command, so the line on usage is the answer
abbrev pub is_usage : List (List ℕ) → Bool
is_usage words = not (takes_words words) || are_refused (options_of words)

-- ---- the command

-- a text split at spaces, without its empty pieces
abbrev pub pieces_of : List ℕ → List (List ℕ)
pieces_of text = filter (λ piece. not (is_empty piece)) (slice_split (λ byte. byte == 32) text)

-- the command that options ask for, with a default for each one that is absent
unfoldable pub command_of : Options → Command
command_of o = record {
  workers = number_or 4 o.workers;
  report = unwrap_or o.report (codes "plain");
  infer = infer_of o.infer;
  run = o.run;
  steps = number_or 1000000 o.steps;
  args = pieces_of (unwrap_or o.words []);
  classes = number_or 0 o.classes;
  codes = o.codes;
  files = o.files;
}
