-- Rows as reporters are given them.
use Rattle.std.specs.Prelude.{ℕ, List, [], if◌then◌else◌}
use Rattle.jn_base.specs.declared.code.Code.{Code}
use Rattle.jn_base.specs.declared.place.Place.{Place}
use Rattle.jn_base.specs.declared.place.Row.{Row}
use Rattle.jn_base.specs.declared.place.Span.{Span}
use Rattle.jn_base.specs.Place.{place_in}
use Rattle.jn_diag.specs.Shown.{row_shown}
use Rattle.jn_reporters.specs.Excerpts.{extract_for, is_limit}
use Rattle.jn_reporters.specs.declared.shown.ShownRow.{ShownRow}

-- how many bytes stand before the end of a row; one of a limit, which shows no line, ends where it begins
abbrev pub end_of : Code → Span → ℕ
end_of code span = if is_limit code then span.from else span.to

-- the place of what stands after a row
abbrev pub end_in : Code → List ℕ → Span → Place
end_in code text span = place_in text (record span { from = end_of code span })

-- a row of a file of this name and this text, without notes
abbrev pub row_view : List ℕ → List ℕ → Row → ShownRow
row_view name text row =
    let end = end_in row.code text row.span in
    record { text = row_shown name text row; end_line = end.line; end_col = end.col; extract = extract_for row.code text row.span; notes = []; more = 0 }
