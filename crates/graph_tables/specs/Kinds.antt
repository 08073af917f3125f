-- The kinds of nodes.
use Rattle.std.specs.Prelude.{ℕ}

abbrev pub plain_kind : ℕ
plain_kind = 0

abbrev pub grant_kind : ℕ
grant_kind = 1

abbrev pub draw_kind : ℕ
draw_kind = 2

abbrev pub call_kind : ℕ
call_kind = 3

abbrev pub return_kind : ℕ
return_kind = 4

abbrev pub throw_kind : ℕ
throw_kind = 5
