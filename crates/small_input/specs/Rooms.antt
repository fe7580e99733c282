-- How much room is lent.
use Rattle.std.specs.Prelude.{ℕ, ◌+◌, ◌*◌}
use Rattle.rules.specs.Limits.{most_horizon, most_subnets}

abbrev pub kib : ℕ
kib = 1_024

-- a text, and one byte more
abbrev pub text_room : ℕ
text_room = 16 * kib + 1

abbrev pub table_room : ℕ
table_room = 12 * kib

abbrev pub sample_room : ℕ
sample_room = 8 * kib

-- a path, and the 0 that ends it
abbrev pub path_room : ℕ
path_room = 4 * kib

abbrev pub merged_room : ℕ
merged_room = 64 * kib

-- H numbers for each subnet, at most
abbrev pub most_curves : ℕ
most_curves = most_subnets * most_horizon
