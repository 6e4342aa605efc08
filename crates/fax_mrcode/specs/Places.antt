-- The places of two-dimensional coding (ITU-T T.4, 4.2.1.1). A coding step starts at a0, which is -1
-- at the start of a line. Here it is given by `from`, the place right of a0: a0 + 1. So the colour
-- at a0 is that before `from`, and places right of a0 are those from `from` on.
use Rattle.std.specs.Prelude.{ℕ, ◌+◌, ◌-◌, ◌&&◌, length}
use Rattle.fax_runcodes.specs.Rows.{Elements, differ, colour_at, colour_before, is_changing, first_place, other}

-- a1: the first place right of a0 whose colour on the coding line is not that at a0
unfoldable pub a1 : Elements → ℕ → ℕ
a1 row from =
    first_place (λ place. differ (colour_at row place) (colour_before row from)) from (length row)

-- a2: the first place right of a1 that has the colour at a0 again
unfoldable pub a2 : Elements → ℕ → ℕ
a2 row from = first_place (λ place.
    differ (colour_at row place) (other (colour_before row from))) (a1 row from + 1) (length row)

-- b1: the first changing element of the reference line right of a0 whose colour is not that at a0
unfoldable pub b1 : Elements → Elements → ℕ → ℕ
b1 reference row from = first_place (λ place. is_changing reference place
    && differ (colour_at reference place) (colour_before row from)) from (length row)

-- b2: the next changing element of the reference line after b1 (where there is a b1, the first place
-- right of it that has the colour at a0)
unfoldable pub b2 : Elements → Elements → ℕ → ℕ
b2 reference row from = first_place (is_changing reference) (b1 reference row from + 1) (length row)

-- where the first run of a horizontal step starts: at a0, or at the first element for a0 = -1
abbrev pub run_start : ℕ → ℕ
run_start from = from - 1
