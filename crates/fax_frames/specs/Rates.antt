-- The data signalling rates (ITU-T T.30, Table 2, bits 11 to 14).
use Rattle.std.specs.Prelude.{ℕ, Bool, if◌then◌else◌}
use Rattle.fax_frames.specs.declared.rate.Rate.{Rate}
use Rattle.fax_frames.specs.declared.rate.Rate.TheVariants.{V27At2400, V27At4800, V29At7200, V29At9600, V17At7200, V17At9600, V17At12000, V17At14400}

-- bits a second
abbrev pub bits_a_second : Rate → ℕ
bits_a_second V27At2400 = 2400
bits_a_second V27At4800 = 4800
bits_a_second V29At7200 = 7200
bits_a_second V29At9600 = 9600
bits_a_second V17At7200 = 7200
bits_a_second V17At9600 = 9600
bits_a_second V17At12000 = 12_000
bits_a_second V17At14400 = 14_400

-- the type of its data (ITU-T T.38 of 1998, T30_DATA)
abbrev pub kind_of : Rate → ℕ
kind_of V27At2400 = 1
kind_of V27At4800 = 2
kind_of V29At7200 = 3
kind_of V29At9600 = 4
kind_of V17At7200 = 5
kind_of V17At9600 = 6
kind_of V17At12000 = 7
kind_of V17At14400 = 8

-- the indicator of its training: V.27ter and V.29 have one, V.17 a long and a short one (ITU-T T.38 of
-- 1998, T30_INDICATOR)
abbrev pub training_of : Rate → Bool → ℕ
training_of V27At2400 long = 4
training_of V27At4800 long = 5
training_of V29At7200 long = 6
training_of V29At9600 long = 7
training_of V17At7200 long = if long then 9 else 8
training_of V17At9600 long = if long then 11 else 10
training_of V17At12000 long = if long then 13 else 12
training_of V17At14400 long = if long then 15 else 14
