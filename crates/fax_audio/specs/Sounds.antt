-- What is sounded when (ITU-T T.30, tonal signals): a packet has 20 ms.
use Rattle.std.specs.Prelude.{ℕ, ◌%◌, Bool, ◌&&◌, nat_le, nat_lt, List}
use Rattle.fax_audio.specs.declared.tones.TheConstants.{CED_MU_LAW, CED_A_LAW, CNG_MU_LAW, CNG_A_LAW}
use Rattle.fax_audio.specs.declared.coding.Coding.{Coding}
use Rattle.fax_audio.specs.declared.coding.Coding.TheVariants.{MuLaw, ALaw}
use Rattle.fax_audio.specs.declared.signal.Signal.{Signal}
use Rattle.fax_audio.specs.declared.signal.Signal.TheVariants.{Ced, Cng}

-- CED: from 2 s to 5 s; CNG: the first half second of each 3.5 s
abbrev pub sounds_at : Signal → ℕ → Bool
sounds_at Ced place = nat_le 100 place && nat_lt place 250
sounds_at Cng place = nat_lt (place % 175) 25

-- 80 samples of 2,100 Hz (CED) or of 1,100 Hz (CNG), 8,000 a second
abbrev pub table_of : Signal → Coding → List ℕ
table_of Ced MuLaw = CED_MU_LAW
table_of Ced ALaw = CED_A_LAW
table_of Cng MuLaw = CNG_MU_LAW
table_of Cng ALaw = CNG_A_LAW
