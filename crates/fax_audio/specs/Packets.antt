-- Packets of RTP: the header (RFC 3550, 5.1) and the samples (RFC 3551, section 6; ITU-T G.711).
use Rattle.std.specs.Prelude.{ℕ, ◌+◌, cond, List, ◌∷◌, ◌++◌, Option, None, Some, replicate}
use Rattle.std.specs.Int.{w16, w32, to_be_bytes}
use Rattle.fax_audio.specs.declared.coding.Coding.{Coding}
use Rattle.fax_audio.specs.declared.coding.Coding.TheVariants.{MuLaw, ALaw}
use Rattle.fax_audio.specs.declared.header.Header.{Header}
use Rattle.fax_audio.specs.declared.signal.Signal.{Signal}
use Rattle.fax_audio.specs.Sounds.{table_of}

abbrev pub payload_type : Coding → ℕ
payload_type MuLaw = 0
payload_type ALaw = 8

-- the sample of least size, which is nothing heard
abbrev pub silence : Coding → ℕ
silence MuLaw = 255
silence ALaw = 213

-- version 2 and nothing else; the marker and the payload type; the number, the moment and the source
abbrev pub header_of : Header → List ℕ
header_of header = 128
    ∷ (cond header.is_first 128 0 + payload_type header.coding) ∷ (to_be_bytes w16 header.sequence
    ++ to_be_bytes w32 header.timestamp ++ to_be_bytes w32 header.ssrc)

-- 160 samples: a tone, or silence
abbrev pub samples_of : Option Signal → Coding → List ℕ
samples_of None coding = replicate 160 (silence coding)
samples_of (Some signal) coding = table_of signal coding ++ table_of signal coding
