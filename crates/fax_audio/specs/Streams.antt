-- Streams: which packet is sent when, and how it is numbered (RFC 3550, 5.1).
use Rattle.std.specs.Prelude.{ℕ, ◌+◌, ◌-◌, ◌*◌, ◌/◌, ◌%◌, ◌^◌, min, Bool, nat_eq, nat_le, nat_lt, if◌then◌else◌, List, ◌++◌, Option, None, Some}
use Rattle.fax_audio.specs.declared.coding.Coding.{Coding}
use Rattle.fax_audio.specs.declared.header.Header.{Header}
use Rattle.fax_audio.specs.declared.signal.Signal.{Signal}
use Rattle.fax_audio.specs.declared.stream.Start.{Start}
use Rattle.fax_audio.specs.declared.stream.Stream.{Stream}
use Rattle.fax_audio.specs.Packets.{header_of, samples_of}
use Rattle.fax_audio.specs.Sounds.{sounds_at}

abbrev pub begun : Coding → Signal → Start → ℕ → Stream
begun coding signal start now =
    record { coding = coding; signal = signal; start = start; began = now; sent = 0; place = 0 }

-- a number of 64 bits
abbrev pub at_most : ℕ → ℕ
at_most n = min n (2 ^ 64 - 1)

-- the next packet is due 20 ms after the one before
abbrev pub due_of : Stream → ℕ
due_of stream = at_most (stream.began + at_most (stream.place * 20))

-- the packet that is due next, or that of the moment, where it is 200 ms late
abbrev pub place_of : Stream → ℕ → ℕ
place_of stream now =
    if nat_lt (now - due_of stream) 200 then stream.place else (now - stream.began) / 20

abbrev pub tone_of : Signal → ℕ → Option Signal
tone_of signal place = if sounds_at signal place then Some signal else None

-- numbers count the packets that are sent, moments the samples that passed; both go round
abbrev pub header_at : Stream → ℕ → Header
header_at stream place = record {
  is_first = nat_eq stream.sent 0;
  coding = stream.coding;
  sequence = (stream.start.sequence + stream.sent) % 2 ^ 16;
  timestamp = (stream.start.timestamp + 160 * place) % 2 ^ 32;
  ssrc = stream.start.ssrc;
}

abbrev pub packet_of : Stream → ℕ → List ℕ
packet_of stream place =
    header_of (header_at stream place) ++ samples_of (tone_of stream.signal place) stream.coding

-- THE PACKET THAT IS DUE at a moment
abbrev pub packet_at : Stream → ℕ → Option (List ℕ)
packet_at stream now =
    if nat_lt now (due_of stream) then None else Some (packet_of stream (place_of stream now))

abbrev pub after_packet : Stream → ℕ → Stream
after_packet stream now = if nat_lt now (due_of stream) then stream else record stream {
  sent = at_most (stream.sent + 1);
  place = at_most (place_of stream now + 1);
}
